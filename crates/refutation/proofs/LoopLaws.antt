-- A refutation's records in turn. The loop's invariant: the verdict from here, on the clauses that memory holds, is the verdict from the start.
-- Assumes nothing.
use Prim.Native.Nat.{ℕ, zero, suc, ◌+◌, ◌-◌, ◌≤◌, ◌<◌}
use mathlib.Core.Path.{◌≡◌, refl, sym, ap, ◌∙◌}
use mathlib.Core.Bool.{Bool, true, false}
use mathlib.Core.List.{List, [], ◌∷◌, ◌++◌}
use native.Mathlib.Omega.{arith}
use lib.ListN.{length, drop, length-drop}
use Rattle.std.specs.Prelude.{Ok, Err}
use Rattle.rules.specs.declared.Limits.{Limits}
use Rattle.rules.specs.declared.refusals.Fault.{Fault}
use Rattle.rules.specs.declared.refusals.Fault.TheVariants.{NotEmpty}
use Rattle.rules.specs.Fault.{number_of}
use Rattle.rules.specs.Walk.{◌at◌, move_at}
use Rattle.rules.specs.Certificate
use Rattle.rules.specs.Certificate.{steps_reader}
use Rattle.rules.specs.Clauses
use Rattle.rules.specs.Resolution.{derive, is_empty, Derived.fault}
use Rattle.rules.specs.Verdict.{Verdict.refused}
use Rattle.refutation.specs.Memory.{slot_at, Held, Room, Fit, Outside}
use Rattle.refutation.specs.Steps.{step_of, Follows, Follows.refuses as declined, Follows.derives, FitNext, Stepped}
use Rattle.refutation.specs.Judging.{marked, Beyond, MarkAt, Case, verdict, Stands, Ends, Ends.refuses, Ends.closes, Judged}
use Rattle.refutation.specs.declared.Numbers.{Numbers}
use Rattle.refutation.specs.declared.marks.Mark.{Mark}
use Rattle.refutation.specs.declared.marks.Mark.TheVariants.{Step, Qed}
use Rattle.refutation.specs.declared.marks.Marked.{Marked}
use Rattle.refutation.proofs.PartLaws.{outside_same, outside_then, outside_wide}
use Rattle.refutation.proofs.SlotLaws.{slots_rise}
use Rattle.refutation.proofs.JudgeLaws.{further, moved, on_bad, on_qed_wrong, on_qed_right, on_step_fault, on_step}

pub record Reached (l : Limits) (c : List ℕ) (p₀ : ℕ) (w : List ℕ) (n from m : ℕ) (b : Bool) (p : ℕ) (x : Case) : Type 0 where
  pub clauses : List Clauses.Clause
  pub fuel : ℕ
  pub few : x.qeds < 3
  pub held : Held l w n from m clauses
  pub enough : length (drop p c) < fuel
  pub same : verdict l c p₀ 0 false x ≡ verdict l c p m b (moved x clauses fuel)

pub record Stepping (l : Limits) (c : List ℕ) (p₀ : ℕ) (w₀ : List ℕ) (n from : ℕ) (w : List ℕ) (m : ℕ) (b : Bool) (p : ℕ) : Type 0 where
  pub fit : Fit l w n from m
  pub long : length w ≡ length w₀
  pub outside : Outside from (slot_at l from (l.steps + 1)) w₀ w
  pub goes : (x : Case) → Stands l w₀ n from 0 c p₀ x → Reached l c p₀ w n from m b p x

pub begins : (l : Limits) (c : List ℕ) (p : ℕ) (w : List ℕ) (n from : ℕ) → Room l w n from → Stepping l c p w n from w 0 false p
begins l c p w n from h = record {
  fit = record { space = h; few = omega arith; small = λ j k. absurd (omega arith) };
  long = refl;
  outside = outside_same from (slot_at l from (l.steps + 1)) w;
  goes = λ x s. record { clauses = x.clauses; fuel = x.fuel; few = s.few; held = s.held; enough = s.enough; same = refl };
}

-- a bound that is not used up yet
spend : (P : ℕ → Type 0) (a f : ℕ) → a < f → ((g : ℕ) → a ≤ g → P (suc g)) → P f
spend P a zero h k = absurd (omega arith)
spend P a (suc g) h k = k g (omega arith)

-- what a STEP's answer tells once it is known
declined_of : {l : Limits} {w : List ℕ} {n from m : ℕ} {cs : List Clauses.Clause} {q : Certificate.Step} {f : Fault}
    → Follows l w n from m cs q (Err f) → derive l cs m q ≡ fault (number_of f)
declined_of (declined h) = h

pub record Derivation (l : Limits) (w : List ℕ) (n from m : ℕ) (cs : List Clauses.Clause) (q : Certificate.Step) (b : Bool) : Type 0 where
  pub clause : Clauses.Clause
  pub is : derive l cs m q ≡ Rattle.rules.specs.Resolution.Derived.clause clause
  pub empty : b ≡ is_empty clause
  pub held : Held l w n from (m + 1) (cs ++ (clause ∷ []))

derived_of : {l : Limits} {w : List ℕ} {n from m : ℕ} {cs : List Clauses.Clause} {q : Certificate.Step} {b : Bool}
    → Follows l w n from m cs q (Ok b) → Derivation l w n from m cs q b
derived_of (derives e h i j) = record { clause = e; is = h; empty = i; held = j }

-- a STEP changes its own slot alone
slot_outside : (l : Limits) (w w' : List ℕ) (n from m : ℕ) → Fit l w n from m → Outside (slot_at l from m) (slot_at l from (m + 1)) w w'
    → Outside from (slot_at l from (l.steps + 1)) w w'
slot_outside l w w' n from m f o = outside_wide (slot_at l from m) (slot_at l from (m + 1)) from (slot_at l from (l.steps + 1)) w w' o (omega arith) last
  where
    last : slot_at l from (m + 1) ≤ slot_at l from (l.steps + 1)
    last = slots_rise l from (m + 1) (l.steps + 1) (omega (arith, f.few))

-- fewer bytes are left after a record
shrunk : (c : List ℕ) (p next f : ℕ) → Beyond c p next → length (drop p c) ≤ f → length (drop next c) < f
shrunk c p next f o h =
    let k : length c - p ≤ f = rw length-drop at h in
    let i = further c p next o in
    rw length-drop (omega (arith, o.within))

module _ (l : Limits) (c : List ℕ) (p₀ : ℕ) (w₀ : List ℕ) (n from : ℕ) (w : List ℕ) (m : ℕ) (b : Bool) (p : ℕ) (i : Stepping l c p₀ w₀ n from w m b p) where
  pub ends_bad : (f : Fault) → MarkAt c p (Err f) → Judged l c p₀ w₀ n from w (Err (record { fault = f; place = p }))
  ends_bad f e = record {
    ends = λ x s.
        let g = i.goes x s in
        let P : ℕ → Type 0 = λ k. verdict l c p m b (moved x g.clauses k) ≡ refused (number_of f at p) in
        refuses (g.same ∙ spend P (length (drop p c)) g.fuel g.enough (λ k j. on_bad l c p m b x g.clauses k (number_of f) (e.is x.qeds g.few)));
    outside = i.outside;
  }

  module _ (r : Marked) (e : MarkAt c p (Ok r)) where
    -- the rules' move, once it is known which mark it is
    move : (k : ℕ) (q : Mark) → k < 3 → r.mark ≡ q → move_at steps_reader k (drop p c) ≡ marked q k
    move k q few h = e.is k few ∙ ap (λ (y : Mark). marked y k) h

    module _ (h : r.mark ≡ Qed) where
      pub ends_qed_wrong : b ≡ false → Judged l c p₀ w₀ n from w (Err (record { fault = NotEmpty; place = p }))
      ends_qed_wrong z = record {
        ends = λ x s.
            let g = i.goes x s in
            let P : ℕ → Type 0 = λ k. verdict l c p m b (moved x g.clauses k) ≡ refused (22 at p) in
            refuses (g.same ∙ spend P (length (drop p c)) g.fuel g.enough (λ k j. on_qed_wrong l c p m b x g.clauses k (move x.qeds Qed g.few h) z));
        outside = i.outside;
      }

      pub ends_qed_right : b ≡ true → Judged l c p₀ w₀ n from w (Ok r.next)
      ends_qed_right z = record {
        ends = λ x s.
            let g = i.goes x s in
            let P : ℕ → Type 0 = λ k. verdict l c p₀ 0 false x ≡ verdict l c p m b (moved x g.clauses k) → Ends l c p₀ x (Ok r.next) in
            spend P (length (drop p c)) g.fuel g.enough
            (λ k j y. closes k (shrunk c p r.next k e.next j) (y ∙ on_qed_right l c p m b x g.clauses k r.next e.next (move x.qeds Qed g.few h) z))
            g.same;
        outside = i.outside;
      }

    module _ (q : Numbers) (h : r.mark ≡ Step q) (w' : List ℕ) where
      outsides : Outside (slot_at l from m) (slot_at l from (m + 1)) w w' → Outside from (slot_at l from (l.steps + 1)) w₀ w'
      outsides o = outside_then from (slot_at l from (l.steps + 1)) w₀ w w' i.outside (slot_outside l w w' n from m i.fit o)

      pub ends_step : (f : Fault) → Stepped l w n from m (step_of q) w' (Err f) → Judged l c p₀ w₀ n from w' (Err (record { fault = f; place = p }))
      ends_step f u = record {
        ends = λ x s.
            let g = i.goes x s in
            let y = declined_of (u.follows g.clauses g.held) in
            let P : ℕ → Type 0 = λ k. verdict l c p m b (moved x g.clauses k) ≡ refused (number_of f at p) in
            refuses
            (g.same
            ∙ spend P (length (drop p c)) g.fuel g.enough
            (λ k j. on_step_fault l c p m b x g.clauses k r.next e.next (step_of q) (move x.qeds (Step q) g.few h) (number_of f) y));
        outside = outsides u.outside;
      }

      pub step_on : (b' : Bool) → Stepped l w n from m (step_of q) w' (Ok b') → length w' ≡ length w → Stepping l c p₀ w₀ n from w' (m + 1) b' r.next
      unfolding FitNext
      step_on b' u long = record {
        fit = u.fit;
        long = long ∙ i.long;
        outside = outsides u.outside;
        goes = λ x s.
            let g = i.goes x s in
            let y = derived_of (u.follows g.clauses g.held) in
            let P : ℕ → Type 0 = λ k. verdict l c p₀ 0 false x ≡ verdict l c p m b (moved x g.clauses k) → Reached l c p₀ w' n from (m + 1) b' r.next x in
            spend P (length (drop p c)) g.fuel g.enough
            (λ k j v. record {
              clauses = g.clauses ++ (y.clause ∷ []);
              fuel = k;
              few = g.few;
              held = y.held;
              enough = shrunk c p r.next k e.next j;
              same = v ∙ on_step l c p m b x g.clauses k r.next e.next (step_of q) (move x.qeds (Step q) g.few h) y.clause y.is
                  ∙ ap (λ (t : Bool). verdict l c r.next (m + 1) t (moved x (g.clauses ++ (y.clause ∷ [])) k)) (sym y.empty);
            })
            g.same;
      }
