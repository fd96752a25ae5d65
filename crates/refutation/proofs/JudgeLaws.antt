-- One record of a refutation: where it ends, and what the rules' verdict makes of it.
-- Assumes nothing.
use Prim.Native.Nat.{ℕ, suc, ◌+◌, ◌-◌, ◌<◌}
use mathlib.Core.Path.{◌≡◌, sym, ap, ◌∙◌}
use mathlib.Core.Bool.{Bool, true, false}
use mathlib.Core.List.{List, [], ◌∷◌, ◌++◌}
use native.Mathlib.Omega.{arith}
use lib.ListN.{length, get_or, drop}
use lib.Seq.{drop-drop}
use Rattle.rules.specs.declared.Limits.{Limits}
use Rattle.rules.specs.Record.{record_length}
use Rattle.rules.specs.Walk.{◌at◌, Move.mark, Move.no, move_at, past, walk}
use Rattle.rules.specs.Certificate.{Step, Mark.step, Mark.qed, steps_reader}
use Rattle.rules.specs.Clauses
use Rattle.rules.specs.Resolution.{derive, is_empty, Derived.clause, Derived.fault}
use Rattle.rules.specs.Verdict.{Verdict.refused, judge_steps}
use Rattle.refutation.specs.Judging.{Beyond, Case, verdict, verdict_next}

-- a whole record takes a byte at least
pub further : (c : List ℕ) (p next : ℕ) → Beyond c p next → p < next
unfolding record_length
further c p next o = omega (arith, o.is)

pub nearer : (c : List ℕ) (p next : ℕ) → Beyond c p next → length c - next < length c - p
nearer c p next o = let h = further c p next o in omega (arith, o.within)

-- the same refutation with these clauses and this bound
abbrev pub moved : Case → List Clauses.Clause → ℕ → Case
moved x cs f = record {
  sheet = x.sheet;
  invariant = x.invariant;
  bytes = x.bytes;
  which = x.which;
  clauses = cs;
  qeds = x.qeds;
  fuel = f;
}

-- one record of the walk, where there is a bound for it
module _ (l : Limits) (c : List ℕ) (p m : ℕ) (b : Bool) (x : Case) (cs : List Clauses.Clause) (f : ℕ) where
  pub on_bad : (k : ℕ) → move_at steps_reader x.qeds (drop p c) ≡ no k → verdict l c p m b (moved x cs (suc f)) ≡ refused (k at p)
  unfolding walk judge_steps
  on_bad k i = rw (walk, i, judge_steps)

  pub on_qed_wrong : move_at steps_reader x.qeds (drop p c) ≡ mark qed (x.qeds + 1) → b ≡ false → verdict l c p m b (moved x cs (suc f)) ≡ refused (22 at p)
  unfolding walk judge_steps
  on_qed_wrong i z = rw (walk, i, judge_steps, z)

  module _ (next : ℕ) (o : Beyond c p next) where
    rest_at : (k : ℕ) → walk steps_reader f (past (drop p c)) (p + record_length (get_or (drop p c) 0 0)) k ≡ walk steps_reader f (drop next c) next k
    unfolding past
    rest_at k =
        let z : past (drop p c) ≡ drop next c
        = drop-drop (record_length (get_or (drop p c) 0 0)) p c ∙ ap (λ (y : ℕ). drop y c) (sym o.is) in
        rw (z, ← o.is)

    pub on_qed_right : move_at steps_reader x.qeds (drop p c) ≡ mark qed (x.qeds + 1) → b ≡ true
        → verdict l c p m b (moved x cs (suc f)) ≡ verdict_next l c next f x
    unfolding walk judge_steps
    on_qed_right i z = let j = rest_at (x.qeds + 1) in rw (walk, i, judge_steps, z, j)

    module _ (q : Step) (i : move_at steps_reader x.qeds (drop p c) ≡ mark (step q) x.qeds) where
      pub on_step_fault : (k : ℕ) → derive l cs m q ≡ fault k → verdict l c p m b (moved x cs (suc f)) ≡ refused (k at p)
      unfolding walk judge_steps
      on_step_fault k z = rw (walk, i, judge_steps, z)

      pub on_step : (y : Clauses.Clause) → derive l cs m q ≡ clause y
          → verdict l c p m b (moved x cs (suc f)) ≡ verdict l c next (m + 1) (is_empty y) (moved x (cs ++ (y ∷ [])) f)
      unfolding walk judge_steps
      on_step y z = let j = rest_at x.qeds in rw (walk, i, judge_steps, z, j)
