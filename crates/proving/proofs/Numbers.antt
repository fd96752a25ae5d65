-- Every refusal of a sheet or of a certificate has a number above 1, so that 1 means a short workspace alone.
-- Assumes nothing.
use Prim.Native.Nat.{ℕ, zero, suc, ◌+◌, ◌<◌}
use mathlib.Core.Path.{◌≡◌, refl}
use mathlib.Core.Bool.{Bool, true, false, ◌&&◌}
use mathlib.Core.List.{List, [], ◌∷◌}
use native.Mathlib.Omega.{arith}
use lib.ListN.{length, get_or, drop}
use lib.Dec.{ltb, leb, eqb}
use borrow.Author.Tests.{ltb-true, lt-ltb}
use Rattle.base.specs.Pick.{pick}
use Rattle.rules.specs.declared.Limits.{Limits}
use Rattle.rules.specs.Head.{head_fits}
use Rattle.rules.specs.Kind
use Rattle.rules.specs.Record.{Front, Front.nothing, Front.unknown, Front.cut, Front.whole, front, record_length, number, one_of}
use Rattle.rules.specs.Walk.{◌at◌, Move, Move.go, Move.mark, Move.no, Move.done, Reader, Reading, Reading.stopped, Reading.marked, Reading.closed, move_at, past, walk}
use Rattle.rules.specs.Formula.{Formula}
use Rattle.rules.specs.Sheet.{Sheet}
use Rattle.rules.specs.ReadFormula.{Faults, sheet_faults, certificate_faults, Bounds, Stack, Pushed, Pushed.fine, Pushed.fault, arity, push, entry, in_range, formula_record}
use Rattle.rules.specs.ReadSheet.{driven, one, sheet_bounds, read_head, read_start, read_entry, read_rung, read_condition, sheet_move, sheet_reader, SheetRead, SheetRead.good, SheetRead.bad, judge_sheet, read_sheet}
use Rattle.rules.specs.Certificate.{Step, Which.start, Mark, Mark.step, Mark.qed, opening, invariant_bounds, invariant_move, invariant_reader, read_invariant, steps_move, steps_reader, read_steps, read_input_on, scans_move, scans_reader, read_scans}
use Rattle.rules.specs.Clauses.{Lit.plain, Lit.negated, Clause}
use Rattle.rules.specs.Resolution.{Derived, Derived.clause, Derived.fault, has, is_there, nth, resolvent, derive}
use Rattle.rules.specs.Verdict.{Verdict, Verdict.accepted, Verdict.confirmed, Verdict.refused, Refuting, refuting, following, judge_steps, judge_safe, Replay, unplayed, replayed, judge_scans, judge_opened, judge_certificate, judge}
use Rattle.reading.specs.Traces.{first_record}
use Rattle.proving.specs.Statements.{Short}
use Rattle.proving.proofs.Passed.{grown}

-- what holds of both branches
either : {A : Type 0} (P : A → Type 0) (b : Bool) (x y : A) → P x → P y → P (pick b x y)
either P true x y p q = p
either P false x y p q = q

-- no refusal, or one with a number above 1
abbrev Moved : {S M X : Type 0} → Move S M X → Type 0
Moved (go u) = Unit {0}
Moved (mark m u) = Unit {0}
Moved (no n) = 1 < n
Moved (done x) = Unit {0}

abbrev Read : {M X : Type 0} → Reading M X → Type 0
Read (stopped x) = 1 < x.no
Read (marked p m r) = Read r
Read (closed p x) = Unit {0}

abbrev Judged : Verdict → Type 0
Judged accepted = Unit {0}
Judged (confirmed m) = Unit {0}
Judged (refused x) = 1 < x.no

-- a reader with such refusals alone
record Above {S M X : Type 0} (r : Reader S M X) : Type 0 where
  pub ends : 1 < r.ends
  pub strange : 1 < r.strange
  pub moves : (t : S) (k : ℕ) (bs : List ℕ) → Moved (r.move t k bs)

module _ {S M X : Type 0} (r : Reader S M X) (a : Above r) where
  moved : (t : S) (bs : List ℕ) → Moved (move_at r t bs)
  unfolding move_at
  moved t bs = by (front bs)
    where
      by : (f : Front) → Moved {S = S} {M = M} {X = X} (elim f [
        | nothing ↦ no r.ends
        | unknown ↦ no r.strange
        | cut k ↦ pick (one_of (r.allowed t) k) (no r.ends) (no r.strange)
        | whole k ↦ pick (one_of (r.allowed t) k) (r.move t k bs) (no r.strange)
      ])
      by nothing = a.ends
      by unknown = a.strange
      by (cut k) = either Moved (one_of (r.allowed t) k) _ _ a.ends a.strange
      by (whole k) = either Moved (one_of (r.allowed t) k) _ _ (a.moves t k bs) a.strange

  walk_read : (n : ℕ) (bs : List ℕ) (p : ℕ) (t : S) → Read (walk r n bs p t)
  unfolding walk
  walk_read zero bs p t = a.ends
  walk_read (suc n) bs p t = by (move_at r t bs) (moved t bs) (walk_read n (past bs) (p + record_length (get_or bs 0 0)))
    where
      rest : S → Reading M X
      rest u = walk r n (past bs) (p + record_length (get_or bs 0 0)) u

      by : (y : Move S M X) → Moved y → ((u : S) → Read (rest u)) → Read {M = M} {X = X} (elim y [ go u ↦ rest u | mark m u ↦ marked p m (rest u) | no k ↦ stopped (k at p) | done x ↦ closed p x ])
      by (go u) h ih = ih u
      by (mark m u) h ih = ih u
      by (no k) h ih = h
      by (done x) h ih = tt

-- a formula record, with the refusals of a sheet or of a certificate
abbrev Put : Pushed → Type 0
Put (fine st) = Unit {0}
Put (fault n) = 1 < n

formula_put : (n : Faults) → 1 < n.range → 1 < n.operands → 1 < n.depth → 1 < n.records
    → (b : Bounds) (st : Stack) (k : ℕ) (bs : List ℕ) → Put (formula_record n b st k bs)
unfolding formula_record push
formula_put n r o d c b st k bs =
    either Put (in_range b k bs) _ _
    (either Put (ltb (length st.values) (arity (entry k bs))) _ _ o
    (either Put (leb b.depth (length (drop (arity (entry k bs)) st.values))) _ _ d
    (either Put (leb b.records st.count) _ _ c tt)))
    r

entry_moved : {S : Type 0} (M X : Type 0) (f : Stack → S) (x : Pushed) → Put x → Moved {S = S} {M = M} {X = X} (elim x [ fault n ↦ no n | fine st ↦ go (f st) ])
entry_moved M X f (fault n) h = h
entry_moved M X f (fine st) h = tt

sheet_above : (l : Limits) → Above (sheet_reader l)
unfolding sheet_reader sheet_move read_head read_start read_entry read_rung read_condition
sheet_above l = record {
  ends = omega arith;
  strange = omega arith;
  moves = λ t k bs.
      either Moved (eqb k Kind.HEAD) _ _ (either Moved (head_fits l (number bs 1) (number bs 3) (number bs 5)) _ _ tt (omega arith))
      (either Moved (eqb k Kind.START) _ _
      (either Moved (ltb (number bs 1) t.sheet.coils && ltb (get_or bs 3 0) 2) _ _
      (either Moved (ltb (number bs 1) t.least) _ _ (omega arith) tt) (omega arith))
      (either Moved (eqb k Kind.RUNG) _ _
      (either Moved (ltb (number bs 1) t.sheet.coils) _ _
      (either Moved (one t.stack) _ _
      (either Moved (driven t.sheet.rungs (number bs 1)) _ _ (omega arith)
      (either Moved (leb t.promised (length t.sheet.rungs)) _ _ (omega arith) tt)) (omega arith)) (omega arith))
      (either Moved (eqb k Kind.CONDITION) _ _
      (either Moved (one t.stack) _ _
      (either Moved (ltb (length t.sheet.rungs) t.promised) _ _ (omega arith) tt) (omega arith))
      (either Moved (eqb k Kind.END) _ _ tt
      (entry_moved ⊥ Sheet _ (formula_record sheet_faults (sheet_bounds l t.sheet) t.stack k bs)
      (formula_put sheet_faults (omega arith) (omega arith) (omega arith) (omega arith) (sheet_bounds l t.sheet) t.stack k bs))))));
}

opening_above : (ks : List ℕ) → Above (opening ks)
unfolding opening
opening_above ks = record { ends = omega arith; strange = omega arith; moves = λ t k bs. tt }

invariant_above : (l : Limits) (t : Sheet) → Above (invariant_reader l t)
unfolding invariant_reader invariant_move
invariant_above l t = record {
  ends = omega arith;
  strange = omega arith;
  moves = λ st k bs.
      either Moved (eqb k Kind.INVARIANT) _ _ (either Moved (one st) _ _ tt (omega arith))
      (entry_moved ⊥ Formula (λ u. u) (formula_record certificate_faults (invariant_bounds l t) st k bs)
      (formula_put certificate_faults (omega arith) (omega arith) (omega arith) (omega arith) (invariant_bounds l t) st k bs));
}

steps_above : Above steps_reader
unfolding steps_reader steps_move
steps_above = record {
  ends = omega arith;
  strange = omega arith;
  moves = λ n k bs. either Moved (eqb k Kind.STEP) _ _ tt (either Moved (eqb k Kind.QED) _ _ tt tt);
}

scans_above : (l : Limits) (t : Sheet) → Above (scans_reader l t)
unfolding scans_reader scans_move read_input_on
scans_above l t = record {
  ends = omega arith;
  strange = omega arith;
  moves = λ st k bs.
      either Moved (eqb k Kind.INPUT_ON) _ _
      (either Moved (ltb (number bs 1) t.inputs) _ _ (either Moved (ltb (number bs 1) st.least) _ _ (omega arith) tt) (omega arith))
      (either Moved (eqb k Kind.SCAN) _ _
      (either Moved (leb l.scans st.count) _ _ (omega arith) tt)
      (either Moved (eqb st.count 0) _ _ (omega arith) tt));
}

-- a step: 18 to 21
abbrev Made : Derived → Type 0
Made (clause e) = Unit {0}
Made (fault n) = 1 < n

derive_made : (l : Limits) (cs : List Clause) (n : ℕ) (q : Step) → Made (derive l cs n q)
unfolding derive
derive_made l cs n q =
    either Made (is_there cs q.first && is_there cs q.second) _ _
    (either Made (has (nth cs q.first) (plain q.pivot) && has (nth cs q.second) (negated q.pivot)) _ _
    (either Made (ltb l.width (length (resolvent q.pivot (nth cs q.first) (nth cs q.second)))) _ _ (omega arith)
    (either Made (leb l.steps n) _ _ (omega arith) tt))
    (omega arith))
    (omega arith)

steps_judged : (l : Limits) (t : Sheet) (inv : Formula) (bs : List ℕ) (r : Reading Mark (Unit {0})) (g : Refuting) → Read r → Judged (judge_steps l t inv bs g r)
unfolding judge_steps
steps_judged l t inv bs (stopped x) g h = h
steps_judged l t inv bs (marked p (step q) r) g h =
    by (derive l g.clauses g.steps q) (derive_made l g.clauses g.steps q) (λ f. steps_judged l t inv bs r f h)
  where
    by : (d : Derived) → Made d → ((f : Refuting) → Judged (judge_steps l t inv bs f r))
        → Judged (elim d [ fault n ↦ refused (n at p) | clause e ↦ judge_steps l t inv bs (grown g e) r ])
    by (fault n) k ih = k
    by (clause e) k ih = ih (grown g e)
steps_judged l t inv bs (marked p qed r) g h = by g.emptied (steps_judged l t inv bs r (refuting t inv (following g.which)) h)
  where
    later : Verdict
    later = judge_steps l t inv bs (refuting t inv (following g.which)) r

    by : (b : Bool) → Judged later → Judged (elim b [ true ↦ later | false ↦ refused (22 at p) ])
    by true k = k
    by false k = omega arith
steps_judged l t inv bs (closed p x) g h = either Judged (ltb (p + 1) (length bs)) _ _ (omega arith) tt

safe_judged : (l : Limits) (t : Sheet) (bs : List ℕ) (r : Reading ⊥ Formula) → Read r → Judged (judge_safe l t bs r)
unfolding judge_safe read_steps
safe_judged l t bs (stopped x) h = h
safe_judged l t bs (marked p m r) h = absurd m
safe_judged l t bs (closed p inv) h = steps_judged l t inv bs (read_steps bs (p + 1)) (refuting t inv start) (walk_read steps_reader steps_above _ _ _ _)

scans_judged : (t : Sheet) (bs : List ℕ) (r : Reading (List ℕ) (Unit {0})) (g : Replay) → Read r → Judged (judge_scans t bs g r)
unfolding judge_scans
scans_judged t bs (stopped x) g h = h
scans_judged t bs (marked p on r) g h = scans_judged t bs r (replayed t g on) h
scans_judged t bs (closed p x) g h = either Judged g.broken _ _ (either Judged (ltb (p + 1) (length bs)) _ _ (omega arith) tt) (omega arith)

opened_judged : (l : Limits) (t : Sheet) (bs : List ℕ) (r : Reading ⊥ ℕ) → Read r → Judged (judge_opened l t bs r)
unfolding judge_opened read_invariant read_scans
opened_judged l t bs (stopped x) h = h
opened_judged l t bs (marked p m r) h = absurd m
opened_judged l t bs (closed p k) h = by (eqb k Kind.SAFE)
  where
    by : (b : Bool) → Judged (elim b [ true ↦ judge_safe l t bs (read_invariant l t bs) | false ↦ judge_scans t bs (unplayed t) (read_scans l t bs) ])
    by true = safe_judged l t bs (read_invariant l t bs) (walk_read (invariant_reader l t) (invariant_above l t) _ _ _ _)
    by false = scans_judged t bs (read_scans l t bs) (unplayed t) (walk_read (scans_reader l t) (scans_above l t) _ _ _ _)

-- a sheet: 2 to 11
abbrev Seen : SheetRead → Type 0
Seen (good t) = Unit {0}
Seen (bad x) = 1 < x.no

sheet_seen : (bs : List ℕ) (r : Reading ⊥ Sheet) → Read r → Seen (judge_sheet bs r)
unfolding judge_sheet
sheet_seen bs (stopped x) h = h
sheet_seen bs (marked p m r) h = absurd m
sheet_seen bs (closed p t) h = either Seen (ltb (p + 1) (length bs)) _ _ (omega arith) tt

certificate_judged : (l : Limits) (c : List ℕ) (r : SheetRead) → Seen r → Judged (judge_certificate l c r)
unfolding judge_certificate
certificate_judged l c (bad x) h = h
certificate_judged l c (good t) h = opened_judged l t c (first_record c) (walk_read (opening (Kind.SAFE ∷ Kind.TRACE ∷ [])) (opening_above _) _ _ _ _)

pub short : Short
unfolding judge read_sheet
short l s c n = (λ h. by (ltb n l.places) refl h.1, λ h. (0, rw (lt-ltb n l.places h)))
  where
    whole : Judged (judge_certificate l c (read_sheet l s))
    whole = certificate_judged l c (read_sheet l s) (sheet_seen s _ (walk_read (sheet_reader l) (sheet_above l) _ _ _ _))

    by : (b : Bool) → ltb n l.places ≡ b → {p : ℕ} → pick b (refused (1 at 0)) (judge_certificate l c (read_sheet l s)) ≡ refused (1 at p) → n < l.places
    by true e k = ltb-true n l.places e
    by false e {p} k = let z : 1 < 1 = rw k at whole in absurd (omega arith)
