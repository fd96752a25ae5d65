-- The judge of a certificate's steps looks at their marks and at where END stands, and at nothing else of a reading; it never confirms.
-- Assumes nothing.
use Prim.Native.Nat.{ℕ, ◌+◌}
use mathlib.Core.Path.{◌≡◌, refl}
use mathlib.Core.Bool.{Bool, true, false}
use mathlib.Core.List.{List, [], ◌∷◌, ◌++◌}
use native.Mathlib.Omega.{arith}
use lib.ListN.{length}
use lib.Dec.{ltb}
use Rattle.base.specs.Pick.{pick}
use Rattle.rules.specs.declared.Limits.{Limits}
use Rattle.rules.specs.Walk.{◌at◌, Reading, Reading.stopped, Reading.marked, Reading.closed}
use Rattle.rules.specs.Formula.{Formula}
use Rattle.rules.specs.Sheet.{Sheet}
use Rattle.rules.specs.Certificate.{Step, Mark, Mark.step, Mark.qed}
use Rattle.rules.specs.Clauses.{Clause}
use Rattle.rules.specs.Resolution.{Derived, Derived.clause, Derived.fault, derive, is_empty}
use Rattle.rules.specs.Verdict.{Verdict, Verdict.accepted, Verdict.confirmed, Verdict.refused, Refuting, refuting, following, judge_steps}
use Rattle.reading.specs.Readings.{marks, final}

-- a refutation with one clause more
abbrev pub grown : Refuting → Clause → Refuting
grown g e = record { which = g.which; clauses = g.clauses ++ (e ∷ []); steps = g.steps + 1; emptied = is_empty e }

-- no mark is refused
abbrev pub Passes : Limits → Sheet → Formula → Refuting → List Mark → Type 0
Passes l t inv g [] = Unit {0}
Passes l t inv g (step q ∷ ms) = (e : Clause) × (derive l g.clauses g.steps q ≡ clause e) × Passes l t inv (grown g e) ms
Passes l t inv g (qed ∷ ms) = (g.emptied ≡ true) × Passes l t inv (refuting t inv (following g.which)) ms

-- a reading that was judged to the end
pub record Passed (l : Limits) (t : Sheet) (inv : Formula) (bs : List ℕ) (g : Refuting) (r : Reading Mark (Unit {0})) : Type 0 where
  pub end : ℕ
  pub closes : final r ≡ closed end tt
  pub last : ltb (end + 1) (length bs) ≡ false
  pub passes : Passes l t inv g (marks r)

at_end : (b : Bool) (k p : ℕ) → pick b (refused (k at p)) accepted ≡ accepted → b ≡ false
at_end true k p e = let z : ◌≡◌ {A = ℕ} 0 1 = cc in absurd (omega arith)
at_end false k p e = refl

module _ (l : Limits) (t : Sheet) (inv : Formula) (bs : List ℕ) where
  passed_step : (g : Refuting) (p : ℕ) (q : Step) (r : Reading Mark (Unit {0})) (e : Clause) → derive l g.clauses g.steps q ≡ clause e
      → Passed l t inv bs (grown g e) r → Passed l t inv bs g (marked p (step q) r)
  unfolding marks final
  passed_step g p q r e h s = record { end = s.end; closes = s.closes; last = s.last; passes = (e, h, s.passes) }

  passed_qed : (g : Refuting) (p : ℕ) (r : Reading Mark (Unit {0})) → g.emptied ≡ true
      → Passed l t inv bs (refuting t inv (following g.which)) r → Passed l t inv bs g (marked p qed r)
  unfolding marks final
  passed_qed g p r h s = record { end = s.end; closes = s.closes; last = s.last; passes = (h, s.passes) }

  pub judged_passed : (r : Reading Mark (Unit {0})) (g : Refuting) → judge_steps l t inv bs g r ≡ accepted → Passed l t inv bs g r
  unfolding judge_steps marks final
  judged_passed (stopped x) g h = let z : ◌≡◌ {A = ℕ} 0 1 = cc in absurd (omega arith)
  judged_passed (marked p (step q) r) g h = by (derive l g.clauses g.steps q) refl (judged_passed r) h
    where
      by : (d : Derived) → derive l g.clauses g.steps q ≡ d → ((g : Refuting) → judge_steps l t inv bs g r ≡ accepted → Passed l t inv bs g r)
          → elim d [ fault n ↦ refused (n at p) | clause e ↦ judge_steps l t inv bs (grown g e) r ] ≡ accepted → Passed l t inv bs g (marked p (step q) r)
      by (fault n) e f k = let z : ◌≡◌ {A = ℕ} 0 1 = cc in absurd (omega arith)
      by (clause c) e f k = passed_step g p q r c e (f (grown g c) k)
  judged_passed (marked p qed r) g h = by g.emptied refl (judged_passed r (refuting t inv (following g.which))) h
    where
      later : Verdict
      later = judge_steps l t inv bs (refuting t inv (following g.which)) r

      by : (b : Bool) → g.emptied ≡ b → (later ≡ accepted → Passed l t inv bs (refuting t inv (following g.which)) r)
          → elim b [ true ↦ later | false ↦ refused (22 at p) ] ≡ accepted → Passed l t inv bs g (marked p qed r)
      by true e f k = passed_qed g p r e (f k)
      by false e f k = let z : ◌≡◌ {A = ℕ} 0 1 = cc in absurd (omega arith)
  judged_passed (closed p x) g h = record { end = p; closes = refl; last = at_end (ltb (p + 1) (length bs)) _ (p + 1) h; passes = tt }

  -- where no mark is refused, what stands after the marks settles the answer
  pub passes_judged : (r : Reading Mark (Unit {0})) (g : Refuting) (v : Verdict) → Passes l t inv g (marks r)
      → ((h : Refuting) → judge_steps l t inv bs h (final r) ≡ v) → judge_steps l t inv bs g r ≡ v
  unfolding judge_steps marks final
  passes_judged (stopped x) g v k e = e g
  passes_judged (marked p (step q) r) g v k e = rw (judge_steps, k.1) (passes_judged r (grown g k.0) v k.2 e)
  passes_judged (marked p qed r) g v k e = rw (judge_steps, k.0) (passes_judged r (refuting t inv (following g.which)) v k.1 e)
  passes_judged (closed p x) g v k e = e g

-- the first marks of marks that pass
pub passes_first : (l : Limits) (t : Sheet) (inv : Formula) (ms ns : List Mark) (g : Refuting) → Passes l t inv g (ms ++ ns) → Passes l t inv g ms
passes_first l t inv [] ns g k = tt
passes_first l t inv (step q ∷ ms) ns g k = (k.0, k.1, passes_first l t inv ms ns (grown g k.0) k.2)
passes_first l t inv (qed ∷ ms) ns g k = (k.0, passes_first l t inv ms ns (refuting t inv (following g.which)) k.1)

-- steps are never confirmed
module _ (l : Limits) (t : Sheet) (inv : Formula) (bs : List ℕ) (m : ℕ) where
  pub steps_not_confirmed : (r : Reading Mark (Unit {0})) (g : Refuting) → judge_steps l t inv bs g r ≡ confirmed m → ⊥
  unfolding judge_steps
  steps_not_confirmed (stopped x) g h = let z : ◌≡◌ {A = ℕ} 0 1 = cc in omega arith
  steps_not_confirmed (marked p (step q) r) g h = by (derive l g.clauses g.steps q) (steps_not_confirmed r) h
    where
      by : (d : Derived) → ((g : Refuting) → judge_steps l t inv bs g r ≡ confirmed m → ⊥)
          → elim d [ fault n ↦ refused (n at p) | clause e ↦ judge_steps l t inv bs (grown g e) r ] ≡ confirmed m → ⊥
      by (fault n) f k = let z : ◌≡◌ {A = ℕ} 0 1 = cc in omega arith
      by (clause e) f k = f (grown g e) k
  steps_not_confirmed (marked p qed r) g h = by g.emptied (steps_not_confirmed r (refuting t inv (following g.which))) h
    where
      later : Verdict
      later = judge_steps l t inv bs (refuting t inv (following g.which)) r

      by : (b : Bool) → (later ≡ confirmed m → ⊥) → elim b [ true ↦ later | false ↦ refused (22 at p) ] ≡ confirmed m → ⊥
      by true f k = f k
      by false f k = let z : ◌≡◌ {A = ℕ} 0 1 = cc in omega arith
  steps_not_confirmed (closed p x) g h = by (ltb (p + 1) (length bs)) h
    where
      by : (b : Bool) → pick b (refused (26 at p + 1)) accepted ≡ confirmed m → ⊥
      by true k = let z : ◌≡◌ {A = ℕ} 0 1 = cc in omega arith
      by false k = let z : ◌≡◌ {A = ℕ} 0 1 = cc in omega arith
