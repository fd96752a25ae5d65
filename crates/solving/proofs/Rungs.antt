-- The rungs' clauses hold exactly when each of their records has its value over the coils as they stand when its rung runs,
-- and then the variables of the coils after the scan have the values that the scan computes.
-- Assumes nothing.
use Prim.Native.Nat.{ℕ, ◌+◌, ◌<◌}
use native.Mathlib.Omega.{arith}
use mathlib.Core.Path.{◌≡◌}
use mathlib.Core.Logic.Iff
use mathlib.Core.Logic.{◌↔◌}
use mathlib.Core.Bool.{Bool, true, false}
use mathlib.Core.List.{List, [], ◌∷◌}
use lib.Dec.{eqb}
use Rattle.base.specs.Pick.{pick}
use Rattle.base.specs.Lists.{All}
use Rattle.rules.specs.Formula.{Inputs, Coils, value, size}
use Rattle.rules.specs.Sheet.{Rung, with, run}
use Rattle.rules.specs.ReadFormula.{Bounds}
use Rattle.rules.specs.WriteSheet.{Names, sizes}
use Rattle.rules.specs.Clauses.{Vars, top, closing, defining, rung_clauses, after_rungs}
use Rattle.solving.specs.Solution.{Assignment, Holds}
use Rattle.solving.specs.Values.{record_value, rung_value}
use Rattle.solving.proofs.Records.{Have, Right, Agree, split_have, in_turn, top_right, records}

-- each record of the rungs, the first of them g, has its value in b
abbrev pub RungsRight : Assignment → ℕ → Inputs → Coils → List Rung → Type 0
RungsRight b g i k rs = Have b g (sizes rs) (rung_value i k rs)

-- the coils once a rung has run
abbrev pub ran : Inputs → Coils → Rung → Coils
ran i k r = with k r.coil (value i k r.formula)

module _ (b : Assignment) (i : Inputs) where
  rungs_split : (g : ℕ) (k : Coils) (r : Rung) (rs : List Rung)
      → RungsRight b g i k (r ∷ rs) ↔ (Right b g i k r.formula × RungsRight b (g + size r.formula) i (ran i k r) rs)
  unfolding sizes rung_value
  rungs_split g k r rs = split_have b g (size r.formula) (sizes rs) (record_value i k r.formula) (rung_value i (ran i k r) rs)

  module _ (bounds : Bounds) where
    -- once a rung has run, its top is its coil's variable
    closed : (vs : Vars) (g : ℕ) (k : Coils) (r : Rung)
        → Agree bounds vs b i k → Right b g i k r.formula → Agree bounds (closing vs g r) b i (ran i k r)
    unfolding with
    closed vs g k r a e = record { inputs = a.inputs; coils = λ c l. go c l (eqb c r.coil) }
      where
        go : (c : ℕ) → c < bounds.coils → (x : Bool) → b (pick x (top g r.formula) (vs.coil c)) ≡ pick x (value i k r.formula) (k c)
        go c l true = top_right b i k g r.formula e
        go c l false = a.coils c l

    pub rungs : (vs : Vars) (g : ℕ) (k : Coils) (rs : List Rung) → Agree bounds vs b i k → All (λ (r : Rung). Names bounds r.formula) rs
        → Holds b (rung_clauses vs g rs) ↔ RungsRight b g i k rs
    unfolding rung_clauses sizes
    rungs vs g k [] a m = (λ h j l. absurd (omega arith), λ r. tt)
    rungs vs g k (r ∷ rs) a m =
        Iff.trans
        (in_turn b (defining vs g r.formula) _ (records b i k bounds vs a g r.formula m.0) (λ e.
        rungs (closing vs g r) (g + size r.formula) (ran i k r) rs (closed vs g k r a e) m.1))
        (Iff.symm (rungs_split g k r rs))

    pub scanned : (vs : Vars) (g : ℕ) (k : Coils) (rs : List Rung)
        → Agree bounds vs b i k → RungsRight b g i k rs → Agree bounds (after_rungs vs g rs) b i (run i k rs)
    unfolding after_rungs run
    scanned vs g k [] a e = a
    scanned vs g k (r ∷ rs) a e =
        let p = (rungs_split g k r rs).0 e in
        scanned (closing vs g r) (g + size r.formula) (ran i k r) rs (closed vs g k r a p.0) p.1
