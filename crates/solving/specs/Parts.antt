-- The defining clauses and the unit clauses of each set, the variables that are chosen and those that are defined.
use Rattle.std.specs.Prelude.{ℕ, ◌+◌, ◌≤◌, ◌<◌, ◌≡◌, ◌⊎◌, List, ◌++◌}
use Rattle.rules.specs.Formula.{Inputs, Coils, Formula, size}
use Rattle.rules.specs.Sheet.{Sheet}
use Rattle.rules.specs.WriteSheet.{sizes}
use Rattle.rules.specs.Certificate.{Which, Which.start, Which.keep, Which.safe}
use Rattle.rules.specs.Clauses.{Lit.plain, Lit.negated, Clause, top, rungs_at, condition_at, before_at, after_at, start_units, ladder, condition, invariant_before, invariant_after, unit}
use Rattle.solving.specs.Solution.{Assignment}

-- the sets that speak of a scan, and so of inputs
abbrev pub HasScan : Which → Type 0
HasScan start = ⊥
HasScan keep = Unit {0}
HasScan safe = Unit {0}

-- the clauses of a set that define a formula record
unfoldable pub defining_part : Sheet → Formula → Which → List Clause
defining_part t inv start = invariant_before t inv
defining_part t inv keep = ladder t ++ (invariant_before t inv ++ invariant_after t inv)
defining_part t inv safe = ladder t ++ (condition t ++ invariant_before t inv)

-- its other clauses
unfoldable pub unit_part : Sheet → Formula → Which → List Clause
unit_part t inv start = start_units t.starts 0 t.coils ++ unit (negated (top (before_at t) inv))
unit_part t inv keep = unit (plain (top (before_at t) inv)) ++ unit (negated (top (after_at t inv) inv))
unit_part t inv safe = unit (plain (top (before_at t) inv)) ++ unit (negated (top (condition_at t) t.condition))

-- a takes the coils k before the scan and, where the set has a scan, the inputs i
pub record Chosen (t : Sheet) (w : Which) (k : Coils) (i : Inputs) (a : Assignment) : Type 0 where
  pub coils : (c : ℕ) → c < t.coils → a (1 + c) ≡ k c
  pub inputs : HasScan w → (j : ℕ) → j < t.inputs → a (1 + t.coils + j) ≡ i j

-- v is one of the n numbers from g on
abbrev pub Within : ℕ → ℕ → ℕ → Type 0
Within g n v = (g ≤ v) × (v < g + n)

-- v is the variable of a formula record that set w has
unfoldable pub Defined : Sheet → Formula → Which → ℕ → Type 0
Defined t inv start v = Within (before_at t) (size inv) v
Defined t inv keep v = Within (rungs_at t) (sizes t.rungs) v ⊎ (Within (before_at t) (size inv) v ⊎ Within (after_at t inv) (size inv) v)
Defined t inv safe v = Within (rungs_at t) (sizes t.rungs) v ⊎ (Within (condition_at t) (size t.condition) v ⊎ Within (before_at t) (size inv) v)
