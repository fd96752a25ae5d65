-- How many clauses a set has at most: three for each formula record, one for each coil's start, and the units.
-- Assumes nothing.
use Prim.Native.Nat.{ℕ, zero, suc, ◌+◌, ◌*◌, ◌≤◌}
use mathlib.Core.Path.{◌≡◌, refl, ap}
use mathlib.Core.Bool.{true, false}
use mathlib.Core.List.{List, [], ◌∷◌, ◌++◌}
use native.Mathlib.Omega.{arith}
use lib.ListN.{length, length-append}
use Rattle.rules.specs.Head.{base_limits}
use Rattle.rules.specs.Formula.{Leaf.input, Leaf.coil, Leaf.constant, Formula, Formula.leaf, Formula.inverse, Formula.both, Formula.either, size}
use Rattle.rules.specs.Sheet.{Start, Rung, Sheet}
use Rattle.rules.specs.WriteSheet.{sizes, WithinSheet}
use Rattle.rules.specs.WriteCertificate.{WithinInvariant}
use Rattle.rules.specs.Certificate.{Which, Which.start, Which.keep, Which.safe}
use Rattle.rules.specs.Clauses.{Lit.plain, Lit.negated, Clause, Vars, defining, leaf_clauses, not_clauses, and_clauses, or_clauses, top, closing, rung_clauses, start_units, unit, ladder, condition, invariant_before, invariant_after, before, after, rungs_at, condition_at, before_at, after_at, clause_set}
use Rattle.dimacs.specs.Dimacs.{largest_set}

-- lengths of joined lists
two : (a b : List Clause) → length (a ++ b) ≡ length a + length b
two a b = length-append a b

formula_few : (vs : Vars) (g : ℕ) (f : Formula) → length (defining vs g f) ≤ 3 * size f
unfolding defining leaf_clauses size
formula_few vs g (leaf (input n)) = omega arith
formula_few vs g (leaf (coil n)) = omega arith
formula_few vs g (leaf (constant true)) = omega arith
formula_few vs g (leaf (constant false)) = omega arith
formula_few vs g (inverse f) = omega (arith, formula_few vs g f, two (defining vs g f) (not_clauses (g + size f) (top g f)))
formula_few vs g (both f h) =
    let c : List Clause = and_clauses (g + size f + size h) (top g f) (top (g + size f) h) in
    omega (
      arith,
      formula_few vs g f,
      formula_few vs (g + size f) h,
      two (defining vs g f) (defining vs (g + size f) h ++ c),
      two (defining vs (g + size f) h) c,
    )
formula_few vs g (either f h) =
    let c : List Clause = or_clauses (g + size f + size h) (top g f) (top (g + size f) h) in
    omega (
      arith,
      formula_few vs g f,
      formula_few vs (g + size f) h,
      two (defining vs g f) (defining vs (g + size f) h ++ c),
      two (defining vs (g + size f) h) c,
    )

rungs_few : (vs : Vars) (g : ℕ) (rs : List Rung) → length (rung_clauses vs g rs) ≤ 3 * sizes rs
unfolding rung_clauses sizes
rungs_few vs g [] = omega arith
rungs_few vs g (r ∷ rs) =
    let a : List Clause = defining vs g r.formula in
    let b : List Clause = rung_clauses (closing vs g r) (g + size r.formula) rs in
    omega (arith, two a b, formula_few vs g r.formula, rungs_few (closing vs g r) (g + size r.formula) rs)

starts_few : (ss : List Start) (c n : ℕ) → length (start_units ss c n) ≡ n
unfolding start_units
starts_few ss c zero = refl
starts_few ss c (suc n) = ap suc (starts_few ss (suc c) n)

pub set_fits : (t : Sheet) (inv : Formula) → WithinSheet base_limits t → WithinInvariant base_limits t inv → (w : Which) → 3 * length (clause_set t inv w) ≤ largest_set
unfolding clause_set
set_fits t inv s v start =
    let a : List Clause = start_units t.starts 0 t.coils in
    let b : List Clause = invariant_before t inv in
    let u : List Clause = unit (negated (top (before_at t) inv)) in
    omega (arith, two a (b ++ u), two b u, starts_few t.starts 0 t.coils, formula_few (before t) (before_at t) inv, s.coils_fit, v.records_fit)
set_fits t inv s v keep =
    let a : List Clause = ladder t in
    let b : List Clause = invariant_before t inv in
    let c : List Clause = unit (plain (top (before_at t) inv)) in
    let d : List Clause = invariant_after t inv in
    let u : List Clause = unit (negated (top (after_at t inv) inv)) in
    omega (
      arith,
      two a (b ++ (c ++ (d ++ u))),
      two b (c ++ (d ++ u)),
      two d u,
      rungs_few (before t) (rungs_at t) t.rungs,
      formula_few (before t) (before_at t) inv,
      formula_few (after t) (after_at t inv) inv,
      s.records_fit,
      v.records_fit,
    )
set_fits t inv s v safe =
    let a : List Clause = ladder t in
    let b : List Clause = condition t in
    let c : List Clause = invariant_before t inv in
    let d : List Clause = unit (plain (top (before_at t) inv)) in
    let u : List Clause = unit (negated (top (condition_at t) t.condition)) in
    omega (
      arith,
      two a (b ++ (c ++ (d ++ u))),
      two b (c ++ (d ++ u)),
      two c (d ++ u),
      rungs_few (before t) (rungs_at t) t.rungs,
      formula_few (after t) (condition_at t) t.condition,
      formula_few (before t) (before_at t) inv,
      s.records_fit,
      v.records_fit,
    )
