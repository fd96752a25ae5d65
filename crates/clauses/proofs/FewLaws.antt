-- How many clauses a set can have: five for each two formula records, one for each coil, and the units.
-- Assumes nothing.
use Prim.Native.Nat.{ℕ, ◌+◌, ◌*◌, ◌≤◌}
use mathlib.Core.Bool.{true, false}
use mathlib.Core.List.{List, [], ◌∷◌}
use native.Mathlib.Omega.{arith}
use lib.ListN.{length, length-append}
use Rattle.rules.specs.declared.Limits.{Limits}
use Rattle.rules.specs.Formula.{Leaf.input, Leaf.coil, Leaf.constant, Formula, Formula.leaf, Formula.inverse, Formula.both, Formula.either, size}
use Rattle.rules.specs.Sheet.{Rung, Sheet}
use Rattle.rules.specs.WriteSheet.{sizes, WithinSheet}
use Rattle.rules.specs.Certificate.{Which, Which.start, Which.keep, Which.safe}
use Rattle.rules.specs.WriteCertificate.{WithinInvariant}
use Rattle.rules.specs.Clauses.{Vars, leaf_clauses, defining, closing, rung_clauses, before, after, rungs_at, condition_at, before_at, after_at, clause_set}
use Rattle.clauses.proofs.SetLaws.{units_length}

few_records : (vs : Vars) (g : ℕ) (f : Formula) → 2 * length (defining vs g f) + 1 ≤ 5 * size f
unfolding defining size leaf_clauses
few_records vs g (leaf (input n)) = omega arith
few_records vs g (leaf (coil n)) = omega arith
few_records vs g (leaf (constant true)) = omega arith
few_records vs g (leaf (constant false)) = omega arith
few_records vs g (inverse f) = simp length-append (omega (arith, few_records vs g f))
few_records vs g (both f h) = simp length-append (omega (arith, few_records vs g f, few_records vs (g + size f) h))
few_records vs g (either f h) = simp length-append (omega (arith, few_records vs g f, few_records vs (g + size f) h))

few_in_rungs : (vs : Vars) (g : ℕ) (rs : List Rung) → 2 * length (rung_clauses vs g rs) ≤ 5 * sizes rs
unfolding rung_clauses sizes
few_in_rungs vs g [] = omega arith
few_in_rungs vs g (r ∷ rs) =
    simp length-append (omega (arith, few_records vs g r.formula, few_in_rungs (closing vs g r) (g + size r.formula) rs))

module _ (l : Limits) (t : Sheet) (inv : Formula) (s : WithinSheet l t) (i : WithinInvariant l t inv) where
  pub set_few : (w : Which) → 2 * length (clause_set t inv w) ≤ 2 * l.coils + 5 * l.records + 10 * l.invariant + 4
  unfolding clause_set
  set_few start =
      simp (length-append, units_length)
      (omega (arith, few_records (before t) (before_at t) inv, s.coils_fit, i.records_fit))
  set_few keep =
      simp length-append
      (omega (
        arith,
        few_in_rungs (before t) (rungs_at t) t.rungs,
        few_records (before t) (before_at t) inv,
        few_records (after t) (after_at t inv) inv,
        s.records_fit,
        i.records_fit,
      ))
  set_few safe =
      simp length-append
      (omega (
        arith,
        few_in_rungs (before t) (rungs_at t) t.rungs,
        few_records (after t) (condition_at t) t.condition,
        few_records (before t) (before_at t) inv,
        s.records_fit,
        i.records_fit,
      ))
