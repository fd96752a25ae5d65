-- Clauses depend only on the variables of the inputs and coils that are named.
-- Assumes nothing.
use Prim.Native.Nat.{ℕ, ◌+◌, ◌<◌}
use mathlib.Core.Path.{◌≡◌, refl, ap, ap₂}
use mathlib.Core.Bool.{true, false}
use mathlib.Core.List.{List, [], ◌∷◌, ◌++◌}
use lib.Dec.{eqb}
use Rattle.base.specs.Pick.{pick}
use Rattle.base.specs.Lists.{All}
use Rattle.rules.specs.Formula.{Leaf.input, Leaf.coil, Leaf.constant, Formula, Formula.leaf, Formula.inverse, Formula.both, Formula.either, size}
use Rattle.rules.specs.Sheet.{Rung, with}
use Rattle.rules.specs.ReadFormula.{Bounds}
use Rattle.rules.specs.WriteSheet.{Names, Fits}
use Rattle.rules.specs.Clauses.{Vars, Clause, top, contact_clauses, not_clauses, and_clauses, or_clauses, leaf_clauses, defining, closing, rung_clauses, after_rungs}

-- the same variables for every input and the first n coils
pub record Agree (n : ℕ) (vs us : Vars) : Type 0 where
  pub inputs : (j : ℕ) → vs.input j ≡ us.input j
  pub coils : (c : ℕ) → c < n → vs.coil c ≡ us.coil c

module _ (b : Bounds) (vs us : Vars) (a : Agree b.coils vs us) where
  pub same_defining : (g : ℕ) (f : Formula) → Names b f → defining vs g f ≡ defining us g f
  unfolding defining leaf_clauses Names
  same_defining g (leaf (input n)) h = ap (contact_clauses g) (a.inputs n)
  same_defining g (leaf (coil n)) h = ap (contact_clauses g) (a.coils n h)
  same_defining g (leaf (constant true)) h = refl
  same_defining g (leaf (constant false)) h = refl
  same_defining g (inverse f) h = ap (λ (x : List Clause). x ++ not_clauses (g + size f) (top g f)) (same_defining g f h)
  same_defining g (both f k) h =
      ap₂ (λ (x y : List Clause). x ++ (y ++ and_clauses (g + size f + size k) (top g f) (top (g + size f) k)))
      (same_defining g f h.0)
      (same_defining (g + size f) k h.1)
  same_defining g (either f k) h =
      ap₂ (λ (x y : List Clause). x ++ (y ++ or_clauses (g + size f + size k) (top g f) (top (g + size f) k)))
      (same_defining g f h.0)
      (same_defining (g + size f) k h.1)

-- and so after a rung has closed
agree_closing : (n : ℕ) (vs us : Vars) (g : ℕ) (r : Rung) → Agree n vs us → Agree n (closing vs g r) (closing us g r)
unfolding with
agree_closing n vs us g r a = record {
  inputs = a.inputs;
  coils = λ c h. ap (pick (eqb c r.coil) (top g r.formula)) (a.coils c h);
}

pub same_rung_clauses : (b : Bounds) (vs us : Vars) → Agree b.coils vs us → (g : ℕ) (rs : List Rung) → All (λ (r : Rung). Fits b r.formula) rs
    → rung_clauses vs g rs ≡ rung_clauses us g rs
unfolding rung_clauses
same_rung_clauses b vs us a g [] h = refl
same_rung_clauses b vs us a g (r ∷ rs) h =
    ap₂ ◌++◌ (same_defining b vs us a g r.formula h.0.names)
    (same_rung_clauses b (closing vs g r) (closing us g r) (agree_closing b.coils vs us g r a) (g + size r.formula) rs h.1)

pub agree_after : (n : ℕ) (vs us : Vars) → Agree n vs us → (g : ℕ) (rs : List Rung) → Agree n (after_rungs vs g rs) (after_rungs us g rs)
unfolding after_rungs
agree_after n vs us a g [] = a
agree_after n vs us a g (r ∷ rs) =
    agree_after n (closing vs g r) (closing us g r) (agree_closing n vs us g r a) (g + size r.formula) rs
