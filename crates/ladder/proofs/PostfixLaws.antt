-- Running a formula's records puts its value on the stack, and a formula within its bounds can be run.
-- Assumes nothing.
use Prim.Native.Nat.{ℕ, ◌+◌, ◌-◌, ◌≤◌}
use mathlib.Core.Path.{◌≡◌, refl, ◌∙◌}
use mathlib.Core.Bool.{Bool}
use mathlib.Core.List.{List, [], ◌∷◌, ◌++◌, append_assoc, append-nil}
use native.Mathlib.Omega.{arith}
use Rattle.rules.specs.Formula.{Inputs, Coils, Leaf.input, Leaf.coil, Leaf.constant, Formula, Formula.leaf, Formula.inverse, Formula.both, Formula.either, Entry, Entry.NOT, Entry.AND, Entry.OR, value, postfix, height}
use Rattle.rules.specs.ReadFormula.{Bounds, arity}
use Rattle.rules.specs.WriteSheet.{Names, Fits}
use Rattle.ladder.specs.Values.{act, acts}
use Rattle.ladder.specs.Evaluate.{Named, Fitting}

pub acts_formula : (i : Inputs) (k : Coils) (f : Formula) (es : List Entry) (vs : List Bool) → acts i k (postfix f ++ es) vs ≡ acts i k es (value i k f ∷ vs)
unfolding postfix value acts act
acts_formula i k (leaf x) es vs = refl
acts_formula i k (inverse f) es vs = rw append_assoc (acts_formula i k f (NOT ∷ es) vs)
acts_formula i k (both f g) es vs = simp append_assoc (acts_formula i k f (postfix g ++ (AND ∷ es)) vs ∙ acts_formula i k g (AND ∷ es) (value i k f ∷ vs))
acts_formula i k (either f g) es vs = simp append_assoc (acts_formula i k f (postfix g ++ (OR ∷ es)) vs ∙ acts_formula i k g (OR ∷ es) (value i k f ∷ vs))

-- these records can be run from a stack of d values, and leave one
abbrev pub Enough : Bounds → List Entry → ℕ → Type 0
Enough b [] d = d ≡ 1
Enough b (e ∷ es) d = Fitting b e d × Enough b es (d - arity e + 1)

some_height : (f : Formula) → 1 ≤ height f
unfolding height
some_height (leaf x) = omega arith
some_height (inverse f) = some_height f
some_height (both f g) = omega (arith, some_height f)
some_height (either f g) = omega (arith, some_height f)

module _ (b : Bounds) where
  leaf_fits : (f : Formula) (es : List Entry) (d : ℕ) → Names b f → d + height f ≤ b.depth → Enough b es (d + 1) → Enough b (postfix f ++ es) d
  unfolding postfix height arity Names Named
  leaf_fits (leaf (input n)) es d m h k = (record { enough = omega arith; room = omega arith; named = m }, let e : d - 0 + 1 ≡ d + 1 = omega arith in rw e k)
  leaf_fits (leaf (coil n)) es d m h k = (record { enough = omega arith; room = omega arith; named = m }, let e : d - 0 + 1 ≡ d + 1 = omega arith in rw e k)
  leaf_fits (leaf (constant c)) es d m h k = (record { enough = omega arith; room = omega arith; named = tt }, let e : d - 0 + 1 ≡ d + 1 = omega arith in rw e k)
  leaf_fits (inverse f) es d m h k =
      rw append_assoc
      (leaf_fits f (NOT ∷ es) d m h
      (record { enough = omega arith; room = omega (arith, some_height f); named = tt }, let e : d + 1 - 1 + 1 ≡ d + 1 = omega arith in rw e k))
  leaf_fits (both f g) es d m h k =
      simp append_assoc
      (leaf_fits f (postfix g ++ (AND ∷ es)) d m.0 (omega arith)
      (leaf_fits g (AND ∷ es) (d + 1) m.1 (omega arith)
      (record { enough = omega arith; room = omega (arith, some_height f); named = tt }, let e : d + 1 + 1 - 2 + 1 ≡ d + 1 = omega arith in rw e k)))
  leaf_fits (either f g) es d m h k =
      simp append_assoc
      (leaf_fits f (postfix g ++ (OR ∷ es)) d m.0 (omega arith)
      (leaf_fits g (OR ∷ es) (d + 1) m.1 (omega arith)
      (record { enough = omega arith; room = omega (arith, some_height f); named = tt }, let e : d + 1 + 1 - 2 + 1 ≡ d + 1 = omega arith in rw e k)))

  pub formula_fits : (f : Formula) → Fits b f → Enough b (postfix f) 0
  formula_fits f h = rw append-nil at (leaf_fits f [] 0 h.names (let k = h.low in omega arith) refl)
