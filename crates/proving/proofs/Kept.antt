-- A sheet with an invariant that every start meets, every scan keeps and every scan from within it satisfies the condition of, is safe.
-- Assumes nothing.
use mathlib.Core.Path.{◌≡◌, refl}
use mathlib.Core.Bool.{Bool, true, false}
use mathlib.Core.List.{List, [], ◌∷◌}
use Rattle.rules.specs.Formula.{Inputs, Coils, Formula}
use Rattle.rules.specs.Sheet.{Sheet, Begins, scan, scans, holds_after, Safe}
use Rattle.rules.specs.Certificate.{Which.start, Which.keep, Which.safe}
use Rattle.solving.specs.Statements.{inside}
use Rattle.solving.proofs.Sets.{start_set, keep_set, safe_set}
use Rattle.proving.specs.Grounds.{UnsolvableSafe}

not_false : (b : Bool) → (b ≡ false → ⊥) → b ≡ true
not_false true h = refl
not_false false h = absurd (h refl)

module _ (t : Sheet) (inv : Formula) (kept : (k : Coils) (i : Inputs) → inside inv k ≡ true → inside inv (scan t i k) ≡ true) where
  stays : (k : Coils) (is : List Inputs) → inside inv k ≡ true → inside inv (scans t k is) ≡ true
  unfolding scans
  stays k [] h = h
  stays k (i ∷ is) h = stays (scan t i k) is (kept k i h)

pub unsolvable_safe : UnsolvableSafe
unfolding Safe
unsolvable_safe l t inv wt wi none = λ k b is i. condition (scans t k is) i (stays t inv kept k is (begun k b))
  where
    begun : (k : Coils) → Begins t k → inside inv k ≡ true
    begun k b = not_false (inside inv k) (λ e. none start ((start_set l t inv wt wi).1 (k, b, e)))

    kept : (k : Coils) (i : Inputs) → inside inv k ≡ true → inside inv (scan t i k) ≡ true
    kept k i h = not_false (inside inv (scan t i k)) (λ e. none keep ((keep_set l t inv wt wi).1 (k, i, h, e)))

    condition : (k : Coils) (i : Inputs) → inside inv k ≡ true → holds_after t i k ≡ true
    condition k i h = not_false (holds_after t i k) (λ e. none safe ((safe_set l t inv wt wi).1 (k, i, h, e)))
