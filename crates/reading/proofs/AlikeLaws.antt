-- Records that are alike: what a reader makes of bytes that agree on the record's own is the same.
-- Assumes nothing.
use Prim.Native.Nat.{ℕ, ◌+◌, ◌*◌, ◌<◌}
use mathlib.Core.Path.{◌≡◌, refl, ap₂}
use mathlib.Core.Bool.{Bool, true, false}
use mathlib.Core.List.{List}
use native.Mathlib.Omega.{arith}
use lib.Dec.{eqb}
use borrow.Author.Tests.{eqb-true}
use Rattle.base.specs.Pick.{pick}
use Rattle.rules.specs.Kind
use Rattle.rules.specs.Record.{rows, body_length, record_length, number}
use Rattle.rules.specs.ReadFormula.{Faults, Bounds, Stack, in_range, entry, formula_record}
use Rattle.reading.proofs.ClipLaws.{Alike}

-- a choice whose branches agree where they are taken
pub pick_same : {A : Type 0} (x : Bool) (a a' b b' : A) → (x ≡ true → a ≡ a') → (x ≡ false → b ≡ b') → pick x a b ≡ pick x a' b'
pick_same true a a' b b' h i = h refl
pick_same false a a' b b' h i = i refl

-- where the kind is x, the record is as long as x says
module _ (k : ℕ) (bs cs : List ℕ) (a : Alike (record_length k) bs cs) where
  pub alike_at : (x : ℕ) → eqb k x ≡ true → Alike (record_length x) bs cs
  alike_at x e = let z : k ≡ x = eqb-true k x e in rw z at a

pub number_alike : (n : ℕ) (bs cs : List ℕ) → Alike n bs cs → (i : ℕ) → i + 1 < n → number bs i ≡ number cs i
number_alike n bs cs a i h = ap₂ (λ (x y : ℕ). x + 256 * y) (a i (omega arith)) (a (i + 1) h)

module _ (k : ℕ) (bs cs : List ℕ) (a : Alike (record_length k) bs cs) where
  range_alike : (b : Bounds) → in_range b k bs ≡ in_range b k cs
  unfolding rows body_length record_length in_range
  range_alike b =
      pick_same (eqb k Kind.INPUT) _ _ _ _ (λ e. rw (number_alike 3 bs cs (alike_at k bs cs a Kind.INPUT e) 1 (omega arith)))
      (λ e₁. pick_same (eqb k Kind.COIL) _ _ _ _ (λ e. rw (number_alike 3 bs cs (alike_at k bs cs a Kind.COIL e) 1 (omega arith)))
      (λ e₂. pick_same (eqb k Kind.CONSTANT) _ _ _ _ (λ e. rw (alike_at k bs cs a Kind.CONSTANT e 1 (omega arith))) (λ e₃. refl)))

  entry_alike : entry k bs ≡ entry k cs
  unfolding rows body_length record_length entry
  entry_alike =
      pick_same (eqb k Kind.INPUT) _ _ _ _ (λ e. rw (number_alike 3 bs cs (alike_at k bs cs a Kind.INPUT e) 1 (omega arith)))
      (λ e₁. pick_same (eqb k Kind.COIL) _ _ _ _ (λ e. rw (number_alike 3 bs cs (alike_at k bs cs a Kind.COIL e) 1 (omega arith)))
      (λ e₂. pick_same (eqb k Kind.CONSTANT) _ _ _ _ (λ e. rw (alike_at k bs cs a Kind.CONSTANT e 1 (omega arith))) (λ e₃. refl)))

  pub formula_alike : (n : Faults) (b : Bounds) (st : Stack) → formula_record n b st k bs ≡ formula_record n b st k cs
  unfolding formula_record
  formula_alike n b st = rw (range_alike b, entry_alike)
