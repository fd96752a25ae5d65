-- Each choice of coils and inputs extends in exactly one way: the chosen values, and past them the computed ones.
-- Assumes nothing.
use Prim.Native.Nat.{ℕ, ◌+◌, ◌-◌, ◌≤◌, ◌<◌}
use native.Mathlib.Omega.{arith}
use mathlib.Core.Path.{◌≡◌, sym, ◌∙◌}
use mathlib.Core.Logic.{◌⊎◌.inl, ◌⊎◌.inr}
use lib.Dec.{ltb}
use borrow.Author.Tests.{lt-ltb, le-ltb}
use Rattle.base.specs.Pick.{pick}
use Rattle.rules.specs.Formula.{Inputs, Coils, Formula}
use Rattle.rules.specs.Sheet.{Sheet}
use Rattle.rules.specs.Certificate.{Which, Which.start, Which.keep, Which.safe}
use Rattle.rules.specs.Clauses.{rungs_at}
use Rattle.solving.specs.Solution.{Assignment}
use Rattle.solving.specs.Parts.{Chosen, Defined}
use Rattle.solving.specs.Values.{computed}
use Rattle.solving.specs.Statements.{ExtendsOnce}
use Rattle.solving.proofs.Settled.{Settled, settles}

unfoldable pub extension : Sheet → Formula → Coils → Inputs → Assignment
extension t inv k i v = pick (ltb v (1 + t.coils)) (k (v - 1)) (pick (ltb v (rungs_at t)) (i (v - (1 + t.coils))) (computed t inv k i v))

module _ (t : Sheet) (inv : Formula) (w : Which) (k : Coils) (i : Inputs) where
  pub extension_chosen : Chosen t w k i (extension t inv k i)
  unfolding extension
  extension_chosen = record { coils = on_coils; inputs = λ s. on_inputs }
    where
      on_coils : (c : ℕ) → c < t.coils → extension t inv k i (1 + c) ≡ k c
      on_coils c l = let e : 1 + c - 1 ≡ c = omega arith in rw (lt-ltb (1 + c) (1 + t.coils) (omega arith), e)

      on_inputs : (j : ℕ) → j < t.inputs → extension t inv k i (1 + t.coils + j) ≡ i j
      on_inputs j l =
          let e : 1 + t.coils + j - (1 + t.coils) ≡ j = omega arith in
          rw (le-ltb (1 + t.coils + j) (1 + t.coils) (omega arith), lt-ltb (1 + t.coils + j) (rungs_at t) (omega arith), e)

  -- a defined variable comes after the coils and the inputs
  past_chosen : (u : Which) (v : ℕ) → Defined t inv u v → rungs_at t ≤ v
  unfolding Defined
  past_chosen start v h = omega arith
  past_chosen keep v (inl h) = omega arith
  past_chosen keep v (inr (inl h)) = omega arith
  past_chosen keep v (inr (inr h)) = omega arith
  past_chosen safe v (inl h) = omega arith
  past_chosen safe v (inr (inl h)) = omega arith
  past_chosen safe v (inr (inr h)) = omega arith

  pub extension_settled : Settled t inv w k i (extension t inv k i)
  unfolding extension
  extension_settled v d =
      let p = past_chosen w v d in
      rw (le-ltb v (1 + t.coils) (omega arith), le-ltb v (rungs_at t) p)

pub extends_once : ExtendsOnce
extends_once l t inv sheet invariant w k i = record {
  values = a;
  chosen = extension_chosen t inv w k i;
  met = (settles l t inv sheet invariant k i a w (extension_chosen t inv w k i)).1 (extension_settled t inv w k i);
  right = extension_settled t inv w k i;
  only = λ b c h v d. (settles l t inv sheet invariant k i b w c).0 h v d ∙ sym (extension_settled t inv w k i v d);
}
  where
    a : Assignment
    a = extension t inv k i
