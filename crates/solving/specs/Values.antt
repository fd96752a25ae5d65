-- The value of each formula record as the rules compute it: that of the sub-formula that ends there. No clause is in it.
use Rattle.std.specs.Prelude.{ℕ, ◌+◌, ◌-◌, ◌≡◌, Bool, false, List, [], ◌∷◌, ◌++◌, length, ltb}
use Rattle.base.specs.Pick.{pick}
use Rattle.rules.specs.Formula.{Inputs, Coils, Formula, Formula.leaf, Formula.inverse, Formula.both, Formula.either, value, Entry, postfix, size}
use Rattle.rules.specs.Sheet.{Rung, Sheet, with, scan}
use Rattle.rules.specs.Clauses.{rungs_at, condition_at, before_at, after_at}

-- the sub-formula that ends at record n of a formula, whose records count from 0
unfoldable pub ending : Formula → ℕ → Formula
ending (leaf x) n = leaf x
ending (inverse f) n = pick (ltb n (size f)) (ending f n) (inverse f)
ending (both f h) n = pick (ltb n (size f)) (ending f n) (pick (ltb (n - size f) (size h)) (ending h (n - size f)) (both f h))
ending (either f h) n = pick (ltb n (size f)) (ending f n) (pick (ltb (n - size f) (size h)) (ending h (n - size f)) (either f h))

-- e's records stand one after the other among f's, the last of them as f's record n
pub record EndsAt (f e : Formula) (n : ℕ) : Type 0 where
  pub front : List Entry
  pub rest : List Entry
  pub there : postfix f ≡ front ++ (postfix e ++ rest)
  pub last : length front + size e ≡ n + 1

abbrev pub record_value : Inputs → Coils → Formula → ℕ → Bool
record_value i k f n = value i k (ending f n)

-- record n of the rungs, over the coils as they stand when its rung runs
unfoldable pub rung_value : Inputs → Coils → List Rung → ℕ → Bool
rung_value i k [] n = false
rung_value i k (r ∷ rs) n =
    pick (ltb n (size r.formula)) (record_value i k r.formula n)
    (rung_value i (with k r.coil (value i k r.formula)) rs (n - size r.formula))

-- the record whose variable is v: of a rung, of the condition after the scan, of the invariant before it or of the invariant after it
unfoldable pub computed : Sheet → Formula → Coils → Inputs → ℕ → Bool
computed t inv k i v =
    pick (ltb v (condition_at t)) (rung_value i k t.rungs (v - rungs_at t))
    (pick (ltb v (before_at t)) (record_value i (scan t i k) t.condition (v - condition_at t))
    (pick (ltb v (after_at t inv)) (record_value i k inv (v - before_at t))
    (record_value i (scan t i k) inv (v - after_at t inv))))
