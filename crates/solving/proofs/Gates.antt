-- A record's defining clauses hold exactly when its variable has the value that they define.
-- Assumes nothing.
use Prim.Native.Nat.{ℕ}
use mathlib.Core.Path.{◌≡◌, refl, sym}
use mathlib.Core.Logic.{◌↔◌}
use mathlib.Core.Bool.{Bool, true, false, not, ◌&&◌, ◌||◌, false≢true}
use mathlib.Core.List.{List, [], ◌∷◌, ◌++◌}
use Rattle.base.specs.Lists.{All}
use Rattle.rules.specs.Clauses.{Lit.plain, Lit.negated, Clause, contact_clauses, not_clauses, and_clauses, or_clauses, unit}
use Rattle.solving.specs.Solution.{Assignment, literal, clause, Holds}

-- what holds of each element of two lists
pub all_append : {A : Type 0} (P : A → Type 0) (xs ys : List A) → All P (xs ++ ys) ↔ (All P xs × All P ys)
all_append P [] ys = (λ h. (tt, h), λ h. h.1)
all_append P (x ∷ xs) ys =
    let more = all_append P xs ys in
    (λ h. ((h.0, (more.0 h.1).0), (more.0 h.1).1), λ h. (h.0.0, more.1 (h.0.1, h.1)))

pub both_hold : (a : Assignment) (xs ys : List Clause) → Holds a (xs ++ ys) ↔ (Holds a xs × Holds a ys)
both_hold a xs ys = all_append (λ (c : Clause). clause a c ≡ true) xs ys

never : {A : Type 0} → false ≡ true → A
never e = absurd (false≢true e)

-- a unit clause holds when its literal does
pub on : (p : Bool) → (((p || false) ≡ true) × Unit {0}) ↔ (p ≡ true)
on true = (λ e. refl, λ e. (refl, tt))
on false = (λ e. never e.0, λ e. never e)

pub off : (p : Bool) → (((not p || false) ≡ true) × Unit {0}) ↔ (p ≡ false)
off true = (λ e. never e.0, λ e. never (sym e))
off false = (λ e. refl, λ e. (refl, tt))

same : (p x : Bool) → (((not p || (x || false)) ≡ true) × (((p || (not x || false)) ≡ true) × Unit {0})) ↔ (p ≡ x)
same true true = (λ e. refl, λ e. (refl, (refl, tt)))
same true false = (λ e. never e.0, λ e. never (sym e))
same false true = (λ e. never e.1.0, λ e. never e)
same false false = (λ e. refl, λ e. (refl, (refl, tt)))

opposite : (p x : Bool) → (((not p || (not x || false)) ≡ true) × (((p || (x || false)) ≡ true) × Unit {0})) ↔ (p ≡ not x)
opposite true true = (λ e. never e.0, λ e. never (sym e))
opposite true false = (λ e. refl, λ e. (refl, (refl, tt)))
opposite false true = (λ e. refl, λ e. (refl, (refl, tt)))
opposite false false = (λ e. never e.1.0, λ e. never e)

conjunction : (p x y : Bool)
    → (((not p || (x || false)) ≡ true) × (((not p || (y || false)) ≡ true) × (((p || (not x || (not y || false))) ≡ true) × Unit {0}))) ↔ (p ≡ (x && y))
conjunction true true true = (λ e. refl, λ e. (refl, (refl, (refl, tt))))
conjunction true true false = (λ e. never e.1.0, λ e. never (sym e))
conjunction true false true = (λ e. never e.0, λ e. never (sym e))
conjunction true false false = (λ e. never e.0, λ e. never (sym e))
conjunction false true true = (λ e. never e.1.1.0, λ e. never e)
conjunction false true false = (λ e. refl, λ e. (refl, (refl, (refl, tt))))
conjunction false false true = (λ e. refl, λ e. (refl, (refl, (refl, tt))))
conjunction false false false = (λ e. refl, λ e. (refl, (refl, (refl, tt))))

disjunction : (p x y : Bool)
    → (((p || (not x || false)) ≡ true) × (((p || (not y || false)) ≡ true) × (((not p || (x || (y || false))) ≡ true) × Unit {0}))) ↔ (p ≡ (x || y))
disjunction true true true = (λ e. refl, λ e. (refl, (refl, (refl, tt))))
disjunction true true false = (λ e. refl, λ e. (refl, (refl, (refl, tt))))
disjunction true false true = (λ e. refl, λ e. (refl, (refl, (refl, tt))))
disjunction true false false = (λ e. never e.1.1.0, λ e. never (sym e))
disjunction false true true = (λ e. never e.0, λ e. never e)
disjunction false true false = (λ e. never e.0, λ e. never e)
disjunction false false true = (λ e. never e.1.0, λ e. never e)
disjunction false false false = (λ e. refl, λ e. (refl, (refl, (refl, tt))))

module _ (a : Assignment) where
  pub plain_unit : (v : ℕ) → Holds a (unit (plain v)) ↔ (a v ≡ true)
  unfolding literal clause
  plain_unit v = on (a v)

  pub negated_unit : (v : ℕ) → Holds a (unit (negated v)) ↔ (a v ≡ false)
  unfolding literal clause
  negated_unit v = off (a v)

  pub contact : (g v : ℕ) → Holds a (contact_clauses g v) ↔ (a g ≡ a v)
  unfolding literal clause
  contact g v = same (a g) (a v)

  pub inverts : (g x : ℕ) → Holds a (not_clauses g x) ↔ (a g ≡ not (a x))
  unfolding literal clause
  inverts g x = opposite (a g) (a x)

  pub joins : (g x y : ℕ) → Holds a (and_clauses g x y) ↔ (a g ≡ (a x && a y))
  unfolding literal clause
  joins g x y = conjunction (a g) (a x) (a y)

  pub offers : (g x y : ℕ) → Holds a (or_clauses g x y) ↔ (a g ≡ (a x || a y))
  unfolding literal clause
  offers g x y = disjunction (a g) (a x) (a y)
