-- What it is for clauses to hold, to have a solution, and to be among others.
use Rattle.std.specs.Prelude.{ℕ, ◌≡◌, ◌⊎◌, Bool, true, false, not, ◌||◌, List, [], ◌∷◌}
use Rattle.base.specs.Lists.{All}
use Rattle.rules.specs.Clauses.{Lit, Lit.plain, Lit.negated, Clause}

-- a value for each variable
abbrev pub Assignment : Type 0
Assignment = ℕ → Bool

unfoldable pub literal : Assignment → Lit → Bool
literal a (plain v) = a v
literal a (negated v) = not (a v)

-- a clause holds when one of its literals does
unfoldable pub clause : Assignment → Clause → Bool
clause a [] = false
clause a (x ∷ c) = literal a x || clause a c

-- clauses hold when each of them does
abbrev pub Holds : Assignment → List Clause → Type 0
Holds a cs = All (λ (c : Clause). clause a c ≡ true) cs

abbrev pub Solvable : List Clause → Type 0
Solvable cs = (a : Assignment) × Holds a cs

-- x is one of the clauses
unfoldable pub ◌among◌ : Clause → List Clause → Type 0
x among [] = ⊥
x among (c ∷ cs) = (x ≡ c) ⊎ (x among cs)

infix 50 ◌among◌
-- the clauses xs and the clauses ys, each in their order, make up the third list, and no other clause does
pub data Merged : List Clause → List Clause → List Clause → Type 0 where
  none : Merged [] [] []
  left : {x : Clause} {xs ys zs : List Clause} → Merged xs ys zs → Merged (x ∷ xs) ys (x ∷ zs)
  right : {x : Clause} {xs ys zs : List Clause} → Merged xs ys zs → Merged xs (x ∷ ys) (x ∷ zs)
