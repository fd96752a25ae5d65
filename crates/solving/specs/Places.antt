-- Back from the places that the translator writes to the clauses that they stand for.
use Rattle.std.specs.Prelude.{ℕ, ◌≤◌, ◌/◌, ◌%◌, List, [], ◌∷◌, ◌++◌, length, eqb}
use Rattle.base.specs.Pick.{pick}
use Rattle.base.specs.Lists.{All}
use Rattle.rules.specs.Clauses.{Lit, Lit.plain, Lit.negated, Clause}

-- 0 is filler; an even place is a plain literal, an odd one a negated literal
unfoldable pub unplace : ℕ → List Lit
unplace n = pick (eqb n 0) [] (pick (eqb (n % 2) 0) (plain (n / 2) ∷ []) (negated (n / 2) ∷ []))

-- three places a clause; there are no places over
unfoldable pub unplaces : List ℕ → List Clause
unplaces [] = []
unplaces (x ∷ []) = []
unplaces (x ∷ y ∷ []) = []
unplaces (x ∷ y ∷ z ∷ ps) = (unplace x ++ (unplace y ++ unplace z)) ∷ unplaces ps

abbrev pub variable : Lit → ℕ
variable (plain v) = v
variable (negated v) = v

-- one to three literals, their variables from 1 to n
pub record Placeable (n : ℕ) (c : Clause) : Type 0 where
  pub some : 1 ≤ length c
  pub few : length c ≤ 3
  pub counted : All (λ (x : Lit). (1 ≤ variable x) × (variable x ≤ n)) c
