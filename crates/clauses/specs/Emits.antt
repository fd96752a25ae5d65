-- Clauses in lent places, three places a clause, as far as whole clauses fit.
use Rattle.std.specs.Prelude.{ℕ, ◌+◌, ◌*◌, ◌<◌, ◌≡◌, Bool, List, [], ◌∷◌, length, set, leb}
use Rattle.base.specs.Pick.{pick}
use Rattle.rules.specs.Clauses.{Lit.plain, Lit.negated, Clause, unit, place_of}

-- a, b and c are clause number n, counted from 0, if there is room for it
unfoldable pub stored : List ℕ → ℕ → ℕ → ℕ → ℕ → List ℕ
stored w n a b c = pick (leb (3 * n + 3) (length w)) (set (set (set w (3 * n) a) (3 * n + 1) b) (3 * n + 2) c) w

-- the clauses from number n on
unfoldable pub emits : List ℕ → ℕ → List Clause → List ℕ
emits w n [] = w
emits w n (c ∷ cs) = emits (stored w n (place_of c 0) (place_of c 1) (place_of c 2)) (n + 1) cs

-- what a function that writes clauses leaves and answers: the places, and the number of the next clause
pub record Emitted (w : List ℕ) (n : ℕ) (cs : List Clause) (w' : List ℕ) (r : ℕ) : Type 0 where
  pub wrote : w' ≡ emits w n cs
  pub counted : r ≡ n + length cs

-- a number of clauses that can be counted on, and three variables whose literals fit 16 bits
pub record Small (n g x y : ℕ) : Type 0 where
  pub few : n < 9223372036854775808
  pub g_fits : g < 32768
  pub x_fits : x < 32768
  pub y_fits : y < 32768

-- v plain where it is on, else negated
abbrev pub signed : Bool → ℕ → List Clause
signed on v = unit (pick on (plain v) (negated v))
