-- Places as values: a place that is not zero is on.
use Rattle.std.specs.Prelude.{ℕ, zero, suc, ◌+◌, ◌≡◌, Bool, false, not, ◌&&◌, ◌||◌, List, [], ◌∷◌, length, get_or, drop, eqb}
use Rattle.base.specs.Pick.{pick}
use Rattle.rules.specs.Formula.{Inputs, Coils, Entry, Entry.put, Entry.NOT, Entry.AND, Entry.OR, reads}

-- the values of places; past their end all is off
abbrev pub on : List ℕ → ℕ → Bool
on w n = not (eqb (get_or w n 0) 0)

abbrev pub bit_of : Bool → ℕ
bit_of b = pick b 1 0

-- the lowest d places of a stack as values, the last one first
unfoldable pub values : List ℕ → ℕ → List Bool
values w zero = []
values w (suc d) = on w d ∷ values w d

-- what a formula record does to a stack of values
unfoldable pub act : Inputs → Coils → Entry → List Bool → List Bool
act i k (put x) vs = reads i k x ∷ vs
act i k NOT vs = not (get_or vs 0 false) ∷ drop 1 vs
act i k AND vs = (get_or vs 1 false && get_or vs 0 false) ∷ drop 2 vs
act i k OR vs = (get_or vs 1 false || get_or vs 0 false) ∷ drop 2 vs

unfoldable pub acts : Inputs → Coils → List Entry → List Bool → List Bool
acts i k [] vs = vs
acts i k (e ∷ es) vs = acts i k es (act i k e vs)

-- a value was put at height d, and the stack is one higher
pub record Put (w w' : List ℕ) (d : ℕ) (b : Bool) (r : ℕ) : Type 0 where
  pub next : r ≡ d + 1
  pub long : length w' ≡ length w
  pub stacked : values w' r ≡ b ∷ values w d

-- the value at the top was taken, and the stack is one lower
pub record Taken (w w' : List ℕ) (d : ℕ) (b : Bool) (r : ℕ) : Type 0 where
  pub next : d ≡ r + 1
  pub same : w' ≡ w
  pub is : b ≡ on w r
