-- Formulas as trees, what they mean, and their records in postfix order.
use Rattle.std.specs.Prelude.{ℕ, ◌+◌, max, Bool, not, ◌&&◌, ◌||◌, List, [], ◌∷◌, ◌++◌}

-- inputs and coils count from 0
abbrev pub Inputs : Type 0
Inputs = ℕ → Bool

abbrev pub Coils : Type 0
Coils = ℕ → Bool

-- a contact on an input or on a coil, or a constant
pub data Leaf : Type 0 where
  input coil : ℕ → Leaf
  constant : Bool → Leaf

pub data Formula : Type 0 where
  leaf : Leaf → Formula
  inverse : Formula → Formula
  both either : Formula → Formula → Formula

unfoldable pub reads : Inputs → Coils → Leaf → Bool
reads i k (input n) = i n
reads i k (coil n) = k n
reads i k (constant b) = b

-- a formula's value
unfoldable pub value : Inputs → Coils → Formula → Bool
value i k (leaf x) = reads i k x
value i k (inverse f) = not (value i k f)
value i k (both f g) = value i k f && value i k g
value i k (either f g) = value i k f || value i k g

-- a formula record
pub data Entry : Type 0 where
  put : Leaf → Entry
  NOT AND OR : Entry

unfoldable pub postfix : Formula → List Entry
postfix (leaf x) = put x ∷ []
postfix (inverse f) = postfix f ++ (NOT ∷ [])
postfix (both f g) = postfix f ++ (postfix g ++ (AND ∷ []))
postfix (either f g) = postfix f ++ (postfix g ++ (OR ∷ []))

-- how many formula records
unfoldable pub size : Formula → ℕ
size (leaf x) = 1
size (inverse f) = size f + 1
size (both f g) = size f + size g + 1
size (either f g) = size f + size g + 1

-- how many values stand on the stack at most
unfoldable pub height : Formula → ℕ
height (leaf x) = 1
height (inverse f) = height f
height (both f g) = max (height f) (1 + height g)
height (either f g) = max (height f) (1 + height g)
