-- Lines put into a lent room.
use Rattle.std.specs.Prelude.{ℕ, ◌+◌, ◌≤◌, ◌≡◌, List, [], ◌∷◌, ◌++◌, length, take, drop, ltb}
use Rattle.base.specs.Pick.{pick}
use Rattle.writing.specs.Decimal.{decimal}

abbrev pub feed : List ℕ
feed = 0x0A ∷ []

-- a word and a number
abbrev pub numbered : List ℕ → ℕ → List ℕ
numbered word n = word ++ decimal n

-- a line of two words, each with a number
abbrev pub pair_line : List ℕ → ℕ → List ℕ → ℕ → List ℕ
pair_line a n b m = numbered a n ++ numbered b m ++ feed

-- bytes put into the room from a place on, and the place past them
pub record Put (w w' : List ℕ) (at : ℕ) (bs : List ℕ) (r : ℕ) : Type 0 where
  pub next : r ≡ at + length bs
  pub stands : w' ≡ take at w ++ bs ++ drop (at + length bs) w

-- a room of this many bytes holds any line
abbrev pub enough : ℕ
enough = 64

-- the line stands at the front of the room, further bytes are as they were, and n is the line's length; a room that is too short is left alone
pub record Lined (text w w' : List ℕ) (n : ℕ) : Type 0 where
  pub count : n ≡ pick (ltb (length w) enough) 0 (length text)
  pub stands : w' ≡ pick (ltb (length w) enough) w (text ++ drop (length text) w)
  pub inside : n ≤ length w'
