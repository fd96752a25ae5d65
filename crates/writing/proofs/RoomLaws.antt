-- Lines of two words with numbers are short, and a line that fits stands whole at the front of its room.
-- Assumes nothing.
use Prim.Native.Nat.{ℕ, ◌+◌, ◌≤◌, ◌<◌}
use mathlib.Core.Path.{◌≡◌, ap, ◌∙◌}
use mathlib.Core.List.{List, ◌++◌}
use native.Mathlib.Nat.{zero-add}
use native.Mathlib.Omega.{arith}
use lib.ListN.{length, take, drop, length-append}
use lib.Seq.{length-take-le}
use borrow.Author.Tests.{lt-ltb, le-ltb}
use mir.Syntax.{w64}
use mir.Val.{Fits}
use Rattle.writing.specs.Decimal.{decimal}
use Rattle.writing.specs.Room.{feed, numbered, pair_line, enough, Put, Lined}
use Rattle.writing.proofs.DecimalLaws.{digits_fit}

-- two words with numbers, and the line feed
pub pair_length : (a : List ℕ) (n : ℕ) (b : List ℕ) (m : ℕ) → length (pair_line a n b m) ≡ length (numbered a n) + length (numbered b m) + 1
pair_length a n b m =
    length-append (numbered a n ++ numbered b m) feed ∙ ap (λ (k : ℕ). k + 1) (length-append (numbered a n) (numbered b m))

pub pair_fits : (a : List ℕ) (n : ℕ) (b : List ℕ) (m : ℕ) → Fits w64 n → Fits w64 m → length (pair_line a n b m) ≤ length a + length b + 41
pair_fits a n b m f g =
    omega (arith, pair_length a n b m, length-append a (decimal n), length-append b (decimal m), digits_fit n f.fits, digits_fit m g.fits)

-- a whole line, or a room that is too short for any
pub too_short : (text w : List ℕ) → length w < enough → Lined text w w 0
too_short text w h = record { count = simp (lt-ltb _ _ h); stands = simp (lt-ltb _ _ h); inside = omega arith }

pub lined : (text w w' : List ℕ) (r : ℕ) → enough ≤ length w → Put w w' 0 text r → Lined text w w' r
lined text w w' r h p = record {
  count = simp (le-ltb _ _ h) (p.next ∙ zero-add (length text));
  stands = simp (le-ltb _ _ h) at_front;
  inside = omega (arith, ap length at_front, length-append text (drop (length text) w), p.next);
}
  where
    at_front : w' ≡ text ++ drop (length text) w
    at_front = p.stands ∙ ap (λ (k : ℕ). text ++ drop k w) (zero-add (length text))

pub ruleset line_cases = (too_short, lined)

-- the written part of the room is as long as the count says
pub written : (text w w' : List ℕ) (n : ℕ) → Lined text w w' n → length (take n w') ≡ n
written text w w' n l = length-take-le n w' l.inside
