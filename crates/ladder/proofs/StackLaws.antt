-- Values on the stack, and what putting one there and taking one leave.
-- Assumes nothing.
use Prim.Native.Nat.{ℕ, zero, suc, ◌+◌, ◌≤◌, ◌<◌}
use mathlib.Core.Path.{◌≡◌, refl}
use mathlib.Core.Bool.{Bool, true, false, not}
use mathlib.Core.List.{List, ◌∷◌}
use native.Mathlib.Numerals.{add-one}
use native.Mathlib.Omega.{arith}
use mir.Val.{bool_byte}
use lib.ListN.{length, set, length-set}
use lib.Seq.{get_or-set_same, get_or-set_other}
use lib.Dec.{eqb}
use Rattle.ladder.specs.Values.{on, bit_of, values, Put}

-- a store at or above the stack's height leaves its values
pub values_set : (w : List ℕ) (d j v : ℕ) → d ≤ j → values (set w j v) d ≡ values w d
unfolding values
values_set w zero j v h = refl
values_set w (suc d) j v h = rw (get_or-set_other w j d v 0 (omega arith), values_set w d j v (omega arith))

-- the code's number for a value
pub byte_is : (b : Bool) → bool_byte b ≡ bit_of b
byte_is true = refl
byte_is false = refl

bit_on : (b : Bool) → not (eqb (bit_of b) 0) ≡ b
bit_on true = refl
bit_on false = refl

pub pushed : (w : List ℕ) (d v : ℕ) (b : Bool) → d < length w → v ≡ bool_byte b → Put w (set w d v) d b (d + 1)
unfolding values
pushed w d v b h e = record {
  next = refl;
  long = length-set w d v;
  stacked = rw (add-one, get_or-set_same w d v 0 h, values_set w d d v (omega arith), e, byte_is b, bit_on b);
}

pub values_one : (w : List ℕ) (x : ℕ) → values w (x + 1) ≡ on w x ∷ values w x
unfolding values
values_one w x = rw add-one

pub values_two : (w : List ℕ) (x : ℕ) → values w (x + 2) ≡ on w (x + 1) ∷ on w x ∷ values w x
values_two w x = let e : x + 2 ≡ (x + 1) + 1 = omega arith in rw (e, values_one w (x + 1), values_one w x)
