-- A clause under construction: codes that come one by one, each kept once.
use Rattle.std.specs.Prelude.{ℕ, ◌+◌, ◌*◌, ◌-◌, ◌≤◌, ◌<◌, min, ◌≡◌, Option, Some, None, Result, Ok, Err, Bool, true, false, ◌&&◌, ◌||◌, List, [], ◌∷◌, ◌++◌, length, get_or, ltb, eqb}
use Rattle.base.specs.Pick.{pick}
use Rattle.rules.specs.declared.Limits.{Limits}
use Rattle.rules.specs.Record.{one_of}
use Rattle.refutation.specs.Memory.{part, slot_at, Outside}
use Rattle.rules.specs.declared.refusals.Fault.{Fault}
use Rattle.rules.specs.declared.refusals.Fault.TheVariants.{NoPivot, Width, Steps}
use Rattle.refutation.specs.declared.codes.Spot.{Spot}

-- the codes at a spot
abbrev pub codes : List ℕ → Spot → List ℕ
codes w x = part w x.start x.count

-- r is where derived clause number j has its slot, which lies within memory
pub record Slotted (l : Limits) (w : List ℕ) (from j r : ℕ) : Type 0 where
  pub starts : r ≡ slot_at l from j
  pub fits : r + (l.width + 1) ≤ length w

-- where the clause of number i stands, and how many places it has; numbers count from 1
pub data Placed (l : Limits) (w : List ℕ) (n from m i : ℕ) : Option Spot → Type 0 where
  in_base : {x : Spot} → 1 ≤ i → i - 1 < n → x.start ≡ 3 * (i - 1) → x.count ≡ 3 → Placed l w n from m i (Some x)
  in_slot : {x : Spot} → 1 ≤ i → n ≤ i - 1 → i - 1 - n < m → x.start ≡ slot_at l from (i - 1 - n) + 1
      → x.count ≡ get_or w (slot_at l from (i - 1 - n)) 0 → Placed l w n from m i (Some x)
  zeroth : i ≡ 0 → Placed l w n from m i None
  past : n + m < i → Placed l w n from m i None

-- one code more, unless it is there
unfoldable pub with : ℕ → List ℕ → List ℕ
with x xs = pick (one_of xs x) xs (xs ++ (x ∷ []))

-- the filler and the code p are left out
unfoldable pub unless : ℕ → ℕ → List ℕ → List ℕ
unless p x xs = pick (eqb x 0 || eqb x p) xs (with x xs)

-- xs with the codes of ys, but p
unfoldable pub joined : ℕ → List ℕ → List ℕ → List ℕ
joined p [] xs = xs
joined p (y ∷ ys) xs = joined p ys (unless p y xs)

-- k says how many codes xs are, as far as one past the width, and where they fit they stand from place a on
pub record Built (w : List ℕ) (a width k : ℕ) (xs : List ℕ) : Type 0 where
  pub counted : k ≡ min (length xs) (width + 1)
  pub kept : k ≤ width → part w a k ≡ xs

-- there is room for a clause at place a
pub record Space (w : List ℕ) (a width k : ℕ) : Type 0 where
  pub fits : a + width ≤ length w
  pub upto : k ≤ width + 1

-- memory after codes came to the k that stood from place a on, which f says of any of them
pub record Grown (w : List ℕ) (a width k : ℕ) (f : List ℕ → List ℕ) (w' : List ℕ) (r : ℕ) : Type 0 where
  pub built : (xs : List ℕ) → Built w a width k xs → Built w' a width r (f xs)
  pub upto : r ≤ width + 1
  pub outside : Outside a (a + width) w w'

-- a clause lies below the one at place a
pub record Apart (w : List ℕ) (a width k : ℕ) (x : Spot) : Type 0 where
  pub space : Space w a width k
  pub apart : x.start + x.count ≤ a

-- two clauses lie below the one at place a, for which there is room; p and the code after it are numbers of the code's own
pub record Both (w : List ℕ) (a width : ℕ) (x y : Spot) (p : ℕ) : Type 0 where
  pub first : x.start + x.count ≤ a
  pub second : y.start + y.count ≤ a
  pub fits : a + width ≤ length w
  pub code : p < 131072

-- the codes bs without the code p, joined with the codes ds without the one after it
unfoldable pub union : List ℕ → List ℕ → ℕ → List ℕ
union bs ds p = joined (p + 1) ds (joined p bs [])

-- the codes xs stand from place a on, of which there are r
pub record United (w : List ℕ) (a width : ℕ) (xs w' : List ℕ) (r : ℕ) : Type 0 where
  pub built : Built w' a width r xs
  pub outside : Outside a (a + width) w w'

-- the two clauses of a STEP lie below the slot at place a, which lies within memory
pub record Pair (l : Limits) (w : List ℕ) (a : ℕ) (x y : Spot) : Type 0 where
  pub first : x.start + x.count ≤ a
  pub second : y.start + y.count ≤ a
  pub fits : a + (l.width + 1) ≤ length w
  pub narrow : l.width < 65536

-- where m steps came before: what becomes of the codes xs, and the slot at place a after it
pub data Made (l : Limits) (m : ℕ) (w : List ℕ) (a : ℕ) (xs : List ℕ) : Result Bool Fault → Type 0 where
  over : l.width < length xs → Made l m w a xs (Err Width)
  late : length xs ≤ l.width → l.steps ≤ m → Made l m w a xs (Err Steps)
  made : {b : Bool} → length xs ≤ l.width → m < l.steps → get_or w a 0 ≡ length xs → part w (a + 1) (length xs) ≡ xs → b ≡ eqb (length xs) 0
      → Made l m w a xs (Ok b)

-- the slot's own places may have changed
pub record Making (l : Limits) (m : ℕ) (w : List ℕ) (a : ℕ) (xs w' : List ℕ) (r : Result Bool Fault) : Type 0 where
  pub made : Made l m w' a xs r
  pub outside : Outside a (a + (l.width + 1)) w w'

-- the pivot v is a variable, plain among bs and negated among ds
unfoldable pub pivots : List ℕ → List ℕ → ℕ → Bool
pivots bs ds v = ltb 0 v && (one_of bs (2 * v) && one_of ds (2 * v + 1))

pub data Tried (l : Limits) (m : ℕ) (w : List ℕ) (a : ℕ) (bs ds : List ℕ) (v : ℕ) (w' : List ℕ) : Result Bool Fault → Type 0 where
  missing : pivots bs ds v ≡ false → Outside a (a + (l.width + 1)) w w' → Tried l m w a bs ds v w' (Err NoPivot)
  tried : {r : Result Bool Fault} → pivots bs ds v ≡ true → Making l m w a (union bs ds (2 * v)) w' r → Tried l m w a bs ds v w' r
