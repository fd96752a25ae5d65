-- Records: one byte of kind, then a body whose length the kind fixes; numbers are two bytes, low byte first.
use Rattle.std.specs.Prelude.{ℕ, ◌+◌, ◌*◌, ◌/◌, ◌%◌, List, [], ◌∷◌, Bool, false, ◌||◌, length, get_or, leb, eqb}
use Rattle.base.specs.Pick.{pick}
use Rattle.rules.specs.Kind

-- a kind and the length of its body
pub record Row : Type 0 where
  pub kind : ℕ
  pub body : ℕ

abbrev pub ◌▹◌ : ℕ → ℕ → Row
k ▹ n = record { kind = k; body = n }

infix 70 ◌▹◌
unfoldable pub rows : List Row
rows =
    Kind.HEAD ▹ 6 ∷ Kind.START ▹ 3
    ∷ Kind.INPUT ▹ 2 ∷ Kind.COIL ▹ 2 ∷ Kind.CONSTANT ▹ 1 ∷ Kind.NOT ▹ 0 ∷ Kind.AND ▹ 0 ∷ Kind.OR ▹ 0
    ∷ Kind.RUNG ▹ 2 ∷ Kind.CONDITION ▹ 0 ∷ Kind.END ▹ 0
    ∷ Kind.STEP ▹ 6 ∷ Kind.QED ▹ 0 ∷ Kind.SAFE ▹ 0 ∷ Kind.INVARIANT ▹ 0
    ∷ Kind.TRACE ▹ 0 ∷ Kind.INPUT_ON ▹ 2 ∷ Kind.SCAN ▹ 0
    ∷ []

abbrev pub body_in : List Row → ℕ → ℕ
body_in [] k = 255
body_in (r ∷ rs) k = pick (eqb k r.kind) r.body (body_in rs k)

-- the body length of each possible kind byte, 255 for "no such kind"
unfoldable pub body_length : ℕ → ℕ
body_length k = body_in rows k

-- what stands at the front of bytes: nothing is left, no such kind, a body that is cut, or a whole record
pub data Front : Type 0 where
  nothing unknown : Front
  cut whole : ℕ → Front

unfoldable pub front : List ℕ → Front
front [] = nothing
front (k ∷ body) =
    pick (eqb (body_length k) 255) unknown
    (pick (leb (body_length k) (length body)) (whole k) (cut k))

-- the length of a record of kind k, its kind byte included
unfoldable pub record_length : ℕ → ℕ
record_length k = 1 + body_length k

-- the number that starts k bytes into a record
abbrev pub number : List ℕ → ℕ → ℕ
number bs k = get_or bs k 0 + 256 * get_or bs (k + 1) 0

-- a number's two bytes
abbrev pub two_bytes : ℕ → List ℕ
two_bytes n = n % 256 ∷ n / 256 ∷ []

-- is k one of these?
abbrev pub one_of : List ℕ → ℕ → Bool
one_of [] k = false
one_of (x ∷ xs) k = eqb k x || one_of xs k
