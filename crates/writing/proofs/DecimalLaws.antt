-- Decimal digits: one step of them, how many they are, and that they read back.
-- Assumes nothing.
use Prim.Native.Nat.{ℕ, zero, suc, ◌+◌, ◌-◌, ◌*◌, ◌/◌, ◌%◌, ◌^◌, ◌≤◌, ◌<◌}
use mathlib.Core.Path.{◌≡◌, refl, sym, ap, ◌∙◌}
use mathlib.Core.Bool.{Bool, true, false}
use mathlib.Core.List.{List, [], ◌∷◌, ◌++◌}
use native.Mathlib.Nat.{div-lt_iff_lt-mul, pow-suc}
use native.Mathlib.Omega.{arith}
use lib.ListN.{length, get_or, length-append, get_or-append}
use lib.Dec.{ltb}
use borrow.Author.Tests.{lt-ltb, le-ltb, ltb-true, ltb-false}
use Rattle.base.specs.Lists.{All}
use Rattle.writing.specs.Decimal.{digit, digits, decimal, read_from, IsDigit, ReadBack}

-- one more digit, the last
abbrev last : List ℕ → ℕ → List ℕ
last ds n = ds ++ (digit (n % 10) ∷ [])

-- below ten, one digit, whatever the fuel
digits_one : (k n : ℕ) → n < 10 → digits (suc k) n ≡ digit n ∷ []
unfolding digits
digits_one k n h = rw (lt-ltb n 10 h, digits)

digits_more : (k n : ℕ) → 10 ≤ n → digits (suc k) n ≡ last (digits k (n / 10)) n
unfolding digits
digits_more k n h = rw (le-ltb n 10 h, digits)

-- what holds of one digit, and of one digit more, holds of every number's digits with fuel enough
module _ (P : ℕ → List ℕ → Type 0)
    (one : (n : ℕ) → n < 10 → P n (digit n ∷ []))
    (more : (n : ℕ) (ds : List ℕ) → 10 ≤ n → P (n / 10) ds → P n (last ds n)) where
  every_fuel : (k n : ℕ) → n < k → P n (digits k n)
  every_fuel zero n h = absurd (omega arith)
  every_fuel (suc k) n h = go (ltb n 10) refl (λ m i. every_fuel k m i)
    where
      go : (t : Bool) → ltb n 10 ≡ t → ((m : ℕ) → m < k → P m (digits k m)) → P n (digits (suc k) n)
      go true e f = rw (digits_one k n (ltb-true n 10 e)) (one n (ltb-true n 10 e))
      go false e f =
          let t : 10 ≤ n = ltb-false n 10 e in
          rw (digits_more k n t) (more n (digits k (n / 10)) t (f (n / 10) (omega arith)))

  every : (n : ℕ) → P n (decimal n)
  unfolding decimal
  every n = every_fuel (suc n) n (omega arith)

-- more fuel than the number's value changes nothing
enough_fuel : (k n : ℕ) → n < k → (j : ℕ) → n < j → digits j n ≡ digits k n
enough_fuel = every_fuel (λ n ds. (j : ℕ) → n < j → digits j n ≡ ds) one more
  where
    one : (n : ℕ) → n < 10 → (j : ℕ) → n < j → digits j n ≡ digit n ∷ []
    one n h zero i = absurd (omega arith)
    one n h (suc j) i = digits_one j n h

    more : (n : ℕ) (ds : List ℕ) → 10 ≤ n → ((j : ℕ) → n / 10 < j → digits j (n / 10) ≡ ds) → (j : ℕ) → n < j → digits j n ≡ last ds n
    more n ds h f zero i = absurd (omega arith)
    more n ds h f (suc j) i = digits_more j n h ∙ ap (λ (x : List ℕ). last x n) (f j (omega arith))

pub decimal_one : (n : ℕ) → n < 10 → decimal n ≡ digit n ∷ []
unfolding decimal
decimal_one n h = digits_one n n h

pub decimal_more : (n : ℕ) → 10 ≤ n → decimal n ≡ decimal (n / 10) ++ (digit (n % 10) ∷ [])
unfolding decimal
decimal_more n h =
    digits_more n n h ∙ ap (λ (x : List ℕ). last x n) (enough_fuel (suc (n / 10)) (n / 10) (omega arith) n (omega arith))

pub decimal_longer : (n : ℕ) → 10 ≤ n → length (decimal n) ≡ length (decimal (n / 10)) + 1
decimal_longer n h = ap length (decimal_more n h) ∙ length-append (decimal (n / 10)) (digit (n % 10) ∷ [])

-- a number below a power of ten has as many digits at most
pub few_digits : (n k : ℕ) → n < 10 ^ suc k → length (decimal n) ≤ suc k
few_digits = every (λ n ds. (k : ℕ) → n < 10 ^ suc k → length ds ≤ suc k) one more
  where
    one : (n : ℕ) → n < 10 → (k : ℕ) → n < 10 ^ suc k → 1 ≤ suc k
    one n h k i = omega arith

    more : (n : ℕ) (ds : List ℕ) → 10 ≤ n → ((k : ℕ) → n / 10 < 10 ^ suc k → length ds ≤ suc k) → (k : ℕ) → n < 10 ^ suc k → length (last ds n) ≤ suc k
    more n ds h f zero i = absurd (omega arith)
    more n ds h f (suc k) i =
        let t : n < 10 ^ suc k * 10 = rw (pow-suc 10 (suc k)) at i in
        let a : length ds ≤ suc k = f k ((div-lt_iff_lt-mul (omega arith)).1 t) in
        rw (length-append ds (digit (n % 10) ∷ [])) (omega arith)

-- a number of 64 bits has 20 digits at most
pub digits_fit : (n : ℕ) → n < 2 ^ 64 → length (decimal n) ≤ 20
digits_fit n h = few_digits n 19 (omega arith)

read_last : (n : ℕ) (ds : List ℕ) (d : ℕ) → read_from n (ds ++ (d ∷ [])) ≡ 10 * read_from n ds + (d - 48)
unfolding read_from
read_last n [] d = refl
read_last n (x ∷ ds) d = read_last (10 * n + (x - 48)) ds d

all_last : (ds : List ℕ) (d : ℕ) → All IsDigit ds → IsDigit d → All IsDigit (ds ++ (d ∷ []))
all_last [] d a h = (h, tt)
all_last (x ∷ ds) d a h = (a.0, all_last ds d a.1 h)

pub read_back : ReadBack
unfolding read_from
read_back = record {
  same = every (λ n ds. read_from 0 ds ≡ n) one_same more_same;
  all_digits = every (λ n ds. All IsDigit ds) one_digit more_digits;
  no_zero_first = λ n h e. (every First one_first more_first n).1 h e;
}
  where
    one_same : (n : ℕ) → n < 10 → read_from 0 (digit n ∷ []) ≡ n
    one_same n h = omega arith

    more_same : (n : ℕ) (ds : List ℕ) → 10 ≤ n → read_from 0 ds ≡ n / 10 → read_from 0 (last ds n) ≡ n
    more_same n ds h e = read_last 0 ds (digit (n % 10)) ∙ omega arith

    one_digit : (n : ℕ) → n < 10 → All IsDigit (digit n ∷ [])
    one_digit n h = (record { least = omega arith; most = omega arith }, tt)

    more_digits : (n : ℕ) (ds : List ℕ) → 10 ≤ n → All IsDigit ds → All IsDigit (last ds n)
    more_digits n ds h a = all_last ds (digit (n % 10)) a (record { least = omega arith; most = omega arith })

    First : ℕ → List ℕ → Type 0
    First n ds = (1 ≤ length ds) × (1 ≤ n → get_or ds 0 0 ≡ 48 → ⊥)

    one_first : (n : ℕ) → n < 10 → First n (digit n ∷ [])
    one_first n h = (omega arith, λ i e. omega arith)

    more_first : (n : ℕ) (ds : List ℕ) → 10 ≤ n → First (n / 10) ds → First n (last ds n)
    more_first n ds h f = (
      rw (length-append ds (digit (n % 10) ∷ [])) (omega arith),
      λ i e. f.1 (omega arith) (sym (get_or-append ds (digit (n % 10) ∷ []) 0 0 f.0) ∙ e),
    )
