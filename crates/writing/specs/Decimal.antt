-- A number as decimal digits without leading zeros, and the number that digits are read as.
use Rattle.std.specs.Prelude.{ℕ, zero, suc, ◌+◌, ◌-◌, ◌*◌, ◌/◌, ◌%◌, ◌≤◌, ◌≡◌, true, false, List, [], ◌∷◌, ◌++◌, get_or, ltb}
use Rattle.base.specs.Lists.{All}

-- the byte of a digit, `0` to `9`
abbrev pub digit : ℕ → ℕ
digit d = 48 + d

-- the last digit stands after the digits of a tenth; the first number only bounds how many digits are written
unfoldable pub digits : ℕ → ℕ → List ℕ
digits zero n = []
digits (suc k) n = elim (ltb n 10) [ true ↦ digit n ∷ [] | false ↦ digits k (n / 10) ++ (digit (n % 10) ∷ []) ]

-- a number has fewer digits than its value and one more
unfoldable pub decimal : ℕ → List ℕ
decimal n = digits (suc n) n

-- reading: the number so far, then the digits that follow it
unfoldable pub read_from : ℕ → List ℕ → ℕ
read_from n [] = n
read_from n (d ∷ ds) = read_from (10 * n + (d - 48)) ds

-- a byte that is a digit
pub record IsDigit (d : ℕ) : Type 0 where
  pub least : 48 ≤ d
  pub most : d ≤ 57

-- reading the digits back gives the number; every byte is a digit; only 0 begins with a zero
pub record ReadBack : Type 0 where
  pub same : (n : ℕ) → read_from 0 (decimal n) ≡ n
  pub all_digits : (n : ℕ) → All IsDigit (decimal n)
  pub no_zero_first : (n : ℕ) → 1 ≤ n → get_or (decimal n) 0 0 ≡ 48 → ⊥
