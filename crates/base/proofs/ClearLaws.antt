-- Clearing lent places: the loop's invariant, and what cleared places hold.
-- Assumes nothing.
use Prim.Native.Nat.{ℕ, zero, suc, ◌+◌, ◌≤◌, ◌<◌}
use mathlib.Core.Path.{◌≡◌, refl, ap, ◌∙◌}
use mathlib.Core.List.{List, [], ◌++◌}
use native.Mathlib.Omega.{arith}
use lib.ListN.{length, drop, get_or, set, replicate, length-append, length-drop, length-replicate, length-set, get_or-replicate, get_or-append}
use lib.Seq.{drop_at, drop-length}
use borrow.Author.Fill.{fill_none, fill_more}
use Rattle.base.specs.Lists.{fresh}

pub record Clearing (w₀ : List ℕ) (n : ℕ) (w : List ℕ) (i : ℕ) : Type 0 where
  pub upto : i ≤ n
  pub inside : n ≤ length w₀
  pub long : length w ≡ length w₀
  pub zeros : w ≡ fresh i w₀

pub clear_none : (w : List ℕ) (n : ℕ) → n ≤ length w → Clearing w n w 0
unfolding fresh
clear_none w n h = record { upto = omega arith; inside = h; long = refl; zeros = fill_none w 0 }

pub clear_more : (w₀ : List ℕ) (n : ℕ) (w : List ℕ) (i : ℕ) → Clearing w₀ n w i → i < n → Clearing w₀ n (set w i 0) (i + 1)
unfolding fresh
clear_more w₀ n w i c h = record {
  upto = omega arith;
  inside = c.inside;
  long = length-set w i 0 ∙ c.long;
  zeros = ap (λ (x : List ℕ). set x i 0) c.zeros ∙ fill_more i 0 w₀ (omega (arith, c.inside));
}

pub clear_all : (w₀ : List ℕ) (n : ℕ) (w : List ℕ) (i : ℕ) → Clearing w₀ n w i → n ≤ i → w ≡ fresh n w₀
clear_all w₀ n w i c h = let e : i ≡ n = omega (arith, c.upto) in c.zeros ∙ ap (λ (k : ℕ). fresh k w₀) e

pub ruleset clear_cases = (clear_none, clear_more, clear_all)

pub fresh_length : (n : ℕ) (w : List ℕ) → n ≤ length w → length (fresh n w) ≡ length w
unfolding fresh
fresh_length n w h = simp (length-append, length-replicate, length-drop) (omega arith)

pub fresh_rest : (n : ℕ) (w : List ℕ) → drop n (fresh n w) ≡ drop n w
unfolding fresh
fresh_rest n w = drop_at (replicate n 0) (drop n w) n (length-replicate n 0)

pub fresh_zero : (n : ℕ) (w : List ℕ) (k : ℕ) → k < n → get_or (fresh n w) k 0 ≡ 0
unfolding fresh
fresh_zero n w k h = get_or-append (replicate n 0) (drop n w) 0 k (rw length-replicate h) ∙ get_or-replicate n k 0 0 h

-- cleared to the end, every place is zero, and so is what lies past it
pub all_zero : (w : List ℕ) (k : ℕ) → get_or (fresh (length w) w) k 0 ≡ 0
unfolding fresh
all_zero w k = rw (drop-length w) (go (length w) k)
  where
    go : (n k : ℕ) → ◌≡◌ {A = ℕ} (get_or (replicate n 0 ++ []) k 0) 0
    go zero k = refl
    go (suc n) zero = refl
    go (suc n) (suc k) = go n k
