-- A stack of variables in lent places, and one formula record on it, by the arms of the code.
-- Assumes nothing.
use Prim.Native.Nat.{ℕ, zero, suc, ◌+◌, ◌-◌, ◌≤◌, ◌<◌}
use mathlib.Core.Path.{◌≡◌, refl, ap}
use mathlib.Core.Bool.{Bool, true, false}
use mathlib.Core.List.{List, ◌∷◌}
use native.Mathlib.Numerals.{add-one}
use native.Mathlib.Omega.{arith}
use lib.ListN.{length, get_or, drop, set}
use lib.Seq.{get_or-set_same, get_or-set_other}
use lib.Dec.{eqb}
use borrow.Author.Tests.{eqb-true, eqb-false}
use Rattle.std.specs.Prelude.{Some}
use Rattle.rules.specs.Clauses.{Clause}
use Rattle.clauses.specs.Emits.{Emitted}
use Rattle.clauses.specs.Stack.{stk, Ready, Put}

pub stk_length : (w : List ℕ) (d : ℕ) → length (stk w d) ≡ d
unfolding stk
stk_length w zero = refl
stk_length w (suc d) = ap suc (stk_length w d)

-- a store at or above the stack's height leaves the stack
stk_set : (w : List ℕ) (d j v : ℕ) → d ≤ j → stk (set w j v) d ≡ stk w d
unfolding stk
stk_set w zero j v h = refl
stk_set w (suc d) j v h = rw (get_or-set_other w j d v 0 (omega arith), stk_set w d j v (omega arith))

-- a store at the stack's height is a push
stk_push : (w : List ℕ) (d v : ℕ) → d < length w → stk (set w d v) (d + 1) ≡ v ∷ stk w d
unfolding stk
stk_push w d v h = rw (add-one, get_or-set_same w d v 0, stk_set w d d v (omega arith))

stk_drop : (w : List ℕ) (d n : ℕ) → n ≤ d → drop n (stk w d) ≡ stk w (d - n)
unfolding stk
stk_drop w d zero h = let e : d - 0 ≡ d = omega arith in rw e
stk_drop w zero (suc n) h = absurd (omega arith)
stk_drop w (suc d) (suc n) h =
    let e : suc d - suc n ≡ d - n = omega arith in
    rw e (stk_drop w d n (omega arith))

-- the value put k values before the last
stk_at : (w : List ℕ) (d k i : ℕ) → i + k + 1 ≡ d → get_or (stk w d) k 0 ≡ get_or w i 0
unfolding stk
stk_at w zero k i h = absurd (omega arith)
stk_at w (suc d) zero i h = let e : d ≡ i = omega arith in rw e
stk_at w (suc d) (suc k) i h = stk_at w d k i (omega arith)

pub last : (w : List ℕ) (d : ℕ) → 1 ≤ d → get_or (stk w d) 0 0 ≡ get_or w (d - 1) 0
last w d h = stk_at w d 0 (d - 1) (omega arith)

pub before_last : (w : List ℕ) (d : ℕ) → 2 ≤ d → get_or (stk w d) 1 0 ≡ get_or w (d - 2) 0
before_last w d h = stk_at w d 1 (d - 2) (omega arith)

pub ruleset operand_cases = (last, before_last)

-- values that fit, and one more at a place among or after them
fits_set : (w : List ℕ) (d i v : ℕ) → i < length w → v < 32768 → ((j : ℕ) → j < d → get_or w j 0 < 32768) → i ≤ d
    → (j : ℕ) → j < i + 1 → get_or (set w i v) j 0 < 32768
fits_set w d i v h k f l j m = go (eqb j i) refl
  where
    go : (b : Bool) → eqb j i ≡ b → get_or (set w i v) j 0 < 32768
    go true e = let z : j ≡ i = eqb-true j i e in rw (z, get_or-set_same w i v 0 h) k
    go false e =
        let z : (j ≡ i → ⊥) = eqb-false j i e in
        rw (get_or-set_other w i j v 0 z) (f j (omega arith))

-- g takes the place of the k values
pub put : (k : ℕ) (cs : List Clause) (g : ℕ) (stack : List ℕ) (depth : ℕ) (out : List ℕ) (n : ℕ) → Ready k g stack depth n → (out' : List ℕ) (m : ℕ)
    → Emitted out n cs out' m → Put k cs g stack depth out n (set stack (depth - k) g) (depth - k + 1) out' (Some m)
put k cs g stack depth out n q out' m e = record {
  goes_on = ap Some e.counted;
  height = refl;
  wrote = e.wrote;
  held = rw (stk_drop stack depth k q.enough) (stk_push stack (depth - k) g q.room);
  small = fits_set stack depth (depth - k) g q.room q.g_fits q.small (omega arith);
}
