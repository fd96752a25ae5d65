-- Which kinds are allowed where, by the tests of the code.
-- Assumes nothing.
use Prim.Native.Nat.{ℕ}
use mathlib.Core.Path.{◌≡◌, refl}
use mathlib.Core.Bool.{Bool, true, false, ◌||◌}
use native.Mathlib.Omega.{arith}
use lib.Dec.{eqb}
use borrow.Author.Tests.{ne_eqb, eqb-true}
use Rattle.rules.specs.Record.{one_of}
use Rattle.rules.specs.ReadFormula.{formula_kinds}
use Rattle.rules.specs.ReadSheet.{Spot.at_starts, Spot.at_rungs, spot_kinds}

-- what holds of each kind of formula record holds of a kind that is one of them
pub formula_kind : (P : ℕ → Type 0) (k : ℕ) → one_of formula_kinds k ≡ true → P 0x10 → P 0x11 → P 0x12 → P 0x13 → P 0x14 → P 0x15 → P k
formula_kind P k h p0 p1 p2 p3 p4 p5 = first (eqb k 0x10) refl h
  where
    at : (n : ℕ) → eqb k n ≡ true → P n → P k
    at n e p = rw (eqb-true k n e) p

    sixth : (b : Bool) → eqb k 0x15 ≡ b → (b || false) ≡ true → P k
    sixth true e g = at 0x15 e p5
    sixth false e g = let z : ◌≡◌ {A = ℕ} 0 1 = cc in absurd (omega arith)

    fifth : (b : Bool) → eqb k 0x14 ≡ b → (b || (eqb k 0x15 || false)) ≡ true → P k
    fifth true e g = at 0x14 e p4
    fifth false e g = sixth (eqb k 0x15) refl g

    fourth : (b : Bool) → eqb k 0x13 ≡ b → (b || (eqb k 0x14 || (eqb k 0x15 || false))) ≡ true → P k
    fourth true e g = at 0x13 e p3
    fourth false e g = fifth (eqb k 0x14) refl g

    third : (b : Bool) → eqb k 0x12 ≡ b → (b || (eqb k 0x13 || (eqb k 0x14 || (eqb k 0x15 || false)))) ≡ true → P k
    third true e g = at 0x12 e p2
    third false e g = fourth (eqb k 0x13) refl g

    second : (b : Bool) → eqb k 0x11 ≡ b → (b || (eqb k 0x12 || (eqb k 0x13 || (eqb k 0x14 || (eqb k 0x15 || false))))) ≡ true → P k
    second true e g = at 0x11 e p1
    second false e g = third (eqb k 0x12) refl g

    first : (b : Bool) → eqb k 0x10 ≡ b → (b || (eqb k 0x11 || (eqb k 0x12 || (eqb k 0x13 || (eqb k 0x14 || (eqb k 0x15 || false)))))) ≡ true → P k
    first true e g = at 0x10 e p0
    first false e g = second (eqb k 0x11) refl g

-- among the rungs, what is neither RUNG nor CONDITION is a formula record
pub runs_formula : (k : ℕ) → one_of (spot_kinds at_rungs) k ≡ true → (k ≡ 0x20 → ⊥) → (k ≡ 0x21 → ⊥) → one_of formula_kinds k ≡ true
unfolding spot_kinds
runs_formula k h a b = rw (ne_eqb _ _ a, ne_eqb _ _ b) at h

pub starts_runs : (k : ℕ) → one_of (spot_kinds at_starts) k ≡ true → (k ≡ 0x02 → ⊥) → one_of (spot_kinds at_rungs) k ≡ true
unfolding spot_kinds
starts_runs k h a = rw (ne_eqb _ _ a) at h
