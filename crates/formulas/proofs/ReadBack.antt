-- A written formula record is found at the front of its bytes, and a byte of another kind closes the formula.
-- Assumes nothing.
use Prim.Native.Nat.{ℕ, ◌+◌, ◌*◌, ◌/◌, ◌%◌}
use mathlib.Core.Path.{◌≡◌, refl, ap}
use mathlib.Core.Bool.{Bool, true, false, ◌||◌}
use mathlib.Core.List.{List, ◌++◌}
use native.Mathlib.Omega.{arith}
use lib.ListN.{length, get_or}
use lib.Dec.{eqb}
use Rattle.rules.specs.Record.{one_of}
use Rattle.rules.specs.Formula.{Leaf.input, Leaf.coil, Leaf.constant, Entry, Entry.put, Entry.NOT, Entry.AND, Entry.OR}
use Rattle.rules.specs.ReadFormula.{formula_kinds}
use Rattle.rules.specs.WriteSheet.{write_entry}
use Rattle.formulas.specs.Part.{part_for, entry_for, part_of, length_of}
use Rattle.formulas.specs.declared.Part.TheVariants.{Input, Coil, Closing}

-- a number's two bytes are the number
pub two_bytes_lem : (n : ℕ) → n % 256 + 256 * (n / 256) ≡ n
two_bytes_lem n = omega arith

pub read_back : (e : Entry) (rest : List ℕ) → part_of (write_entry e ++ rest) ≡ part_for e
unfolding part_of part_for write_entry
read_back (put (input n)) rest = ap Input (two_bytes_lem n)
read_back (put (coil n)) rest = ap Coil (two_bytes_lem n)
read_back (put (constant true)) rest = refl
read_back (put (constant false)) rest = refl
read_back NOT rest = refl
read_back AND rest = refl
read_back OR rest = refl

pub entry_back : (e : Entry) → entry_for (part_for e) ≡ e
unfolding part_for entry_for
entry_back (put (input n)) = refl
entry_back (put (coil n)) = refl
entry_back (put (constant b)) = refl
entry_back NOT = refl
entry_back AND = refl
entry_back OR = refl

-- a formula record is not taken for a closing one
pub not_closing : (e : Entry) → part_for e ≡ Closing → ⊥
unfolding part_for
not_closing (put (input n)) h = let z : ◌≡◌ {A = ℕ} 0 1 = cc in omega arith
not_closing (put (coil n)) h = let z : ◌≡◌ {A = ℕ} 0 1 = cc in omega arith
not_closing (put (constant b)) h = let z : ◌≡◌ {A = ℕ} 0 1 = cc in omega arith
not_closing NOT h = let z : ◌≡◌ {A = ℕ} 0 1 = cc in omega arith
not_closing AND h = let z : ◌≡◌ {A = ℕ} 0 1 = cc in omega arith
not_closing OR h = let z : ◌≡◌ {A = ℕ} 0 1 = cc in omega arith

pub length_back : (e : Entry) → length_of (part_for e) ≡ length (write_entry e)
unfolding part_for write_entry
length_back (put (input n)) = refl
length_back (put (coil n)) = refl
length_back (put (constant b)) = refl
length_back NOT = refl
length_back AND = refl
length_back OR = refl

neither : (a b : Bool) → (a || b) ≡ false → (a ≡ false) × (b ≡ false)
neither true b h = let z : ◌≡◌ {A = ℕ} 0 1 = cc in absurd (omega arith)
neither false b h = (refl, h)

pub closing_back : (bs : List ℕ) → one_of formula_kinds (get_or bs 0 0) ≡ false → part_of bs ≡ Closing
unfolding part_of
closing_back bs h =
    let k : ℕ = get_or bs 0 0 in
    let a = neither (eqb k 0x10) (eqb k 0x11 || (eqb k 0x12 || (eqb k 0x13 || (eqb k 0x14 || (eqb k 0x15 || false))))) h in
    let b = neither (eqb k 0x11) (eqb k 0x12 || (eqb k 0x13 || (eqb k 0x14 || (eqb k 0x15 || false)))) a.1 in
    let c = neither (eqb k 0x12) (eqb k 0x13 || (eqb k 0x14 || (eqb k 0x15 || false))) b.1 in
    let d = neither (eqb k 0x13) (eqb k 0x14 || (eqb k 0x15 || false)) c.1 in
    let e = neither (eqb k 0x14) (eqb k 0x15 || false) d.1 in
    let f = neither (eqb k 0x15) false e.1 in
    rw (a.0, b.0, c.0, d.0, e.0, f.0)
