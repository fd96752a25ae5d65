-- A formula record: its entry and its bytes determine each other, and what its range test says of the entry.
-- Assumes nothing.
use Prim.Native.Nat.{ℕ}
use mathlib.Core.Path.{◌≡◌, refl, sym}
use mathlib.Core.Bool.{true}
use mathlib.Core.List.{List, [], ◌∷◌, ◌++◌}
use lib.ListN.{get_or}
use borrow.Author.Tests.{ltb-true, lt-ltb}
use Rattle.rules.specs.Kind
use Rattle.rules.specs.Record.{Front.whole, front, rows, body_length, record_length, number, two_bytes, one_of}
use Rattle.rules.specs.Walk.{past}
use Rattle.rules.specs.Formula.{Leaf.input, Leaf.coil, Leaf.constant, Formula.leaf, Entry, Entry.put, Entry.NOT, Entry.AND, Entry.OR}
use Rattle.rules.specs.ReadFormula.{Bounds, formula_kinds, in_range, entry}
use Rattle.rules.specs.WriteSheet.{Bytes, bit, write_entry, Names}
use Rattle.reading.proofs.FrontLaws.{Whole, Written, written_front, written_past}
use Rattle.reading.proofs.WholeLaws.{record_at}
use Rattle.reading.proofs.ByteLaws.{number_back, bit_back, bit_small, bit_of_lem, record_bytes, bare_bytes, number_bytes, one_of_all}

-- the six kinds of formula records
pub data FormulaKind : ℕ → Type 0 where
  an_input : FormulaKind 0x10
  a_coil : FormulaKind 0x11
  a_constant : FormulaKind 0x12
  a_not : FormulaKind 0x13
  an_and : FormulaKind 0x14
  an_or : FormulaKind 0x15

pub formula_kind : (k : ℕ) → one_of formula_kinds k ≡ true → FormulaKind k
formula_kind k e = one_of_all FormulaKind formula_kinds k (an_input, (a_coil, (a_constant, (a_not, (an_and, (an_or, tt)))))) e

-- a contact names an input or a coil that is there
abbrev pub EntryNames : Bounds → Entry → Type 0
EntryNames b (put x) = Names b (leaf x)
EntryNames b NOT = Unit {0}
EntryNames b AND = Unit {0}
EntryNames b OR = Unit {0}

pub entry_names : (b : Bounds) (k : ℕ) (bs : List ℕ) → FormulaKind k → in_range b k bs ≡ true → EntryNames b (entry k bs)
unfolding in_range entry Names
entry_names b k bs an_input e = ltb-true (number bs 1) b.inputs e
entry_names b k bs a_coil e = ltb-true (number bs 1) b.coils e
entry_names b k bs a_constant e = tt
entry_names b k bs a_not e = tt
entry_names b k bs an_and e = tt
entry_names b k bs an_or e = tt

-- the record's bytes are those of its entry
pub entry_written : (b : Bounds) (k : ℕ) (bs : List ℕ) → FormulaKind k → in_range b k bs ≡ true → Bytes bs → Whole k bs → write_entry (entry k bs) ≡ record_at bs
unfolding rows body_length record_length in_range entry write_entry
entry_written b k bs an_input e h w = sym (number_bytes 0x10 bs w h refl)
entry_written b k bs a_coil e h w = sym (number_bytes 0x11 bs w h refl)
entry_written b k bs a_constant e h w = rw (record_bytes 0x12 2 bs w refl, w.first, bit_of_lem (get_or bs 1 0) (ltb-true (get_or bs 1 0) 2 e))
entry_written b k bs a_not e h w = sym (bare_bytes 0x13 bs w refl)
entry_written b k bs an_and e h w = sym (bare_bytes 0x14 bs w refl)
entry_written b k bs an_or e h w = sym (bare_bytes 0x15 bs w refl)

-- an entry's bytes: its kind and its body
abbrev pub kind_of : Entry → ℕ
kind_of (put (input n)) = Kind.INPUT
kind_of (put (coil n)) = Kind.COIL
kind_of (put (constant c)) = Kind.CONSTANT
kind_of NOT = Kind.NOT
kind_of AND = Kind.AND
kind_of OR = Kind.OR

abbrev pub body_of : Entry → List ℕ
body_of (put (input n)) = two_bytes n
body_of (put (coil n)) = two_bytes n
body_of (put (constant c)) = bit c ∷ []
body_of NOT = []
body_of AND = []
body_of OR = []

pub entry_shape : (e : Entry) → write_entry e ≡ kind_of e ∷ body_of e
unfolding write_entry
entry_shape (put (input n)) = refl
entry_shape (put (coil n)) = refl
entry_shape (put (constant c)) = refl
entry_shape NOT = refl
entry_shape AND = refl
entry_shape OR = refl

pub written_entry : (e : Entry) → Written (kind_of e) (body_of e)
unfolding rows body_length
written_entry (put (input n)) = record { known = refl; long = refl }
written_entry (put (coil n)) = record { known = refl; long = refl }
written_entry (put (constant c)) = record { known = refl; long = refl }
written_entry NOT = record { known = refl; long = refl }
written_entry AND = record { known = refl; long = refl }
written_entry OR = record { known = refl; long = refl }

pub kind_of_lem : (e : Entry) → FormulaKind (kind_of e)
kind_of_lem (put (input n)) = an_input
kind_of_lem (put (coil n)) = a_coil
kind_of_lem (put (constant c)) = a_constant
kind_of_lem NOT = a_not
kind_of_lem AND = an_and
kind_of_lem OR = an_or

-- a written entry reads back as itself
pub entry_back : (e : Entry) (rest : List ℕ) → entry (kind_of e) ((kind_of e ∷ body_of e) ++ rest) ≡ e
unfolding entry
entry_back (put (input n)) rest = rw number_back
entry_back (put (coil n)) rest = rw number_back
entry_back (put (constant c)) rest = rw bit_back
entry_back NOT rest = refl
entry_back AND rest = refl
entry_back OR rest = refl

-- and is in range where it names what is there
pub range_back : (b : Bounds) (e : Entry) (rest : List ℕ) → EntryNames b e → in_range b (kind_of e) ((kind_of e ∷ body_of e) ++ rest) ≡ true
unfolding in_range Names
range_back b (put (input n)) rest h = rw number_back (lt-ltb n b.inputs h)
range_back b (put (coil n)) rest h = rw number_back (lt-ltb n b.coils h)
range_back b (put (constant c)) rest h = bit_small c
range_back b NOT rest h = refl
range_back b AND rest h = refl
range_back b OR rest h = refl

-- and stands whole at the front of whatever follows it
pub entry_front : (e : Entry) (rest : List ℕ) → front (write_entry e ++ rest) ≡ whole (kind_of e)
entry_front e rest = rw entry_shape (written_front (kind_of e) (body_of e) (written_entry e) rest)

pub entry_past : (e : Entry) (rest : List ℕ) → past (write_entry e ++ rest) ≡ rest
entry_past e rest = rw entry_shape (written_past (kind_of e) (body_of e) (written_entry e) rest)
