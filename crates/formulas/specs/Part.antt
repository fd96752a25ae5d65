-- The code's case for the record at the front of bytes.
use Rattle.std.specs.Prelude.{ℕ, List, get_or, eqb}
use Rattle.base.specs.Pick.{pick}
use Rattle.rules.specs.Kind
use Rattle.rules.specs.Record.{number}
use Rattle.rules.specs.Formula.{Leaf.input, Leaf.coil, Leaf.constant, Entry, Entry.put, Entry.NOT, Entry.AND, Entry.OR}
use Rattle.formulas.specs.declared.Part.{Part}
use Rattle.formulas.specs.declared.Part.TheVariants.{Input, Coil, Constant, Not, And, Or, Closing}

-- the case of a formula record
unfoldable pub part_for : Entry → Part
part_for (put (input n)) = Input n
part_for (put (coil n)) = Coil n
part_for (put (constant b)) = Constant b
part_for NOT = Not
part_for AND = And
part_for OR = Or

-- the formula record of a case; a closing record is none, and its case does not matter
unfoldable pub entry_for : Part → Entry
entry_for (Input n) = put (input n)
entry_for (Coil n) = put (coil n)
entry_for (Constant b) = put (constant b)
entry_for Not = NOT
entry_for And = AND
entry_for Or = OR
entry_for Closing = OR

-- what stands at the front of bytes
unfoldable pub part_of : List ℕ → Part
part_of bs =
    pick (eqb (get_or bs 0 0) Kind.INPUT) (Input (number bs 1))
    (pick (eqb (get_or bs 0 0) Kind.COIL) (Coil (number bs 1))
    (pick (eqb (get_or bs 0 0) Kind.CONSTANT) (Constant (eqb (get_or bs 1 0) 1))
    (pick (eqb (get_or bs 0 0) Kind.NOT) Not
    (pick (eqb (get_or bs 0 0) Kind.AND) And
    (pick (eqb (get_or bs 0 0) Kind.OR) Or Closing)))))

-- its bytes
abbrev pub length_of : Part → ℕ
length_of (Input n) = 3
length_of (Coil n) = 3
length_of (Constant b) = 2
length_of Not = 1
length_of And = 1
length_of Or = 1
length_of Closing = 0
