-- Reading formula records onto a stack of formulas, and the refusals that sheet and certificate share.
use Rattle.std.specs.Prelude.{ℕ, ◌+◌, Bool, true, false, List, [], ◌∷◌, length, get_or, drop, ltb, leb, eqb}
use Rattle.base.specs.Pick.{pick}
use Rattle.rules.specs.Kind
use Rattle.rules.specs.Record.{number}
use Rattle.rules.specs.Formula.{Leaf.input, Leaf.coil, Leaf.constant, Formula, Formula.leaf, Formula.inverse, Formula.both, Formula.either, Entry, Entry.put, Entry.NOT, Entry.AND, Entry.OR}

-- the refusals by what they are given for
pub record Faults : Type 0 where
  pub ends : ℕ
  pub strange : ℕ
  pub range : ℕ
  pub operands : ℕ
  pub depth : ℕ
  pub records : ℕ
  pub after : ℕ

abbrev pub sheet_faults : Faults
sheet_faults = record { ends = 2; strange = 3; range = 4; operands = 6; depth = 7; records = 8; after = 11 }

abbrev pub certificate_faults : Faults
certificate_faults = record { ends = 12; strange = 13; range = 14; operands = 15; depth = 16; records = 17; after = 26 }

-- what a formula may name, and how large it may grow
pub record Bounds : Type 0 where
  pub inputs : ℕ
  pub coils : ℕ
  pub depth : ℕ
  pub records : ℕ

abbrev pub formula_kinds : List ℕ
formula_kinds = Kind.INPUT ∷ Kind.COIL ∷ Kind.CONSTANT ∷ Kind.NOT ∷ Kind.AND ∷ Kind.OR ∷ []

unfoldable pub in_range : Bounds → ℕ → List ℕ → Bool
in_range b k bs =
    pick (eqb k Kind.INPUT) (ltb (number bs 1) b.inputs)
    (pick (eqb k Kind.COIL) (ltb (number bs 1) b.coils)
    (pick (eqb k Kind.CONSTANT) (ltb (get_or bs 1 0) 2) true))

unfoldable pub entry : ℕ → List ℕ → Entry
entry k bs =
    pick (eqb k Kind.INPUT) (put (input (number bs 1)))
    (pick (eqb k Kind.COIL) (put (coil (number bs 1)))
    (pick (eqb k Kind.CONSTANT) (put (constant (eqb (get_or bs 1 0) 1)))
    (pick (eqb k Kind.NOT) NOT
    (pick (eqb k Kind.AND) AND OR))))

-- how many values a record takes
unfoldable pub arity : Entry → ℕ
arity (put x) = 0
arity NOT = 1
arity AND = 2
arity OR = 2

-- the value on the stack that was put there n values before the last
abbrev pub operand : List Formula → ℕ → Formula
operand fs n = get_or fs n (leaf (constant false))

-- what a record makes of the topmost values
unfoldable pub build : Entry → List Formula → Formula
build (put x) fs = leaf x
build NOT fs = inverse (operand fs 0)
build AND fs = both (operand fs 1) (operand fs 0)
build OR fs = either (operand fs 1) (operand fs 0)

-- a stack of formulas, the last one first, and how many formula records were read
pub record Stack : Type 0 where
  pub values : List Formula
  pub count : ℕ

pub data Pushed : Type 0 where
  fine : Stack → Pushed
  fault : ℕ → Pushed

-- an operator takes its operands before it puts its value
unfoldable pub push : Faults → Bounds → Stack → Entry → Pushed
push n b st e =
    pick (ltb (length st.values) (arity e)) (fault n.operands)
    (pick (leb b.depth (length (drop (arity e) st.values))) (fault n.depth)
    (pick (leb b.records st.count) (fault n.records)
    (fine (record { values = build e st.values ∷ drop (arity e) st.values; count = st.count + 1 }))))

unfoldable pub formula_record : Faults → Bounds → Stack → ℕ → List ℕ → Pushed
formula_record n b st k bs = pick (in_range b k bs) (push n b st (entry k bs)) (fault n.range)

abbrev pub empty : Stack
empty = record { values = []; count = 0 }
