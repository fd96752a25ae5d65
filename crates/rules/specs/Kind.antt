-- The kinds of records, by their names.
use Rattle.std.specs.Prelude.{ℕ}

abbrev pub HEAD : ℕ
HEAD = 0x01

abbrev pub START : ℕ
START = 0x02

abbrev pub INPUT : ℕ
INPUT = 0x10

abbrev pub COIL : ℕ
COIL = 0x11

abbrev pub CONSTANT : ℕ
CONSTANT = 0x12

abbrev pub NOT : ℕ
NOT = 0x13

abbrev pub AND : ℕ
AND = 0x14

abbrev pub OR : ℕ
OR = 0x15

abbrev pub RUNG : ℕ
RUNG = 0x20

abbrev pub CONDITION : ℕ
CONDITION = 0x21

abbrev pub END : ℕ
END = 0x2F

abbrev pub STEP : ℕ
STEP = 0x40

abbrev pub QED : ℕ
QED = 0x41

abbrev pub SAFE : ℕ
SAFE = 0x50

abbrev pub INVARIANT : ℕ
INVARIANT = 0x51

abbrev pub TRACE : ℕ
TRACE = 0x60

abbrev pub INPUT_ON : ℕ
INPUT_ON = 0x61

abbrev pub SCAN : ℕ
SCAN = 0x62
