-- The clauses of one formula record, by what it says of its own variable.
use Rattle.std.specs.Prelude.{ℕ, ◌<◌, List}
use Rattle.rules.specs.Clauses.{Clause, contact_clauses, not_clauses, and_clauses, or_clauses}
use Rattle.clauses.specs.declared.gates.Gate.{Gate}
use Rattle.clauses.specs.declared.gates.Gate.TheVariants.{Same, Fixed, Inverse, Both, Either}
use Rattle.clauses.specs.Emits.{signed}

unfoldable pub gate_clauses : ℕ → Gate → List Clause
gate_clauses g (Same v) = contact_clauses g v
gate_clauses g (Fixed on) = signed on g
gate_clauses g (Inverse x) = not_clauses g x
gate_clauses g (Both x y) = and_clauses g x y
gate_clauses g (Either x y) = or_clauses g x y

-- how many values it takes
abbrev pub values : Gate → ℕ
values (Same v) = 0
values (Fixed on) = 0
values (Inverse x) = 1
values (Both x y) = 2
values (Either x y) = 2

-- the literals of its variables fit 16 bits
abbrev pub Narrow : Gate → Type 0
Narrow (Same v) = v < 32768
Narrow (Fixed on) = Unit {0}
Narrow (Inverse x) = x < 32768
Narrow (Both x y) = (x < 32768) × (y < 32768)
Narrow (Either x y) = (x < 32768) × (y < 32768)

pub record Definable (n g : ℕ) (gate : Gate) : Type 0 where
  pub few : n < 9223372036854775808
  pub g_fits : g < 32768
  pub narrow : Narrow gate
