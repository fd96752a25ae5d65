-- What a trace shows of a sheet, by its scans alone.
use Rattle.std.specs.Prelude.{ℕ, ◌-◌, ◌≡◌, false, [], map, get_or, take}
use Rattle.rules.specs.Formula.{Inputs, Coils, value}
use Rattle.rules.specs.Sheet.{Sheet, start_of, scans}
use Rattle.rules.specs.Certificate.{Trace, named}

-- the inputs of scan j; scans count from 1
abbrev pub inputs_at : Trace → ℕ → Inputs
inputs_at tr j = named (get_or tr (j - 1) [])

-- the coils after scan j, from the start values on
abbrev pub coils_after : Sheet → Trace → ℕ → Coils
coils_after t tr j = scans t (start_of t.starts) (map named (take j tr))

-- the condition is false after scan j: it reads that scan's inputs and the coils after it
unfoldable pub Broken : Sheet → Trace → ℕ → Type 0
Broken t tr j = value (inputs_at tr j) (coils_after t tr j) t.condition ≡ false
