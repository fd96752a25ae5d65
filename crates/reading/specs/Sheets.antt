-- What it is for bytes to be a sheet, said without a reader, and what becomes of a sheet that was clipped.
use Rattle.std.specs.Prelude.{ℕ, ◌<◌, ◌≡◌, ◌↔◌, List, length, take}
use Rattle.rules.specs.declared.Limits.{Limits}
use Rattle.rules.specs.Walk.{◌at◌}
use Rattle.rules.specs.Sheet.{Sheet}
use Rattle.rules.specs.ReadSheet.{SheetRead.good, SheetRead.bad, read_sheet}
use Rattle.rules.specs.WriteSheet.{Bytes, Narrow, write_sheet, WithinSheet}

-- Bytes are read as the sheet t exactly when t is within the limits and they are the bytes that t writes.
abbrev pub SheetExactly : Type 0
SheetExactly = (l : Limits) → Narrow l → (bs : List ℕ) → Bytes bs → (t : Sheet) → (read_sheet l bs ≡ good t) ↔ (WithinSheet l t × (write_sheet t ≡ bs))

-- A good sheet with its last byte off, or its last few, is refused with 2: nothing that is clipped passes for whole.
abbrev pub Clipped : Type 0
Clipped =
    (l : Limits) → Narrow l → (bs : List ℕ) → Bytes bs → (t : Sheet) → read_sheet l bs ≡ good t
    → (m : ℕ) → m < length bs → (p : ℕ) × (read_sheet l (take m bs) ≡ bad (2 at p))
