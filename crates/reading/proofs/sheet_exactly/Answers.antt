-- Both halves: what was read is what is written, and what is written reads back.
-- Assumes nothing.
use mathlib.Core.Path.{◌≡◌, subst}
use mathlib.Core.List.{List}
use Prim.Native.Nat.{ℕ}
use Rattle.rules.specs.ReadSheet.{SheetRead.good, read_sheet}
use Rattle.reading.proofs.SheetKept.{sheet_written}
use Rattle.reading.proofs.SheetLeads.{sheet_back}
use Rattle.reading.proofs.sheet_exactly.Goals as goal

pub returns : goal.returns
returns c l n bs b t = (λ e. sheet_written l bs t b e, λ w. subst (λ (x : List ℕ). read_sheet l x ≡ good t) w.1 (sheet_back l t w.0))
