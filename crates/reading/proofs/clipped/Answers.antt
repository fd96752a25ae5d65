-- The general law of clipped readings, at a sheet's reader.
-- Assumes nothing.
use Rattle.reading.proofs.SheetClip.{sheet_clipped}
use Rattle.reading.proofs.clipped.Goals as goal

pub returns : goal.returns
returns c l n bs b t e m h = sheet_clipped l bs t e m h
