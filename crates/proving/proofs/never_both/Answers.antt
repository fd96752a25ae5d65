-- Never both for one sheet.
-- Assumes nothing.
use Rattle.proving.proofs.Confirmed.{never_both}
use Rattle.proving.proofs.never_both.Goals as goal

pub returns : goal.returns
returns c = never_both
