-- `solving::parts` meets its contract: the theorem, as Merged proves it.
-- Assumes nothing.
use Rattle.solving.proofs.Merged.{parts}
use Rattle.solving.proofs.parts.Goals as goal

pub returns : goal.returns
returns c = parts
