-- `solving::sets_placeable` meets its contract: the theorem, as Counted proves it.
-- Assumes nothing.
use Rattle.solving.proofs.Counted.{sets_placeable}
use Rattle.solving.proofs.sets_placeable.Goals as goal

pub returns : goal.returns
returns c = sets_placeable
