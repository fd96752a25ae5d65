-- `solving::keep_set` meets its contract: the theorem, as Sets proves it.
-- Assumes nothing.
use Rattle.solving.proofs.Sets.{keep_set}
use Rattle.solving.proofs.keep_set.Goals as goal

pub returns : goal.returns
returns c = keep_set
