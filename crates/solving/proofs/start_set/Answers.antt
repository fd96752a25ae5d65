-- `solving::start_set` meets its contract: the theorem, as Sets proves it.
-- Assumes nothing.
use Rattle.solving.proofs.Sets.{start_set}
use Rattle.solving.proofs.start_set.Goals as goal

pub returns : goal.returns
returns c = start_set
