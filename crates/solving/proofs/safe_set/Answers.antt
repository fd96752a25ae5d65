-- `solving::safe_set` meets its contract: the theorem, as Sets proves it.
-- Assumes nothing.
use Rattle.solving.proofs.Sets.{safe_set}
use Rattle.solving.proofs.safe_set.Goals as goal

pub returns : goal.returns
returns c = safe_set
