-- `solving::records_end` meets its contract: the theorem, as Endings proves it.
-- Assumes nothing.
use Rattle.solving.proofs.Endings.{records_end}
use Rattle.solving.proofs.records_end.Goals as goal

pub returns : goal.returns
returns c = records_end
