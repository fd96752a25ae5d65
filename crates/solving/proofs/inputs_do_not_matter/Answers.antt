-- `solving::inputs_do_not_matter` meets its contract: the theorem, as Units proves it.
-- Assumes nothing.
use Rattle.solving.proofs.Units.{inputs_do_not_matter}
use Rattle.solving.proofs.inputs_do_not_matter.Goals as goal

pub returns : goal.returns
returns c = inputs_do_not_matter
