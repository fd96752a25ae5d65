-- A clipped certificate ends before END.
-- Assumes nothing.
use Rattle.proving.proofs.Clipped.{accepted_clipped}
use Rattle.proving.proofs.accepted_clipped.Goals as goal

pub returns : goal.returns
returns c = accepted_clipped
