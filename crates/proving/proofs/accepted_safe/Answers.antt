-- What is accepted is safe.
-- Assumes nothing.
use Rattle.proving.proofs.Accepted.{accepted_safe}
use Rattle.proving.proofs.accepted_safe.Goals as goal

pub returns : goal.returns
returns c = accepted_safe
