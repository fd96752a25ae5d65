-- Accepted exactly when well formed and refuted.
-- Assumes nothing.
use Rattle.proving.proofs.Accepted.{accepted_exactly}
use Rattle.proving.proofs.accepted_exactly.Goals as goal

pub returns : goal.returns
returns c = accepted_exactly
