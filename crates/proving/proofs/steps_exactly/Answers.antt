-- Steps are accepted exactly when they refute.
-- Assumes nothing.
use Rattle.proving.proofs.Judged.{steps_exactly}
use Rattle.proving.proofs.steps_exactly.Goals as goal

pub returns : goal.returns
returns c = steps_exactly
