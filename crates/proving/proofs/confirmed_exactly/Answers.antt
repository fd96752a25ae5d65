-- Confirmed exactly when well formed and broken.
-- Assumes nothing.
use Rattle.proving.proofs.Confirmed.{confirmed_exactly}
use Rattle.proving.proofs.confirmed_exactly.Goals as goal

pub returns : goal.returns
returns c = confirmed_exactly
