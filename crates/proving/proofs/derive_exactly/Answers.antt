-- A STEP computes what the rule allows.
-- Assumes nothing.
use Rattle.proving.proofs.Derived.{derive_exactly}
use Rattle.proving.proofs.derive_exactly.Goals as goal

pub returns : goal.returns
returns c = derive_exactly
