-- Sets without a solution make a sheet safe.
-- Assumes nothing.
use Rattle.proving.proofs.Kept.{unsolvable_safe}
use Rattle.proving.proofs.unsolvable_safe.Goals as goal

pub returns : goal.returns
returns c = unsolvable_safe
