-- Refuted clauses have no solution.
-- Assumes nothing.
use Rattle.proving.proofs.Sound.{refuted_unsolvable}
use Rattle.proving.proofs.refuted_unsolvable.Goals as goal

pub returns : goal.returns
returns c = refuted_unsolvable
