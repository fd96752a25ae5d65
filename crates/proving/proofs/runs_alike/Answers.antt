-- Runs do not see the order of literals.
-- Assumes nothing.
use Rattle.proving.proofs.Matched.{matching_run}
use Rattle.proving.proofs.runs_alike.Goals as goal

pub returns : goal.returns
returns c = matching_run
