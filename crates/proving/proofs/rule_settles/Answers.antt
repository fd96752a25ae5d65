-- The rule settles what it derives.
-- Assumes nothing.
use Rattle.proving.proofs.Literals.{rule_settles}
use Rattle.proving.proofs.rule_settles.Goals as goal

pub returns : goal.returns
returns c = rule_settles
