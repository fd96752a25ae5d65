-- The clause that a step computes is the rule's.
-- Assumes nothing.
use Rattle.proving.proofs.Literals.{resolvent_resolves}
use Rattle.proving.proofs.resolvent_right.Goals as goal

pub returns : goal.returns
returns c = resolvent_resolves
