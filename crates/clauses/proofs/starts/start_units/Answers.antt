use Rattle.clauses.proofs.StartLaws.{started}
use Rattle.clauses.proofs.starts.start_units.Goals as goal

pub returns : goal.returns
returns c = started _ _ _ _ _ _ c.loop-c.invariant c.loop-c-test.false _ c.from-2.ensures
