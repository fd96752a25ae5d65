use mathlib.Core.Path.{refl}
use Rattle.clauses.proofs.ScratchLaws.{own_written}
use Rattle.clauses.proofs.sets.write_clauses.Goals as goal

pub returns : goal.returns
returns c = own_written _ _ _ _ _ _ refl refl refl _ _ _ _ c.set_clauses.ensures.written
