use Rattle.std.proofs.Common.{rules}
use Rattle.clauses.proofs.ScratchLaws.{by_number}
use Rattle.clauses.proofs.sets.clause_set.Goals as goal

pub returns-clause-written : goal.returns-clause-written
returns-clause-written c = by_number _ _ _ _ _ (search rules) c.try_from.ensures c.unwrap_or-set.ensures _ _ _ _ _ _ _ _ _ c.set_clauses.ensures.written
