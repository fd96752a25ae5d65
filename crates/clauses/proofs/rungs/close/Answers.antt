use Rattle.clauses.proofs.rungs.close.Goals as goal

pub returns : goal.returns
returns c = cc
