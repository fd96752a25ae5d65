use Rattle.std.proofs.Common.{rules}
use Rattle.refutation.proofs.AddLaws.{join_cases}
use Rattle.refutation.proofs.codes.join.Goals as goal

pub loop-i-preserved : goal.loop-i-preserved
loop-i-preserved c = search (rules, join_cases)

pub returns : goal.returns
returns c = search (rules, join_cases)
