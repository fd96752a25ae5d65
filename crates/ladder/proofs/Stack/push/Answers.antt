use Rattle.std.proofs.Common.{rules}
use Rattle.ladder.proofs.StackLaws.{pushed}
use Rattle.ladder.proofs.Stack.push.Goals as goal

pub returns-clause-put : goal.returns-clause-put
returns-clause-put c = search (rules, pushed)
