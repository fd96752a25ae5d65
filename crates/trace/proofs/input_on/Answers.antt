use Rattle.std.proofs.Common.{rules}
use Rattle.trace.proofs.PlayLaws.{input_on_cases}
use Rattle.trace.proofs.input_on.Goals as goal

pub returns-then-known-n : goal.returns-then-known-n
returns-then-known-n c = search (rules, input_on_cases)

pub returns-then-n-p : goal.returns-then-n-p
returns-then-n-p c = search (rules, input_on_cases)

pub returns : goal.returns
returns c = search (rules, input_on_cases)
