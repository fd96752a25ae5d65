use Rattle.std.proofs.Common.{rules}
use Rattle.trace.proofs.PlayLaws.{end_record_cases}
use Rattle.trace.proofs.end_record.Goals as goal

pub returns-then-p-eq0 : goal.returns-then-p-eq0
returns-then-p-eq0 c = search (rules, end_record_cases)

pub returns : goal.returns
returns c = search (rules, end_record_cases)
