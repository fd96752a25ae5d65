use Rattle.std.proofs.Common.{rules}
use Rattle.sheets.proofs.PileLaws.{push_cases}
use Rattle.sheets.proofs.formula.push.Goals as goal

pub returns-then-p-taken : goal.returns-then-p-taken
returns-then-p-taken c = search (rules, push_cases)
