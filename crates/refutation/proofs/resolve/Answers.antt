use Rattle.std.proofs.Common.{rules}
use Rattle.refutation.proofs.ResolveLaws.{resolve_cases}
use Rattle.refutation.proofs.resolve.Goals as goal

pub returns-then-l-r : goal.returns-then-l-r
returns-then-l-r c = search (rules, resolve_cases)

pub returns-then-l-m : goal.returns-then-l-m
returns-then-l-m c = search (rules, resolve_cases)

pub returns : goal.returns
returns c = search (rules, resolve_cases)
