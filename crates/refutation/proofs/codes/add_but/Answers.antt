use Rattle.std.proofs.Common.{rules}
use Rattle.refutation.proofs.AddLaws.{add_but_cases}
use Rattle.refutation.proofs.codes.add_but.Goals.{then-x-eq0-via-then-x-eq0, then-x-eq0-via-else-x-eq0+then-from-but}
use Rattle.refutation.proofs.codes.add_but.Goals as goal

pub returns-then-x-eq0 : goal.returns-then-x-eq0
returns-then-x-eq0 c =
    elim c.then-x-eq0.branch [
      | then-x-eq0-via-then-x-eq0 w ↦ search (rules, add_but_cases)
      | then-x-eq0-via-else-x-eq0+then-from-but w ↦ search (rules, add_but_cases)
    ]

pub returns : goal.returns
returns c = search (rules, add_but_cases)
