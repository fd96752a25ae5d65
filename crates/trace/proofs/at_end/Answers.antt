use Rattle.std.proofs.Common.{rules}
use Rattle.trace.proofs.PlayLaws.{at_end_cases}
use Rattle.trace.proofs.at_end.Goals as goal
use Rattle.trace.proofs.at_end.Goals.{in_default-via-in-Some+else-p, in_default-via-in_default}

pub returns-then-past-c : goal.returns-then-past-c
returns-then-past-c c = search (rules, at_end_cases)

pub returns-else-past-c : goal.returns-else-past-c
returns-else-past-c c = search (rules, at_end_cases)

pub returns-in_default : goal.returns-in_default
returns-in_default c =
    elim c.in_default.branch [
      | in_default-via-in-Some+else-p w ↦ search (rules, at_end_cases)
      | in_default-via-in_default w ↦ search (rules, at_end_cases)
    ]
