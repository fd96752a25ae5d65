use Rattle.std.proofs.Common.{rules}
use Rattle.checker.proofs.CheckedLaws.{check_cases, checked}
use Rattle.checker.proofs.check.Goals as goal

pub returns-then-work-l : goal.returns-then-work-l
returns-then-work-l c = search (rules, check_cases)

pub returns : goal.returns
returns c = checked _ c.limits-l.ensures _ _ _ c.if-work-l.false _ _ _ c.judge_bytes-answer.auto.work c.judge_bytes-answer.ensures c.clear.ensures
