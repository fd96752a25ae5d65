use Rattle.std.proofs.Common.{rules}
use Rattle.checker.proofs.TracedLaws.{judge_trace_cases}
use Rattle.checker.proofs.traced.judge_trace.Goals as goal

pub play-requires : goal.play-requires
play-requires c = search (rules, judge_trace_cases)

pub returns : goal.returns
returns c = search (rules, judge_trace_cases)
