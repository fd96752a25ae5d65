use Rattle.std.proofs.Common.{rules, Err}
use Rattle.checker.specs.Checked.{JudgesOpened}
use Rattle.checker.proofs.CheckedLaws.{not_opened, trace_at, traced_so, opened_safe}
use Rattle.checker.proofs.judged.judge_opened.Goals as goal

pub returns-in_err-open : goal.returns-in_err-open
returns-in_err-open c =
    let f : JudgesOpened c.args.l c.args.s.now c.args.c.now c.args.h c.args.work.now (Err c.in_err-open.field-0.0) =
    not_opened _ _ _ _ _ _ c.in_err-open.ensures in
    search (rules, f)

pub judge_trace-requires : goal.judge_trace-requires
judge_trace-requires c = trace_at _ _ _ _ _ (rw c.in-Trace.is at c.in_ok-open.ensures) c.requires

pub returns-in-Trace : goal.returns-in-Trace
returns-in-Trace c = traced_so _ _ _ _ _ (rw c.in-Trace.is at c.in_ok-open.ensures) _ c.judge_trace.ensures

pub returns-in-Safe : goal.returns-in-Safe
returns-in-Safe c = opened_safe _ _ _ _ _ (rw c.in-Safe.is at c.in_ok-open.ensures) _ c.judge_safe.ensures
