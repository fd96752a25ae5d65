use Rattle.std.proofs.Common.{rules, Err}
use Rattle.checker.specs.Checked.{JudgesSafe}
use Rattle.checker.proofs.CheckedLaws.{invariant_bad, fitting, next_fits, safe_stands, safe_judged}
use Rattle.checker.proofs.judged.judge_safe.Goals as goal

pub returns-in_err-invariant : goal.returns-in_err-invariant
returns-in_err-invariant c =
    let f : JudgesSafe c.args.l c.args.s.now c.args.c.now c.args.h c.args.work.now (Err c.in_err-invariant.field-0.0) =
    invariant_bad _ _ _ _ _ _ c.in_err-invariant.ensures in
    search (rules, f)

pub of-requires : goal.of-requires
of-requires c = fitting _ _ _ _ _ c.in_ok-invariant.invariant c.in_ok-invariant.ensures c.requires

pub overflow_add-invariant : goal.overflow_add-invariant
overflow_add-invariant c = search (rules, next_fits _ _ _ _ _ c.in_ok-invariant.invariant c.in_ok-invariant.ensures c.requires)

pub judge_refutations-requires : goal.judge_refutations-requires
judge_refutations-requires c = safe_stands _ _ _ _ _ c.in_ok-invariant.invariant c.in_ok-invariant.ensures _ c.of.ensures c.requires

pub returns : goal.returns
returns c = safe_judged _ _ _ _ _ c.in_ok-invariant.invariant c.in_ok-invariant.ensures _ c.of.ensures _ c.judge_refutations.ensures
