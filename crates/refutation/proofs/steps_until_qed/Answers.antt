use Rattle.refutation.proofs.LoopLaws.{begins, ends_bad, ends_qed_wrong, ends_qed_right, ends_step, step_on}
use Rattle.refutation.proofs.JudgeLaws.{nearer}
use Rattle.refutation.proofs.steps_until_qed.Goals as goal

pub loop-marked-init : goal.loop-marked-init
loop-marked-init c = begins _ _ _ _ _ _ c.requires

pub returns-in-Err : goal.returns-in-Err
returns-in-Err c = rw c.at.ensures (ends_bad _ _ _ _ _ _ _ _ _ _ c.loop-marked.invariant _ c.in-Err.ensures)

pub returns-then-emptied : goal.returns-then-emptied
returns-then-emptied c = ends_qed_right _ _ _ _ _ _ _ _ _ _ c.loop-marked.invariant _ c.in-Ok.ensures c.in_default.is c.if-emptied.true

pub returns-in_default : goal.returns-in_default
returns-in_default c = rw c.at-in_default.ensures (ends_qed_wrong _ _ _ _ _ _ _ _ _ _ c.loop-marked.invariant _ c.in-Ok.ensures c.in_default.is c.if-emptied.false)

pub returns-in-Err-step : goal.returns-in-Err-step
returns-in-Err-step c = rw c.at-in-Err-step.ensures (ends_step _ _ _ _ _ _ _ _ _ _ c.loop-marked.invariant _ c.in-Ok.ensures _ c.in-Step.is _ _ c.in-Err-step.ensures)

pub loop-marked-preserved : goal.loop-marked-preserved
loop-marked-preserved c = step_on _ _ _ _ _ _ _ _ _ _ c.loop-marked.invariant _ c.in-Ok.ensures _ c.in-Step.is _ _ c.in-Ok-step.ensures c.step.auto.work

pub loop-marked-smaller : goal.loop-marked-smaller
loop-marked-smaller c = nearer _ _ _ c.in-Ok.ensures.next
