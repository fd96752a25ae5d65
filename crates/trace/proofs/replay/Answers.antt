use mathlib.Core.Path.{◌∙◌, ap}
use Rattle.std.specs.Prelude.{Ok}
use Rattle.std.proofs.Common.{rules}
use Rattle.trace.proofs.ReplayLaws.{begins, nearer, end_inside, goes_on, refused_there, ended_there}
use Rattle.trace.proofs.replay.Goals as goal

pub loop-q-init : goal.loop-q-init
loop-q-init c = begins _ _ _ _

pub loop-q-smaller : goal.loop-q-smaller
loop-q-smaller c =
    nearer _ _ _ _ _ _ c.loop-q.invariant _ _ c.step.ensures.steps c.requires c.in-Ok-Some.q
    (c.in-Ok-Some.is ∙ ap (λ x. Ok x) c.in-Ok-Some.field-0-is)

pub loop-q-preserved : goal.loop-q-preserved
loop-q-preserved c =
    goes_on _ _ _ _ _ _ c.loop-q.invariant _ _ c.step.ensures.steps c.step.ensures.long c.in-Ok-Some.q
    (c.in-Ok-Some.is ∙ ap (λ x. Ok x) c.in-Ok-Some.field-0-is)

pub at_end-requires : goal.at_end-requires
at_end-requires c =
    end_inside _ _ _ _ _ _ c.loop-q.invariant _ _ c.step.ensures.steps c.requires
    (c.in-Ok-None.is ∙ ap (λ x. Ok x) c.in-Ok-None.field-0-is)

pub returns-in-Ok-None : goal.returns-in-Ok-None
returns-in-Ok-None c =
    ended_there _ _ _ _ _ _ c.loop-q.invariant _ _ c.step.ensures.steps _ _ _ (search rules) (search rules) (search rules)
    (c.in-Ok-None.is ∙ ap (λ x. Ok x) c.in-Ok-None.field-0-is) _ c.at_end.ensures

pub returns-in-Err : goal.returns-in-Err
returns-in-Err c =
    refused_there _ _ _ _ _ _ c.loop-q.invariant _ _ c.step.ensures.steps _ _ _ (search rules) (search rules) (search rules)
    c.in-Err.fault c.in-Err.is _ c.at.ensures
