use mathlib.Core.Path.{refl, sym, ◌∙◌}
use Rattle.std.proofs.Common.{rules}
use Rattle.ladder.proofs.EvaluateLaws.{turning, value_to_take, evaluated, evaluate_cases}
use Rattle.ladder.proofs.evaluate.Goals as goal

pub pop-requires : goal.pop-requires
pop-requires c = value_to_take _ _ _ _ _ _ _ _ c.loop-stack.invariant.turning _ c.part_at-part.ensures c.requires c.in-Closing.is

pub returns-in-Closing : goal.returns-in-Closing
returns-in-Closing c =
    let n = sym (c.pop.ensures.same ∙ c.loop-stack.invariant.same) in
    search (rules, evaluated _ _ _ _ _ _ _ _ c.loop-stack.invariant.turning _ c.part_at-part.ensures c.in-Closing.is)

pub apply-requires : goal.apply-requires
apply-requires c = search (rules, evaluate_cases)

pub overflow_add-at : goal.overflow_add-at
overflow_add-at c = search (rules, evaluate_cases)

pub loop-stack-smaller : goal.loop-stack-smaller
loop-stack-smaller c = search (rules, evaluate_cases)

pub loop-stack-init : goal.loop-stack-init
loop-stack-init c = record { same = refl; turning = turning _ _ _ _ _ }

pub loop-stack-preserved : goal.loop-stack-preserved
loop-stack-preserved c = record { same = c.apply.ensures.same ∙ c.loop-stack.invariant.same; turning = search (rules, evaluate_cases) }
