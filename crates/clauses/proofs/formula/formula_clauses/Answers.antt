use mathlib.Core.Path.{refl, ◌∙◌}
use Rattle.std.proofs.Common.{rules}
use Rattle.clauses.proofs.FormulaLaws.{begins, formula_cases, ends}
use Rattle.clauses.proofs.formula.formula_clauses.Goals as goal

pub loop-n-init : goal.loop-n-init
loop-n-init c = record { same = refl; walking = begins _ _ _ _ _ _ _ _ c.requires }

pub enter-requires : goal.enter-requires
enter-requires c = search (rules, formula_cases)

pub returns-in_default : goal.returns-in_default
returns-in_default c =
    ends _ _ _ _ _ _ _ _ _ _ _ _ _ _ c.loop-n.invariant.walking _ c.part_at-p.ensures _ _ _ _ c.enter.ensures.entered c.in_default.is

pub overflow_add-w : goal.overflow_add-w
overflow_add-w c = search (rules, formula_cases)

pub overflow_add-w-in-loop-n : goal.overflow_add-w-in-loop-n
overflow_add-w-in-loop-n c = search (rules, formula_cases)

pub loop-n-smaller : goal.loop-n-smaller
loop-n-smaller c = search (rules, formula_cases)

pub loop-n-preserved : goal.loop-n-preserved
loop-n-preserved c = record { same = c.enter.ensures.same ∙ c.loop-n.invariant.same; walking = search (rules, formula_cases) }
