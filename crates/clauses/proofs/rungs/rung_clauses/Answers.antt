use Rattle.std.proofs.Common.{rules}
use Rattle.clauses.proofs.RungLaws.{rung_cases, runs_out}
use Rattle.clauses.proofs.rungs.rung_clauses.Goals as goal

pub formula_clauses-w-requires : goal.formula_clauses-w-requires
formula_clauses-w-requires c = search (rules, rung_cases)

pub overflow_sub-w : goal.overflow_sub-w
overflow_sub-w c = search (rules, rung_cases)

pub close-requires : goal.close-requires
close-requires c = search (rules, rung_cases)

pub overflow_add-w : goal.overflow_add-w
overflow_add-w c = search (rules, rung_cases)

pub returns : goal.returns
returns c = runs_out _ _ _ _ _ _ _ _ _ _ _ _ _ _ _ _ c.loop.invariant c.loop-test.false
