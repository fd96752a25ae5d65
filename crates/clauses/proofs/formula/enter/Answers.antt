use Rattle.clauses.proofs.EnterLaws.{reached, entered_closing, definable, taken, taken_room, entered}
use Rattle.clauses.proofs.formula.enter.Goals as goal

pub gate_of-requires : goal.gate_of-requires
gate_of-requires c = reached _ _ _ _ _ _ _ c.requires

pub overflow_sub-k : goal.overflow_sub-k
overflow_sub-k c = taken _ _ _ _ _ _ _ c.requires _ c.in-Some.ensures _ c.values.ensures

pub define-requires : goal.define-requires
define-requires c = definable _ _ _ _ _ _ _ c.requires _ c.in-Some.ensures

pub bounds-stack-k : goal.bounds-stack-k
bounds-stack-k c = taken_room _ _ _ _ _ _ _ c.requires _ c.in-Some.ensures _ c.values.ensures

pub returns-in_default-clause-entered : goal.returns-in_default-clause-entered
returns-in_default-clause-entered c = entered_closing _ _ _ _ _ _ _ c.requires _ c.in_default.ensures

pub returns-clause-entered : goal.returns-clause-entered
returns-clause-entered c = entered _ _ _ _ _ _ _ c.requires _ c.in-Some.ensures _ c.values.ensures _ _ _ c.define.ensures
