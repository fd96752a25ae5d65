use Rattle.clauses.proofs.RungLaws.{Running}
use Rattle.clauses.proofs.rungs.rung_clauses.Given as goal

abbrev pub invariant-loop : goal.invariant-loop
invariant-loop l =
    Running l.s l.fn.from.at l.rungs l.initial.map l.inputs l.fn.from.g l.initial.stack l.initial.out l.fn.from.n l.map l.stack l.out l.w.at l.w.g l.w.n l.counter
