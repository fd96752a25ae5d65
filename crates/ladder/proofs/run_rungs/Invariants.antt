use Rattle.ladder.proofs.RungLaws.{Rounds}
use Rattle.ladder.proofs.run_rungs.Given as goal

abbrev pub invariant-loop : goal.invariant-loop
invariant-loop l = Rounds l.s l.from l.rungs l.inputs l.initial.coils l.initial.stack l.coils l.stack l.at l.counter
