use Rattle.ladder.proofs.StartLaws.{Begun}
use Rattle.ladder.proofs.initialise.Given as goal

abbrev pub invariant-loop : goal.invariant-loop
invariant-loop l = Begun l.s l.from l.starts l.initial.coils l.coils l.at l.counter
