use Rattle.clauses.proofs.StartLaws.{Starting}
use Rattle.clauses.proofs.starts.start_units.Given as goal

abbrev pub invariant-loop-c : goal.invariant-loop-c
invariant-loop-c l =
    Starting l.s l.coils l.initial.out l.out l.at l.c
