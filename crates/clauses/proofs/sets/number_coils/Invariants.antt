use Rattle.clauses.proofs.TopLaws.{Numbering}
use Rattle.clauses.proofs.sets.number_coils.Given as goal

abbrev pub invariant-loop-i : goal.invariant-loop-i
invariant-loop-i l =
    Numbering l.initial.map l.map l.i
