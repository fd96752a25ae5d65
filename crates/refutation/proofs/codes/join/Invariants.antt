use Rattle.refutation.proofs.AddLaws.{Joining}
use Rattle.refutation.proofs.codes.join.Given as goal

abbrev pub invariant-loop-i : goal.invariant-loop-i
invariant-loop-i l = Joining l.initial.work l.site.at l.site.width l.k l.spot l.but l.work l.r l.i
