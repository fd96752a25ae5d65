use Prim.Native.Nat.{◌-◌}
use lib.ListN.{length}
use Rattle.refutation.proofs.LoopLaws.{Stepping}
use Rattle.refutation.proofs.steps_until_qed.Given as goal

abbrev pub invariant-loop-marked : goal.invariant-loop-marked
invariant-loop-marked l = Stepping l.l l.c l.at l.initial.work l.b.base l.b.from l.work l.m l.emptied l.p

abbrev pub decreases-loop-marked : goal.decreases-loop-marked
decreases-loop-marked l = length l.c - l.p
