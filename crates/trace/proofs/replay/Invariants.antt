use Prim.Native.Nat.{◌-◌}
use lib.ListN.{length}
use Rattle.trace.proofs.ReplayLaws.{Turning}
use Rattle.trace.proofs.replay.Given as goal

abbrev pub invariant-loop-q : goal.invariant-loop-q
invariant-loop-q l = Turning l.l l.t l.c l.initial.places l.places l.p

abbrev pub decreases-loop-q : goal.decreases-loop-q
decreases-loop-q l = length l.c - l.p.at
