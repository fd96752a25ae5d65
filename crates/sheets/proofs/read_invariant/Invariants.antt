use Prim.Native.Nat.{◌-◌}
use lib.ListN.{length}
use Rattle.sheets.proofs.InvariantLaws.{PartingAll}
use Rattle.sheets.proofs.read_invariant.Given as goal

abbrev pub invariant-loop-q : goal.invariant-loop-q
invariant-loop-q l = PartingAll l.l l.coils l.c l.p

abbrev pub decreases-loop-q : goal.decreases-loop-q
decreases-loop-q l = length l.c - l.p.at
