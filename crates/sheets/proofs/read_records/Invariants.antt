use Prim.Native.Nat.{◌-◌}
use lib.ListN.{length}
use Rattle.sheets.proofs.SheetLaws.{Going}
use Rattle.sheets.proofs.read_records.Given as goal

abbrev pub invariant-loop-e : goal.invariant-loop-e
invariant-loop-e l = Going l.l l.s l.initial.marks l.marks l.d

abbrev pub decreases-loop-e : goal.decreases-loop-e
decreases-loop-e l = length l.s - l.d.at
