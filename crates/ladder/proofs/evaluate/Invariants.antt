use Prim.Native.Nat.{◌-◌}
use mathlib.Core.Path.{◌≡◌}
use lib.ListN.{length}
use Rattle.ladder.proofs.EvaluateLaws.{Turning}
use Rattle.ladder.proofs.evaluate.Given as goal

abbrev pub invariant-loop-stack : goal.invariant-loop-stack
invariant-loop-stack l = record {
  same : l.stack.places.ghost_name ≡ l.initial.stack.places.ghost_name;
  turning : Turning l.s l.from l.inputs l.coils l.initial.stack.places.now l.stack.places.now l.at l.stack.depth;
}

abbrev pub decreases-loop-stack : goal.decreases-loop-stack
decreases-loop-stack l = length l.s - l.at
