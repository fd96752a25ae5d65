use Rattle.std.proofs.Common.{◌≤◌, length, ◌+◌}
use Rattle.explain.proofs.spots.in_refutation.Given as goal

abbrev pub invariant-loop-record : goal.invariant-loop-record
invariant-loop-record g l =
    (goal.iterator-loop-record g).can_next l.record-iterator ×
    (goal.iterator-loop-record g).is_finite l.record-iterator ×
    (l.set + l.steps + (goal.iterator-loop-record g).remaining l.record-iterator ≤ 1 + length l.certificate)
