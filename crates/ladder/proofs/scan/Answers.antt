use Rattle.ladder.proofs.ScannedLaws.{few_inputs, few_coils}
use Rattle.ladder.proofs.scan.Goals as goal
use Rattle.ladder.proofs.scan.Goals.{then-inputs-l-via-then-inputs-l, then-inputs-l-via-else-inputs-l+then-coils-l}

pub returns-then-inputs-l : goal.returns-then-inputs-l
returns-then-inputs-l c =
    elim c.then-inputs-l.branch [
      | then-inputs-l-via-then-inputs-l w ↦ rw c.at.ensures (few_inputs _ _ _ (rw c.limits-l.ensures at w.if-inputs-l.true))
      | then-inputs-l-via-else-inputs-l+then-coils-l w ↦ rw c.at.ensures (few_coils _ _ _ (rw c.limits-l.ensures at w.if-coils-l.true))
    ]
