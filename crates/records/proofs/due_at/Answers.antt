use Rattle.records.proofs.DueLaws.{due_cut, due_cut_strange}
use Rattle.records.proofs.due_at.Goals as goal

pub returns-then-allowed-2 : goal.returns-then-allowed-2
returns-then-allowed-2 g c = due_cut _ _ _ _ c.in-Err-Cut.kind (rw c.in-Err-Cut.field-0-is at c.in-Err-Cut.ensures) c.if-allowed-2.ensures

pub returns-else-allowed-2 : goal.returns-else-allowed-2
returns-else-allowed-2 g c = due_cut_strange _ _ _ _ c.in-Err-Cut.kind (rw c.in-Err-Cut.field-0-is at c.in-Err-Cut.ensures) c.if-allowed-2.ensures
