use Rattle.clauses.proofs.TranslateLaws.{too_small}
use Rattle.clauses.proofs.translator.write_set.Goals as goal

pub returns-then-room-count : goal.returns-then-room-count
returns-then-room-count c = too_small _ _ _ _ _ c.count_set-count.ensures _ c.if-room-count.true _ c.at.ensures
