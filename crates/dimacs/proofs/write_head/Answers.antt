use Rattle.writing.proofs.RoomLaws.{lined}
use Rattle.dimacs.proofs.write_head.Goals as goal

pub returns : goal.returns
returns c = lined _ _ _ _ c.if-out-lt-ROOM.false c.put_head.ensures
