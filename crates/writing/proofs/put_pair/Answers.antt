use Rattle.std.proofs.Common.{arith}
use Rattle.writing.proofs.PutLaws.{put_then}
use Rattle.writing.proofs.put_pair.Goals as goal

pub returns : goal.returns
returns c = put_then (omega arith) (put_then (omega arith) c.put_numbered-next.ensures c.put_numbered-end.ensures) c.put_byte.ensures
