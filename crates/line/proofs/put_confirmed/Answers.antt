use Rattle.std.proofs.Common.{arith}
use Rattle.writing.proofs.PutLaws.{put_then}
use Rattle.line.proofs.put_confirmed.Goals as goal

pub returns : goal.returns
returns c = put_then (omega arith) c.put_numbered-end.ensures c.put_byte.ensures
