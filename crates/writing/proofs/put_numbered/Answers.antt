use Rattle.std.proofs.Common.{arith}
use Rattle.writing.proofs.PutLaws.{put_then}
use Rattle.writing.proofs.put_numbered.Goals as goal

pub returns : goal.returns
returns c = put_then (omega arith) c.put_text-next.ensures c.put_number.ensures
