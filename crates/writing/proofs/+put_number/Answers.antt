use Rattle.std.proofs.Common.{arith}
use Rattle.writing.proofs.DecimalLaws.{decimal_more}
use Rattle.writing.proofs.PutLaws.{put_then}
use Rattle.writing.proofs.+put_number.Goals as goal

pub returns : goal.returns
returns t c = rw (decimal_more c.args.n c.if-n-lt10.false) (put_then (omega arith) c.put_number-next.ensures c.put_byte-2.ensures)
