use Rattle.std.proofs.Common.{arith}
use Rattle.solving.specs.Places.{unplace}
use Rattle.writing.proofs.PutLaws.{put_then}
use Rattle.dimacs.proofs.ClauseLaws.{literal_short, three}
use Rattle.dimacs.proofs.put_literals.Goals as goal

pub returns : goal.returns
returns c =
    let short = literal_short c.args.x c.ranges.x.fits in
    let last_two = put_then (omega arith) c.put_literal-b.ensures c.put_literal.ensures in
    rw (three (unplace c.args.x) (unplace c.args.y) (unplace c.args.z)) (put_then (omega arith) c.put_literal-a.ensures last_two)
