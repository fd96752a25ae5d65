-- One test over the whole table, which antt computes.
-- Assumes nothing.
use Rattle.std.proofs.Common.{rules}
use Rattle.base.proofs.Table.{entry}
use Rattle.rules.specs.Record.{body_length, rows}
use Rattle.records.proofs.body_length.Goals as goal

pub returns : goal.returns
unfolding body_length rows
returns c = rw c.from.ensures (entry body_length 256 c.args.byte (search rules))
