use Rattle.std.proofs.Common.{arith}
use Rattle.std.proofs.lemmas.Grind.{common_steps}
use Rattle.rules.specs.Record.{body_length, rows}
use Rattle.records.proofs.kind.KindTryFromU8.try_from.Goals as goal

pub returns-in_default : goal.returns-in_default
unfolding body_length rows
returns-in_default c = grind (arith, common_steps)
