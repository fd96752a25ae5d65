use Rattle.std.proofs.Common.{rules}
use Rattle.refutation.proofs.ResolveLaws.{unite_end}
use Rattle.refutation.proofs.codes.unite.Goals as goal

pub returns : goal.returns
returns c = search (rules, unite_end)
