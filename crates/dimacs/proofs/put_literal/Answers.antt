use Rattle.dimacs.proofs.ClauseLaws.{put_none}
use Rattle.dimacs.proofs.put_literal.Goals as goal

pub returns-then-place-eq0 : goal.returns-then-place-eq0
returns-then-place-eq0 c = put_none _ _ _ c.if-place-eq0.true
