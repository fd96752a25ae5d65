-- `solving::extends_once` meets its contract: the theorem, as Extends proves it.
-- Assumes nothing.
use Rattle.solving.proofs.Extends.{extends_once}
use Rattle.solving.proofs.extends_once.Goals as goal

pub returns : goal.returns
returns c = extends_once
