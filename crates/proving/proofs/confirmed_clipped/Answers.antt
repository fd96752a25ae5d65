-- A clipped trace ends before END.
-- Assumes nothing.
use Rattle.proving.proofs.Clipped.{confirmed_clipped}
use Rattle.proving.proofs.confirmed_clipped.Goals as goal

pub returns : goal.returns
returns c = confirmed_clipped
