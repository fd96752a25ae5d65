-- No other refusal has the number 1.
-- Assumes nothing.
use Rattle.proving.proofs.Numbers.{short}
use Rattle.proving.proofs.short.Goals as goal

pub returns : goal.returns
returns c = short
