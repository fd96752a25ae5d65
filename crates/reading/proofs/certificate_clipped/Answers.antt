-- The general law of clipped readings, at the readers of an invariant and of steps.
-- Assumes nothing.
use Rattle.reading.proofs.CertificateLaws.{certificate_clipped}
use Rattle.reading.proofs.certificate_clipped.Goals as goal

pub returns : goal.returns
returns c l n t bs b d r m h = certificate_clipped l t bs d r m h
