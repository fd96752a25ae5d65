-- Both halves: what was read is what is written, and what is written reads back.
-- Assumes nothing.
use Prim.Native.Nat.{ℕ}
use mathlib.Core.Path.{subst}
use mathlib.Core.List.{List}
use Rattle.reading.specs.Certificates.{ReadsCertificate}
use Rattle.reading.proofs.CertificateLaws.{certificate_written, certificate_back}
use Rattle.reading.proofs.certificate_exactly.Goals as goal

pub returns : goal.returns
returns c l n t bs b d =
    (λ r. certificate_written l t bs d b r, λ w. subst (λ (x : List ℕ). ReadsCertificate l t x d) w.1 (certificate_back l t d w.0))
