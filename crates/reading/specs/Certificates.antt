-- What it is for bytes to be a safety certificate, said without a reader, and what becomes of one that was clipped.
use Rattle.std.specs.Prelude.{ℕ, ◌+◌, ◌<◌, ◌≡◌, ◌↔◌, List, [], ◌∷◌, ◌++◌, map, length, take}
use Rattle.rules.specs.declared.Limits.{Limits}
use Rattle.rules.specs.Kind
use Rattle.rules.specs.Walk.{◌at◌, Reading.stopped, Reading.closed}
use Rattle.rules.specs.Formula.{Formula}
use Rattle.rules.specs.Sheet.{Sheet}
use Rattle.rules.specs.WriteSheet.{Bytes, Narrow}
use Rattle.rules.specs.Certificate.{Step, Which.start, Which.keep, Which.safe, Certificate, Mark, Mark.step, Mark.qed, read_invariant, read_steps}
use Rattle.rules.specs.WriteCertificate.{WithinCertificate, write_certificate}
use Rattle.reading.specs.Readings.{marks, final, CutShort}
use Rattle.reading.specs.Traces.{first_record}

-- the marks of a refutation: its steps, then QED
unfoldable pub refutation : List Step → List Mark
refutation qs = map step qs ++ (qed ∷ [])

-- the marks of a certificate: its three refutations, in their order
unfoldable pub refutations : Certificate → List Mark
refutations d = refutation (d.steps start) ++ (refutation (d.steps keep) ++ refutation (d.steps safe))

-- the reading of bs is the certificate d: SAFE, then its invariant, then the steps of its refutations, then END as the last byte
pub record ReadsCertificate (l : Limits) (t : Sheet) (bs : List ℕ) (d : Certificate) : Type 0 where
  pub opened : first_record bs ≡ closed 0 Kind.SAFE
  pub invariant_place : ℕ
  pub invariant : read_invariant l t bs ≡ closed invariant_place d.invariant
  pub steps : marks (read_steps bs (invariant_place + 1)) ≡ refutations d
  pub place : ℕ
  pub closes : final (read_steps bs (invariant_place + 1)) ≡ closed place tt
  pub last : place + 1 ≡ length bs

-- Bytes are read as the certificate d exactly when d is within the limits and they are the bytes that d writes.
abbrev pub CertificateExactly : Type 0
CertificateExactly =
    (l : Limits) → Narrow l → (t : Sheet) (bs : List ℕ) → Bytes bs → (d : Certificate)
    → ReadsCertificate l t bs d ↔ (WithinCertificate l t d × (write_certificate d ≡ bs))

-- the reading of cs, a prefix of bs, ends in 12: at its first record, in its invariant, or in its steps, which are the first ones of bs
pub data CertificateCut (l : Limits) (t : Sheet) (bs cs : List ℕ) : Type 0 where
  unopened : first_record cs ≡ stopped (12 at 0) → CertificateCut l t bs cs
  invariant_cut : (p : ℕ) → first_record cs ≡ closed 0 Kind.SAFE → read_invariant l t cs ≡ stopped (12 at p) → CertificateCut l t bs cs
  steps_cut : (p : ℕ) (inv : Formula) → first_record cs ≡ closed 0 Kind.SAFE → read_invariant l t cs ≡ closed p inv → read_invariant l t bs ≡ closed p inv
      → CutShort 12 (read_steps bs (p + 1)) (read_steps cs (p + 1)) → CertificateCut l t bs cs

-- Every proper prefix of a certificate's bytes has a reading that ends in 12.
abbrev pub CertificateClipped : Type 0
CertificateClipped =
    (l : Limits) → Narrow l → (t : Sheet) (bs : List ℕ) → Bytes bs → (d : Certificate) → ReadsCertificate l t bs d
    → (m : ℕ) → m < length bs → CertificateCut l t bs (take m bs)
