-- Accepted exactly when sheet and certificate are well formed and the certificate refutes the three sets; what is accepted is safe.
-- Assumes nothing.
use Prim.Native.Nat.{ℕ, ◌+◌, ◌≤◌}
use mathlib.Core.Path.{◌≡◌, refl, subst}
use mathlib.Core.List.{List}
use native.Mathlib.Omega.{arith}
use Rattle.rules.specs.declared.Limits.{Limits}
use Rattle.rules.specs.Kind
use Rattle.rules.specs.Walk.{Reading, Reading.stopped, Reading.marked, Reading.closed}
use Rattle.rules.specs.Formula.{Formula}
use Rattle.rules.specs.Sheet.{Sheet}
use Rattle.rules.specs.ReadSheet.{SheetRead.good, read_sheet}
use Rattle.rules.specs.WriteSheet.{write_sheet, Bytes, WithinSheet}
use Rattle.rules.specs.Certificate.{Which, Certificate, read_invariant, read_scans}
use Rattle.rules.specs.WriteCertificate.{write_certificate, WithinCertificate}
use Rattle.rules.specs.Clauses.{clause_set}
use Rattle.rules.specs.Resolution.{Refutes}
use Rattle.rules.specs.Verdict.{Verdict.accepted, judge_safe}
use Rattle.reading.specs.Traces.{first_record}
use Rattle.reading.specs.Certificates.{ReadsCertificate}
use Rattle.reading.proofs.SheetKept.{sheet_written}
use Rattle.reading.proofs.SheetLeads.{sheet_back}
use Rattle.reading.proofs.CertificateLaws.{certificate_written, certificate_back}
use Rattle.proving.specs.Grounds.{Proves}
use Rattle.proving.specs.Statements.{Accepts, AcceptedExactly, AcceptedSafe}
use Rattle.proving.proofs.Judged.{steps_exactly}
use Rattle.proving.proofs.Sound.{refuted_unsolvable}
use Rattle.proving.proofs.Kept.{unsolvable_safe}
use Rattle.proving.proofs.Played.{scans_not_accepted}
use Rattle.proving.proofs.Granted.{Given, Given.by_safe, Given.by_trace, Grants, granted_grants, grants_granted}

-- the bytes are read as a certificate that refutes the three sets
pub record Certifies (l : Limits) (t : Sheet) (c : List ℕ) : Type 0 where
  pub certificate : Certificate
  pub read : ReadsCertificate l t c certificate
  pub refutes : (w : Which) → Refutes l (clause_set t certificate.invariant w) (certificate.steps w)

module _ (l : Limits) (t : Sheet) (c : List ℕ) where
  certifies : first_record c ≡ closed 0 Kind.SAFE → (r : Reading ⊥ Formula) → read_invariant l t c ≡ r → judge_safe l t c r ≡ accepted → Certifies l t c
  unfolding judge_safe
  certifies o (stopped x) e h = let z : ◌≡◌ {A = ℕ} 0 1 = cc in absurd (omega arith)
  certifies o (marked p m r) e h = absurd m
  certifies o (closed p inv) e h = from ((steps_exactly l t inv c (p + 1)).0 h)
    where
      from : Proves l t inv c (p + 1) → Certifies l t c
      from k = record {
        certificate = record { invariant = inv; steps = k.steps };
        read = record { opened = o; invariant_place = p; invariant = e; steps = k.read; place = k.place; closes = k.closes; last = k.last };
        refutes = k.refute;
      }

  pub given_certifies : Given l t c accepted → Certifies l t c
  given_certifies (by_safe o h) = certifies o (read_invariant l t c) refl h
  given_certifies (by_trace o h) = absurd (scans_not_accepted t c _ (read_scans l t c) h)

  certifies_given : Certifies l t c → Given l t c accepted
  unfolding judge_safe
  certifies_given k =
      let r = k.read in
      by_safe r.opened
      (rw r.invariant
      ((steps_exactly l t k.certificate.invariant c (r.invariant_place + 1)).1
      (record { steps = k.certificate.steps; read = r.steps; place = r.place; closes = r.closes; last = r.last; refute = k.refutes })))

-- a well-formed sheet's bytes are read as it
pub sheet_reads : (l : Limits) (s : List ℕ) (t : Sheet) → WithinSheet l t → write_sheet t ≡ s → read_sheet l s ≡ good t
sheet_reads l s t w e = subst (λ (x : List ℕ). read_sheet l x ≡ good t) e (sheet_back l t w)

module _ (l : Limits) (s c : List ℕ) (n : ℕ) (bs : Bytes s) (bc : Bytes c) where
  accepts : Grants l s c n accepted → Accepts l s c
  accepts g = record {
    sheet = t;
    certificate = k.certificate;
    sheet_written = sheet.1;
    sheet_within = sheet.0;
    certificate_written = certificate.1;
    certificate_within = certificate.0;
    refutes = k.refutes;
  }
    where
      t : Sheet
      t = g.ready.sheet

      k : Certifies l t c
      k = given_certifies l t c g.given

      sheet : WithinSheet l t × (write_sheet t ≡ s)
      sheet = sheet_written l s t bs g.ready.read

      certificate : WithinCertificate l t k.certificate × (write_certificate k.certificate ≡ c)
      certificate = certificate_written l t c k.certificate bc k.read

  grants : l.places ≤ n → Accepts l s c → Grants l s c n accepted
  grants b a = record {
    ready = record { room = b; sheet = a.sheet; read = sheet_reads l s a.sheet a.sheet_within a.sheet_written };
    given = certifies_given l a.sheet c (record {
      certificate = a.certificate;
      read = subst (λ (x : List ℕ). ReadsCertificate l a.sheet x a.certificate) a.certificate_written
          (certificate_back l a.sheet a.certificate a.certificate_within);
      refutes = a.refutes;
    });
  }

pub accepted_exactly : AcceptedExactly
accepted_exactly l s c n bs bc b = (
  λ h. accepts l s c n bs bc (granted_grants l s c n accepted tt h),
  λ a. grants_granted l s c n accepted (grants l s c n bs bc b a),
)

-- none of the three sets has a solution, so the sheet is safe
pub accepted_safe : AcceptedSafe
accepted_safe l s c n bs bc h = (
  a.sheet,
  sheet_reads l s a.sheet a.sheet_within a.sheet_written,
  unsolvable_safe l a.sheet inv a.sheet_within a.certificate_within.invariant_within
      (λ w. refuted_unsolvable l (clause_set a.sheet inv w) (a.certificate.steps w) (a.refutes w)),
)
  where
    a : Accepts l s c
    a = accepts l s c n bs bc (granted_grants l s c n accepted tt h)

    inv : Formula
    inv = a.certificate.invariant
