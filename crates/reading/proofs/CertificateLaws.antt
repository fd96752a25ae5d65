-- Bytes that are read as a safety certificate, both ways, and every proper prefix of them refused with 12.
-- Assumes nothing.
use Prim.Native.Nat.{ℕ, zero, suc, ◌+◌, ◌-◌, ◌≤◌, ◌<◌}
use mathlib.Core.Path.{◌≡◌, refl, sym, ap, ◌∙◌}
use mathlib.Core.List.{List, [], ◌∷◌, ◌++◌, append-nil, append_assoc}
use mathlib.Core.Logic.{⊎_elim}
use native.Mathlib.Omega.{arith}
use lib.ListN.{length, take, drop, length-append}
use lib.Seq.{drop-append-add}
use Rattle.base.specs.Lists.{All, each}
use Rattle.rules.specs.declared.Limits.{Limits}
use Rattle.rules.specs.Kind
use Rattle.rules.specs.Record.{rows, body_length}
use Rattle.rules.specs.Walk.{Reading.closed, reading}
use Rattle.rules.specs.Formula.{Formula}
use Rattle.rules.specs.Sheet.{Sheet}
use Rattle.rules.specs.ReadFormula.{empty}
use Rattle.rules.specs.WriteSheet.{Bytes, write_formula}
use Rattle.rules.specs.Certificate.{Which, Which.start, Which.keep, Which.safe, Certificate, invariant_reader, steps_reader, read_invariant, read_steps}
use Rattle.rules.specs.WriteCertificate.{write_refutation, write_certificate, WithinStep, WithinCertificate}
use Rattle.reading.specs.Readings.{marks, final, CutShort}
use Rattle.reading.specs.Traces.{first_record}
use Rattle.reading.specs.Certificates.{refutation, refutations, ReadsCertificate, CertificateCut, CertificateCut.unopened, CertificateCut.invariant_cut, CertificateCut.steps_cut}
use Rattle.reading.proofs.FrontLaws.{drop_take}
use Rattle.reading.proofs.WholeLaws.{last_record}
use Rattle.reading.proofs.ClipLaws.{clip}
use Rattle.reading.proofs.ByteLaws.{each_append}
use Rattle.reading.proofs.RecordLaws.{bare_record}
use Rattle.reading.proofs.LeadLaws.{unmarked, Leads, leads_then}
use Rattle.reading.proofs.OpeningLaws.{opened_first, first_byte, opens, unopened_nothing}
use Rattle.reading.proofs.InvariantLaws.{invariant_written, invariant_back, invariant_local}
use Rattle.reading.proofs.StepLaws.{write_mark, WithinMark, StepsWritten, steps_written, refutation_leads, end_reads, refutation_bytes, refutation_within, steps_local}

-- the bytes of the three refutations
abbrev write_steps : Certificate → List ℕ
write_steps d = write_refutation (d.steps start) ++ (write_refutation (d.steps keep) ++ write_refutation (d.steps safe))

steps_bytes : (d : Certificate) → each write_mark (refutations d) ≡ write_steps d
unfolding refutations
steps_bytes d =
    rw (
      each_append write_mark (refutation (d.steps start)) (refutation (d.steps keep) ++ refutation (d.steps safe)),
      each_append write_mark (refutation (d.steps keep)) (refutation (d.steps safe)),
      refutation_bytes (d.steps start),
      refutation_bytes (d.steps keep),
      refutation_bytes (d.steps safe),
    )

steps_within : (d : Certificate) → All WithinMark (refutations d) → (w : Which) → All WithinStep (d.steps w)
unfolding refutations
steps_within d a start = (refutation_within (d.steps start) _ a).0
steps_within d a keep = (refutation_within (d.steps keep) _ (refutation_within (d.steps start) _ a).1).0
steps_within d a safe = (refutation_within (d.steps safe) [] (rw append-nil (refutation_within (d.steps keep) _ (refutation_within (d.steps start) _ a).1).1)).0

-- a certificate's bytes, in the parts that are read one after the other
certificate_bytes : (d : Certificate) → write_certificate d ≡ Kind.SAFE ∷ (write_formula d.invariant ++ (Kind.INVARIANT ∷ (write_steps d ++ (Kind.END ∷ []))))
unfolding write_certificate
certificate_bytes d = simp append_assoc

-- how many bytes there are past the invariant
rest_length : (bs : List ℕ) (p : ℕ) (wf : List ℕ) → bs ≡ Kind.SAFE ∷ drop 1 bs → drop 1 bs ≡ wf ++ (Kind.INVARIANT ∷ drop (p + 1) bs) → p ≡ 1 + length wf
    → length bs ≡ p + 1 + length (drop (p + 1) bs)
rest_length bs p wf e f g = omega (arith, ap length e, simp length-append at (ap length f))

pub certificate_written : (l : Limits) (t : Sheet) (bs : List ℕ) (d : Certificate) → Bytes bs → ReadsCertificate l t bs d
    → WithinCertificate l t d × (write_certificate d ≡ bs)
certificate_written l t bs d b r =
    let p = r.invariant_place in
    let first : bs ≡ Kind.SAFE ∷ drop 1 bs = first_byte Kind.SAFE bs (opened_first _ bs Kind.SAFE r.opened) in
    let i = invariant_written l t bs p d.invariant b r.invariant in
    let s : StepsWritten bs (p + 1) r.place (refutations d) = rw r.steps at (steps_written bs (p + 1) r.place b r.closes) in
    let whole = rest_length bs p (write_formula d.invariant) first i.bytes i.place in
    let n : length s.left ≤ 1 = omega (arith, simp length-append at (ap length s.bytes), s.place, r.last, whole) in
    let z : s.left ≡ Kind.END ∷ [] = last_record Kind.END s.left s.ended n in (
      record { invariant_within = i.within; steps_within = steps_within d s.within },
      certificate_bytes d
          ∙ ap (λ (x : List ℕ). Kind.SAFE ∷ (write_formula d.invariant ++ (Kind.INVARIANT ∷ (x ++ (Kind.END ∷ []))))) (sym (steps_bytes d))
          ∙ ap (λ (x : List ℕ). Kind.SAFE ∷ (write_formula d.invariant ++ (Kind.INVARIANT ∷ (each write_mark (refutations d) ++ x)))) (sym z)
          ∙ ap (λ (x : List ℕ). Kind.SAFE ∷ (write_formula d.invariant ++ (Kind.INVARIANT ∷ x))) (sym s.bytes)
          ∙ ap (λ (x : List ℕ). Kind.SAFE ∷ x) (sym i.bytes)
          ∙ sym first,
    )

-- the steps' bytes lead through the three refutations
steps_lead : (d : Certificate) → Leads steps_reader 0 (write_steps d) (refutations d) 3
unfolding refutations
steps_lead d =
    let a = d.steps start in
    let b = d.steps keep in
    let c = d.steps safe in
    leads_then steps_reader 0 1 3 (write_refutation a) (write_refutation b ++ write_refutation c) (refutation a) (refutation b ++ refutation c)
    (refutation_leads 0 a (omega arith))
    (leads_then steps_reader 1 2 3 (write_refutation b) (write_refutation c) (refutation b) (refutation c)
    (refutation_leads 1 b (omega arith)) (refutation_leads 2 c (omega arith)))

-- the bytes past the invariant
past_invariant : (k j : ℕ) (wf rest : List ℕ) → drop (1 + length wf + 1) (k ∷ (wf ++ (j ∷ rest))) ≡ rest
past_invariant k j wf rest =
    let e : 1 + length wf + 1 ≡ length (k ∷ wf) + 1 = omega arith in
    rw e (drop-append-add (k ∷ wf) (j ∷ rest) 1)

pub certificate_back : (l : Limits) (t : Sheet) (d : Certificate) → WithinCertificate l t d → ReadsCertificate l t (write_certificate d) d
unfolding rows body_length read_invariant read_steps marks final
certificate_back l t d w =
    let wf = write_formula d.invariant in
    let p = 1 + length wf in
    let rest = write_steps d ++ (Kind.END ∷ []) in
    let bs = Kind.SAFE ∷ (wf ++ (Kind.INVARIANT ∷ rest)) in
    let b = steps_lead d (Kind.END ∷ []) (p + 1) in
    let e = end_reads (p + 1 + length (write_steps d)) in
    let at_steps : read_steps bs (p + 1) ≡ reading steps_reader rest (p + 1) 0 =
    ap (λ (x : List ℕ). reading steps_reader x (p + 1) 0) (past_invariant Kind.SAFE Kind.INVARIANT wf rest) in
    rw certificate_bytes (record {
      opened = opens (Kind.SAFE ∷ Kind.TRACE ∷ []) Kind.SAFE (wf ++ (Kind.INVARIANT ∷ rest)) (bare_record Kind.SAFE refl) refl;
      invariant_place = p;
      invariant = invariant_back l t d.invariant w.invariant_within rest;
      steps = ap marks at_steps ∙ b.marked_first ∙ ap (λ z. refutations d ++ marks z) e ∙ append-nil (refutations d);
      place = p + 1 + length (write_steps d);
      closes = ap final at_steps ∙ b.final_same ∙ ap final e;
      last = omega (arith, length-append wf (Kind.INVARIANT ∷ rest), length-append (write_steps d) (Kind.END ∷ []));
    })

-- any bytes that are read to END are those of some certificate
pub certificate_found : (l : Limits) (t : Sheet) (bs : List ℕ) (p q : ℕ) (inv : Formula) → Bytes bs → first_record bs ≡ closed 0 Kind.SAFE
    → read_invariant l t bs ≡ closed p inv → final (read_steps bs (p + 1)) ≡ closed q tt → q + 1 ≡ length bs
    → (d : Certificate) × ReadsCertificate l t bs d × (d.invariant ≡ inv)
unfolding refutations
certificate_found l t bs p q inv b o i e n =
    let s = (steps_written bs (p + 1) q b e).refutations_three in
    let d : Certificate = record { invariant = inv; steps = elim [ start ↦ s.starting | keep ↦ s.keeping | safe ↦ s.saving ] } in
    (d, record { opened = o; invariant_place = p; invariant = i; steps = s.shaped; place = q; closes = e; last = n }, refl)

-- a prefix that holds the whole invariant: the steps are cut
steps_short : (bs : List ℕ) (p q m : ℕ) → p + 1 ≤ m → m ≤ q → final (read_steps bs (p + 1)) ≡ closed q tt
    → CutShort 12 (read_steps bs (p + 1)) (read_steps (take m bs) (p + 1))
unfolding read_steps steps_reader
steps_short bs p q m h i e =
    rw (drop_take (p + 1) m bs h)
    (⊎_elim (λ x. absurd (omega arith)) (λ x. x)
    (clip steps_reader steps_local q tt (m - (p + 1)) 0 (drop (p + 1) bs) (p + 1) e))

pub certificate_clipped : (l : Limits) (t : Sheet) (bs : List ℕ) (d : Certificate) → ReadsCertificate l t bs d → (m : ℕ) → m < length bs
    → CertificateCut l t bs (take m bs)
unfolding rows body_length read_invariant invariant_reader final
certificate_clipped l t bs d r zero h = unopened (unopened_nothing (Kind.SAFE ∷ Kind.TRACE ∷ []))
certificate_clipped l t [] d r (suc m) h = absurd (omega arith)
certificate_clipped l t (b ∷ bs) d r (suc m) h =
    let p = r.invariant_place in
    let e : b ≡ Kind.SAFE = (opened_first (Kind.SAFE ∷ Kind.TRACE ∷ []) (b ∷ bs) Kind.SAFE r.opened).first in
    let o : first_record (b ∷ take m bs) ≡ closed 0 Kind.SAFE =
    rw e (opens (Kind.SAFE ∷ Kind.TRACE ∷ []) Kind.SAFE (take m bs) (bare_record Kind.SAFE refl) refl) in
    ⊎_elim
    (λ x.
    steps_cut p d.invariant o (x.1 ∙ r.invariant) r.invariant
    (steps_short (b ∷ bs) p r.place (suc m) (omega (arith, x.0)) (omega (arith, r.last)) r.closes))
    (λ x. invariant_cut x.place o (unmarked _ ∙ x.refused))
    (clip (invariant_reader l t) (invariant_local l t) p d.invariant m empty bs 1 (ap final r.invariant))
