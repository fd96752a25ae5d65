-- Every proper prefix of a certificate that was accepted, or of a trace that was confirmed, is refused with 12.
-- Assumes nothing.
use Prim.Native.Nat.{ℕ, ◌<◌}
use mathlib.Core.Path.{◌≡◌, ◌∙◌}
use mathlib.Core.List.{List}
use lib.ListN.{length, take}
use Rattle.rules.specs.declared.Limits.{Limits}
use Rattle.rules.specs.Walk.{◌at◌, Reading}
use Rattle.rules.specs.Formula.{Formula}
use Rattle.rules.specs.Sheet.{Sheet}
use Rattle.rules.specs.Certificate.{Which.start, Mark, read_invariant, read_scans}
use Rattle.rules.specs.Verdict.{Verdict.accepted, Verdict.confirmed, Verdict.refused, Refuting, refuting, judge_steps, judge_safe, unplayed, judge_scans, judge_opened}
use Rattle.reading.specs.Readings.{marks, CutShort}
use Rattle.reading.specs.Traces.{first_record, TraceCut, TraceCut.unopened, TraceCut.scans_cut}
use Rattle.reading.specs.Certificates.{CertificateCut, CertificateCut.unopened, CertificateCut.invariant_cut, CertificateCut.steps_cut}
use Rattle.reading.proofs.TraceLeads.{trace_clipped}
use Rattle.reading.proofs.CertificateLaws.{certificate_clipped}
use Rattle.proving.specs.Statements.{AcceptedClipped, ConfirmedClipped}
use Rattle.proving.proofs.Passed.{judged_passed, passes_judged, passes_first}
use Rattle.proving.proofs.Played.{scans_not_accepted, scans_judged}
use Rattle.proving.proofs.Granted.{Given, Given.by_safe, Given.by_trace, ready_judge, granted_grants}
use Rattle.proving.proofs.Accepted.{given_certifies}
use Rattle.proving.proofs.Confirmed.{given_replays}

-- refused with 12 somewhere
abbrev Ends : Limits → Sheet → List ℕ → Type 0
Ends l t cs = (p : ℕ) × (judge_opened l t cs (first_record cs) ≡ refused (12 at p))

-- the steps that are left pass, and then the bytes end
steps_end : (l : Limits) (t : Sheet) (inv : Formula) (bs cs : List ℕ) (g : Refuting) (w w' : Reading Mark (Unit {0})) (k : CutShort 12 w w')
    → judge_steps l t inv bs g w ≡ accepted → judge_steps l t inv cs g w' ≡ refused (12 at k.place)
unfolding judge_steps
steps_end l t inv bs cs g w w' k h =
    passes_judged l t inv cs w' g (refused (12 at k.place))
    (passes_first l t inv (marks w') k.others g (rw k.same at (judged_passed l t inv bs w g h).passes))
    (λ f. rw k.refused)

module _ (l : Limits) (t : Sheet) (bs cs : List ℕ) where
  certificate_ends : judge_safe l t bs (read_invariant l t bs) ≡ accepted → CertificateCut l t bs cs → Ends l t cs
  unfolding judge_opened judge_safe
  certificate_ends h (unopened o) = (0, rw o)
  certificate_ends h (invariant_cut p o i) = (p, rw (o, i))
  certificate_ends h (steps_cut p inv o i j k) = (k.place, rw (o, i) (steps_end l t inv bs cs (refuting t inv start) _ _ k (rw j at h)))

  trace_ends : TraceCut l t bs cs → Ends l t cs
  unfolding judge_opened judge_scans
  trace_ends (unopened o) = (0, rw o)
  trace_ends (scans_cut o k) = (k.place, rw o (scans_judged t cs (read_scans l t cs) (unplayed t) ∙ rw k.refused))

given_ends : (l : Limits) (t : Sheet) (c : List ℕ) → Given l t c accepted → (m : ℕ) → m < length c → Ends l t (take m c)
given_ends l t c (by_safe o h) m b =
    let k = given_certifies l t c (by_safe o h) in
    certificate_ends l t c (take m c) h (certificate_clipped l t c k.certificate k.read m b)
given_ends l t c (by_trace o h) m b = absurd (scans_not_accepted t c (unplayed t) (read_scans l t c) h)

pub accepted_clipped : AcceptedClipped
accepted_clipped l s c n h m b =
    let g = granted_grants l s c n accepted tt h in
    let e = given_ends l g.ready.sheet c g.given m b in
    (e.0, ready_judge l s (take m c) n g.ready ∙ e.1)

pub confirmed_clipped : ConfirmedClipped
confirmed_clipped l s c n j h m b =
    let g = granted_grants l s c n (confirmed j) tt h in
    let t = g.ready.sheet in
    let k = given_replays l t c j g.given in
    let e = trace_ends l t c (take m c) (trace_clipped l t c k.trace k.read m b) in
    (e.0, ready_judge l s (take m c) n g.ready ∙ e.1)
