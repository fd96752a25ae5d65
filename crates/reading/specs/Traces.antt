-- What it is for bytes to be a trace, said without a reader, and what becomes of a trace that was clipped.
use Rattle.std.specs.Prelude.{ℕ, ◌+◌, ◌<◌, ◌≡◌, ◌↔◌, List, [], ◌∷◌, length, take}
use Rattle.rules.specs.declared.Limits.{Limits}
use Rattle.rules.specs.Kind
use Rattle.rules.specs.Walk.{◌at◌, Reading, Reading.stopped, Reading.closed, reading}
use Rattle.rules.specs.Sheet.{Sheet}
use Rattle.rules.specs.WriteSheet.{Bytes, Narrow}
use Rattle.rules.specs.Certificate.{Trace, opening, read_scans}
use Rattle.rules.specs.WriteCertificate.{WithinTrace, write_trace}
use Rattle.reading.specs.Readings.{marks, final, CutShort}

-- the first record, which says whether a certificate is a safety certificate or a trace
abbrev pub first_record : List ℕ → Reading ⊥ ℕ
first_record bs = reading (opening (Kind.SAFE ∷ Kind.TRACE ∷ [])) bs 0 tt

-- the reading of bs is the trace tr: TRACE, then its scans, then END as the last byte
pub record ReadsTrace (l : Limits) (t : Sheet) (bs : List ℕ) (tr : Trace) : Type 0 where
  pub opened : first_record bs ≡ closed 0 Kind.TRACE
  pub scans : marks (read_scans l t bs) ≡ tr
  pub place : ℕ
  pub closes : final (read_scans l t bs) ≡ closed place tt
  pub last : place + 1 ≡ length bs

-- Bytes are read as the trace tr exactly when tr is within the limits and they are the bytes that tr writes.
abbrev pub TraceExactly : Type 0
TraceExactly =
    (l : Limits) → Narrow l → (t : Sheet) (bs : List ℕ) → Bytes bs → (tr : Trace)
    → ReadsTrace l t bs tr ↔ (WithinTrace l t tr × (write_trace tr ≡ bs))

-- the reading of cs, a prefix of bs, ends in 12: at its first record, or in its scans, which are the first ones of bs
pub data TraceCut (l : Limits) (t : Sheet) (bs cs : List ℕ) : Type 0 where
  unopened : first_record cs ≡ stopped (12 at 0) → TraceCut l t bs cs
  scans_cut : first_record cs ≡ closed 0 Kind.TRACE → CutShort 12 (read_scans l t bs) (read_scans l t cs) → TraceCut l t bs cs

-- Every proper prefix of a trace's bytes has a reading that ends in 12.
abbrev pub TraceClipped : Type 0
TraceClipped =
    (l : Limits) → Narrow l → (t : Sheet) (bs : List ℕ) → Bytes bs → (tr : Trace) → ReadsTrace l t bs tr
    → (m : ℕ) → m < length bs → TraceCut l t bs (take m bs)
