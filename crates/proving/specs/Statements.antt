-- Demands 1 and 2, as theorems of the rules. `judge l s c n` is the rules' answer to the sheet bytes s and the certificate bytes c in a
-- workspace of n places: accepted, confirmed with a scan, or refused with a number at a place. All of it holds whatever the limits l are.
-- Read `(x : A) → ..` as "for every x", `(x : A) × ..` as "there is an x with", `↔` as "exactly when" and `→ ⊥` as "never".
-- The words are defined in crates/rules/specs: `judge` in Verdict, `Safe` in Sheet, well formed (`write_sheet`, `WithinSheet`) in WriteSheet
-- and WriteCertificate, `clause_set` in Clauses, `Refutes` in Resolution; `Broken` beside this file, in Replayed.
use Rattle.std.specs.Prelude.{ℕ, ◌≤◌, ◌<◌, ◌≡◌, ◌↔◌, List, length, take}
use Rattle.rules.specs.declared.Limits.{Limits}
use Rattle.rules.specs.Walk.{◌at◌}
use Rattle.rules.specs.Sheet.{Sheet, Safe}
use Rattle.rules.specs.ReadSheet.{SheetRead.good, read_sheet}
use Rattle.rules.specs.WriteSheet.{write_sheet, Bytes, WithinSheet}
use Rattle.rules.specs.Certificate.{Which, Certificate, Trace}
use Rattle.rules.specs.WriteCertificate.{write_certificate, write_trace, WithinCertificate, WithinTrace}
use Rattle.rules.specs.Clauses.{clause_set}
use Rattle.rules.specs.Resolution.{Refutes}
use Rattle.rules.specs.Verdict.{Verdict.accepted, Verdict.confirmed, Verdict.refused, judge}
use Rattle.proving.specs.Replayed.{Broken}

-- DEMAND 1. Any bytes have one answer, since `judge` is a function of any bytes; and nothing is clipped.

-- Refusal 1 is given exactly when the workspace is too short.
abbrev pub Short : Type 0
Short = (l : Limits) (s c : List ℕ) (n : ℕ) → ((p : ℕ) × (judge l s c n ≡ refused (1 at p))) ↔ (n < l.places)

-- every proper prefix of c is refused with 12, "ends before END was read"
abbrev pub PrefixesRefused : Limits → List ℕ → List ℕ → ℕ → Type 0
PrefixesRefused l s c n = (m : ℕ) → m < length c → (p : ℕ) × (judge l s (take m c) n ≡ refused (12 at p))

-- A certificate that was cut off is never taken as finished: all prefixes of an accepted one are refused.
abbrev pub AcceptedClipped : Type 0
AcceptedClipped = (l : Limits) (s c : List ℕ) (n : ℕ) → judge l s c n ≡ accepted → PrefixesRefused l s c n

-- Nor is a trace: all prefixes of a confirmed one are refused.
abbrev pub ConfirmedClipped : Type 0
ConfirmedClipped = (l : Limits) (s c : List ℕ) (n j : ℕ) → judge l s c n ≡ confirmed j → PrefixesRefused l s c n

-- DEMAND 2. What is accepted is safe and what is confirmed breaks, and exactly what ought to be accepted or confirmed is.

-- s is the bytes of a well-formed sheet, and c those of a well-formed certificate of it, each of whose three refutations refutes its set
-- by the resolution rule: at least one step and no more than the limit, no derived clause too wide, the empty clause derived last
pub record Accepts (l : Limits) (s c : List ℕ) : Type 0 where
  pub sheet : Sheet
  pub certificate : Certificate
  pub sheet_written : write_sheet sheet ≡ s
  pub sheet_within : WithinSheet l sheet
  pub certificate_written : write_certificate certificate ≡ c
  pub certificate_within : WithinCertificate l sheet certificate
  pub refutes : (w : Which) → Refutes l (clause_set sheet certificate.invariant w) (certificate.steps w)

-- The answer is `accepted` exactly then.
abbrev pub AcceptedExactly : Type 0
AcceptedExactly =
    (l : Limits) (s c : List ℕ) (n : ℕ) → Bytes s → Bytes c → l.places ≤ n
    → (judge l s c n ≡ accepted) ↔ Accepts l s c

-- Where it is, the sheet that was read is safe: from any allowed start the condition holds after every scan, whatever the inputs.
abbrev pub AcceptedSafe : Type 0
AcceptedSafe =
    (l : Limits) (s c : List ℕ) (n : ℕ) → Bytes s → Bytes c
    → judge l s c n ≡ accepted → (t : Sheet) × (read_sheet l s ≡ good t) × Safe t

-- s is the bytes of a well-formed sheet, and c those of a well-formed trace of it after whose last scan the condition is false;
-- m is the first scan after which it is
pub record Confirms (l : Limits) (s c : List ℕ) (m : ℕ) : Type 0 where
  pub sheet : Sheet
  pub trace : Trace
  pub sheet_written : write_sheet sheet ≡ s
  pub sheet_within : WithinSheet l sheet
  pub trace_written : write_trace trace ≡ c
  pub trace_within : WithinTrace l sheet trace
  pub last_broken : Broken sheet trace (length trace)
  pub from_one : 1 ≤ m
  pub there : m ≤ length trace
  pub broken : Broken sheet trace m
  pub first : (j : ℕ) → 1 ≤ j → j < m → Broken sheet trace j → ⊥

-- The answer is `confirmed` with scan m exactly then.
abbrev pub ConfirmedExactly : Type 0
ConfirmedExactly =
    (l : Limits) (s c : List ℕ) (n m : ℕ) → Bytes s → Bytes c → l.places ≤ n
    → (judge l s c n ≡ confirmed m) ↔ Confirms l s c m

-- No sheet is accepted with one certificate and confirmed with another.
abbrev pub NeverBoth : Type 0
NeverBoth =
    (l : Limits) (s c c' : List ℕ) (n n' m : ℕ) → Bytes s → Bytes c
    → judge l s c n ≡ accepted → judge l s c' n' ≡ confirmed m → ⊥
