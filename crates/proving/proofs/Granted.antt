-- An answer that is no refusal: the workspace is long enough, the sheet was read, and the first record says which judge gave it.
-- Assumes nothing.
use Prim.Native.Nat.{ℕ, ◌≤◌}
use mathlib.Core.Path.{◌≡◌, refl, ◌∙◌}
use mathlib.Core.Bool.{Bool, true, false}
use mathlib.Core.List.{List}
use lib.Dec.{ltb}
use borrow.Author.Tests.{ltb-false, le-ltb}
use Rattle.base.specs.Pick.{pick}
use Rattle.rules.specs.declared.Limits.{Limits}
use Rattle.rules.specs.Kind
use Rattle.rules.specs.Walk.{Refusal, ◌at◌, Reading, Reading.closed}
use Rattle.rules.specs.Sheet.{Sheet}
use Rattle.rules.specs.ReadSheet.{SheetRead, SheetRead.good, SheetRead.bad, read_sheet}
use Rattle.rules.specs.Certificate.{read_invariant, read_scans}
use Rattle.rules.specs.Verdict.{Verdict, Verdict.accepted, Verdict.confirmed, Verdict.refused, judge_safe, unplayed, judge_scans, judge_opened, judge_certificate, judge}
use Rattle.reading.specs.Traces.{first_record}
use Rattle.proving.proofs.Opened.{First, First.at_safe, First.at_trace, First.nowhere, first_record_lem}

-- accepted or confirmed
abbrev pub Granted : Verdict → Type 0
Granted accepted = Unit {0}
Granted (confirmed m) = Unit {0}
Granted (refused x) = ⊥

not_granted : {A : Type 0} (x : Refusal) (v : Verdict) → Granted v → refused x ≡ v → A
not_granted x v g e = absurd (rw (← e) at g)

-- the judge of a certificate or of a trace says v
pub data Given (l : Limits) (t : Sheet) (c : List ℕ) (v : Verdict) : Type 0 where
  by_safe : first_record c ≡ closed 0 Kind.SAFE → judge_safe l t c (read_invariant l t c) ≡ v → Given l t c v
  by_trace : first_record c ≡ closed 0 Kind.TRACE → judge_scans t c (unplayed t) (read_scans l t c) ≡ v → Given l t c v

module _ (l : Limits) (t : Sheet) (c : List ℕ) (v : Verdict) where
  opened_given : Granted v → judge_opened l t c (first_record c) ≡ v → Given l t c v
  unfolding judge_opened
  opened_given g h = by refl (first_record_lem c) h
    where
      by : {r : Reading ⊥ ℕ} → first_record c ≡ r → First r → judge_opened l t c r ≡ v → Given l t c v
      by e at_safe k = by_safe e k
      by e at_trace k = by_trace e k
      by e (nowhere x) k = not_granted x v g k

  given_opened : Given l t c v → judge_opened l t c (first_record c) ≡ v
  unfolding judge_opened
  given_opened (by_safe e h) = rw e h
  given_opened (by_trace e h) = rw e h

-- a workspace that is long enough, and the sheet that was read
pub record Ready (l : Limits) (s : List ℕ) (n : ℕ) : Type 0 where
  pub room : l.places ≤ n
  pub sheet : Sheet
  pub read : read_sheet l s ≡ good sheet

-- there the certificate settles the answer
pub ready_judge : (l : Limits) (s c : List ℕ) (n : ℕ) (r : Ready l s n) → judge l s c n ≡ judge_opened l r.sheet c (first_record c)
unfolding judge judge_certificate
ready_judge l s c n r = rw (le-ltb n l.places r.room, r.read)

-- what any answer that is no refusal rests on
pub record Grants (l : Limits) (s c : List ℕ) (n : ℕ) (v : Verdict) : Type 0 where
  pub ready : Ready l s n
  pub given : Given l ready.sheet c v

module _ (l : Limits) (s c : List ℕ) (n : ℕ) (v : Verdict) where
  pub granted_grants : Granted v → judge l s c n ≡ v → Grants l s c n v
  unfolding judge judge_certificate
  granted_grants g h = by (ltb n l.places) refl (read_sheet l s) refl h
    where
      by : (b : Bool) → ltb n l.places ≡ b → (r : SheetRead) → read_sheet l s ≡ r
          → pick b (refused (1 at 0)) (judge_certificate l c r) ≡ v → Grants l s c n v
      by true f r e k = not_granted (1 at 0) v g k
      by false f (bad x) e k = not_granted x v g k
      by false f (good t) e k = record {
        ready = record { room = ltb-false n l.places f; sheet = t; read = e };
        given = opened_given l t c v g k;
      }

  pub grants_granted : Grants l s c n v → judge l s c n ≡ v
  grants_granted g = ready_judge l s c n g.ready ∙ given_opened l g.ready.sheet c v g.given
