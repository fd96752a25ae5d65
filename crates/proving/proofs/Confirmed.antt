-- Confirmed exactly when sheet and trace are well formed, the last scan breaks the condition, and the scan named is the first that does.
-- Assumes nothing.
use Prim.Native.Nat.{ℕ, ◌+◌, ◌≤◌}
use mathlib.Core.Path.{◌≡◌, refl, subst}
use mathlib.Core.List.{List}
use native.Mathlib.Omega.{arith}
use lib.ListN.{length}
use borrow.Author.Tests.{le-ltb}
use Rattle.rules.specs.declared.Limits.{Limits}
use Rattle.rules.specs.Kind
use Rattle.rules.specs.Walk.{Reading, Reading.stopped, Reading.marked, Reading.closed}
use Rattle.rules.specs.Formula.{Formula}
use Rattle.rules.specs.Sheet.{Sheet, Safe}
use Rattle.rules.specs.ReadSheet.{SheetRead.good, read_sheet}
use Rattle.rules.specs.WriteSheet.{write_sheet, Bytes, WithinSheet}
use Rattle.rules.specs.Certificate.{Which.start, Trace, scans_reader, read_invariant, read_steps, read_scans}
use Rattle.rules.specs.WriteCertificate.{write_trace, WithinTrace}
use Rattle.rules.specs.Verdict.{Verdict.confirmed, refuting, judge_safe, unplayed}
use Rattle.reading.specs.Readings.{marks}
use Rattle.reading.specs.Traces.{first_record, ReadsTrace}
use Rattle.reading.proofs.SheetKept.{sheet_written}
use Rattle.reading.proofs.TraceKept.{trace_written}
use Rattle.reading.proofs.TraceLeads.{trace_back}
use Rattle.proving.specs.Statements.{Confirms, ConfirmedExactly, NeverBoth}
use Rattle.proving.proofs.Closed.{closes_last}
use Rattle.proving.proofs.Passed.{steps_not_confirmed}
use Rattle.proving.proofs.Played.{Played, judged_played, played_judged}
use Rattle.proving.proofs.Replays.{Breaks, replay, stands_whole, stands_breaks, breaks_stands, safe_unbroken}
use Rattle.proving.proofs.Accepted.{sheet_reads, accepted_safe}
use Rattle.proving.proofs.Granted.{Given, Given.by_safe, Given.by_trace, Grants, granted_grants, grants_granted}

safe_not_confirmed : (l : Limits) (t : Sheet) (bs : List ℕ) (m : ℕ) (r : Reading ⊥ Formula) → judge_safe l t bs r ≡ confirmed m → ⊥
unfolding judge_safe
safe_not_confirmed l t bs m (stopped x) h = let z : ◌≡◌ {A = ℕ} 0 1 = cc in omega arith
safe_not_confirmed l t bs m (marked p k r) h = absurd k
safe_not_confirmed l t bs m (closed p inv) h = steps_not_confirmed l t inv bs m (read_steps bs (p + 1)) (refuting t inv start) h

-- the bytes are read as a trace whose last scan breaks the condition, and m is the first that does
pub record Replays (l : Limits) (t : Sheet) (c : List ℕ) (m : ℕ) : Type 0 where
  pub trace : Trace
  pub read : ReadsTrace l t c trace
  pub breaks : Breaks t trace m

module _ (l : Limits) (t : Sheet) (c : List ℕ) (m : ℕ) where
  played_replays : first_record c ≡ closed 0 Kind.TRACE → Played t c (unplayed t) (read_scans l t c) m → Replays l t c m
  unfolding read_scans
  played_replays o p =
      let tr = marks (read_scans l t c) in
      record {
        trace = tr;
        read = record {
          opened = o;
          scans = refl;
          place = p.end;
          closes = p.closes;
          last = closes_last (scans_reader l t) c 1 _ p.end tt p.closes p.last;
        };
        breaks = stands_breaks t tr m (replay t (unplayed t) tr) (stands_whole t tr) p.broken_is p.first_is;
      }

  pub given_replays : Given l t c (confirmed m) → Replays l t c m
  given_replays (by_safe o h) = absurd (safe_not_confirmed l t c m (read_invariant l t c) h)
  given_replays (by_trace o h) = played_replays o (judged_played t c m (read_scans l t c) (unplayed t) h)

  replays_given : Replays l t c m → Given l t c (confirmed m)
  replays_given r =
      let k = r.read in
      let b = breaks_stands t r.trace m (replay t (unplayed t) r.trace) (stands_whole t r.trace) r.breaks in
      by_trace k.opened (played_judged t c m (read_scans l t c) (unplayed t) (record {
        end = k.place;
        closes = k.closes;
        last = le-ltb (k.place + 1) (length c) (let e = k.last in omega arith);
        broken_is = rw k.scans b.0;
        first_is = rw k.scans b.1;
      }))

module _ (l : Limits) (s c : List ℕ) (n m : ℕ) (bs : Bytes s) (bc : Bytes c) where
  confirms : Grants l s c n (confirmed m) → Confirms l s c m
  confirms g = record {
    sheet = t;
    trace = k.trace;
    sheet_written = sheet.1;
    sheet_within = sheet.0;
    trace_written = trace.1;
    trace_within = trace.0;
    last_broken = k.breaks.last_broken;
    from_one = k.breaks.first_broken.from_one;
    there = k.breaks.there;
    broken = k.breaks.first_broken.broken;
    first = k.breaks.first_broken.none_before;
  }
    where
      t : Sheet
      t = g.ready.sheet

      k : Replays l t c m
      k = given_replays l t c m g.given

      sheet : WithinSheet l t × (write_sheet t ≡ s)
      sheet = sheet_written l s t bs g.ready.read

      trace : WithinTrace l t k.trace × (write_trace k.trace ≡ c)
      trace = trace_written l t c k.trace bc k.read

  grants : l.places ≤ n → Confirms l s c m → Grants l s c n (confirmed m)
  grants b a = record {
    ready = record { room = b; sheet = a.sheet; read = sheet_reads l s a.sheet a.sheet_within a.sheet_written };
    given = replays_given l a.sheet c m (record {
      trace = a.trace;
      read = subst (λ (x : List ℕ). ReadsTrace l a.sheet x a.trace) a.trace_written (trace_back l a.sheet a.trace a.trace_within);
      breaks = record { last_broken = a.last_broken; there = a.there; first_broken = record { from_one = a.from_one; broken = a.broken; none_before = a.first } };
    });
  }

pub confirmed_exactly : ConfirmedExactly
confirmed_exactly l s c n m bs bc b = (
  λ h. confirms l s c n m bs bc (granted_grants l s c n (confirmed m) tt h),
  λ a. grants_granted l s c n (confirmed m) (grants l s c n m bs bc b a),
)

pub never_both : NeverBoth
never_both l s c c' n n' m bs bc h k =
    safe_unbroken g.ready.sheet r.trace m (rw same at a.2) r.breaks.first_broken.from_one r.breaks.there r.breaks.first_broken.broken
  where
    a : (t : Sheet) × (read_sheet l s ≡ good t) × Safe t
    a = accepted_safe l s c n bs bc h

    g : Grants l s c' n' (confirmed m)
    g = granted_grants l s c' n' (confirmed m) tt k

    r : Replays l g.ready.sheet c' m
    r = given_replays l g.ready.sheet c' m g.given

    same : a.0 ≡ g.ready.sheet
    same = cc (a.1, g.ready.read)
