-- The judge of a trace looks at its scans and at where END stands, and at nothing else of a reading; it never accepts.
-- Assumes nothing.
use Prim.Native.Nat.{ℕ, ◌+◌}
use mathlib.Core.Path.{◌≡◌, refl, ◌∙◌}
use mathlib.Core.Bool.{Bool, true, false}
use mathlib.Core.List.{List}
use native.Mathlib.Omega.{arith}
use lib.ListN.{length}
use lib.Dec.{ltb}
use Rattle.base.specs.Pick.{pick}
use Rattle.rules.specs.Walk.{◌at◌, Reading, Reading.stopped, Reading.marked, Reading.closed}
use Rattle.rules.specs.Sheet.{Sheet}
use Rattle.rules.specs.Verdict.{Verdict.accepted, Verdict.confirmed, Verdict.refused, Replay, replayed, judge_scans}
use Rattle.reading.specs.Readings.{marks, final}
use Rattle.proving.proofs.Replays.{replay}

-- a replay is never accepted
pub scans_not_accepted : (t : Sheet) (bs : List ℕ) (g : Replay) (r : Reading (List ℕ) (Unit {0})) → judge_scans t bs g r ≡ accepted → ⊥
unfolding judge_scans
scans_not_accepted t bs g (stopped x) h = let z : ◌≡◌ {A = ℕ} 0 1 = cc in omega arith
scans_not_accepted t bs g (marked p on r) h = scans_not_accepted t bs (replayed t g on) r h
scans_not_accepted t bs g (closed p x) h = by g.broken (ltb (p + 1) (length bs)) h
  where
    by : (a b : Bool) → pick a (pick b (refused (26 at p + 1)) (confirmed g.first)) (refused (25 at p)) ≡ accepted → ⊥
    by true true k = let z : ◌≡◌ {A = ℕ} 0 1 = cc in omega arith
    by true false k = let z : ◌≡◌ {A = ℕ} 0 1 = cc in omega arith
    by false b k = let z : ◌≡◌ {A = ℕ} 0 1 = cc in omega arith

-- the scans are replayed, and then what stands after them settles the answer
pub scans_judged : (t : Sheet) (bs : List ℕ) (r : Reading (List ℕ) (Unit {0})) (g : Replay)
    → judge_scans t bs g r ≡ judge_scans t bs (replay t g (marks r)) (final r)
unfolding judge_scans marks final
scans_judged t bs (stopped x) g = refl
scans_judged t bs (marked p on r) g = scans_judged t bs r (replayed t g on)
scans_judged t bs (closed p x) g = refl

-- a reading of scans that was judged to the end
pub record Played (t : Sheet) (bs : List ℕ) (g : Replay) (r : Reading (List ℕ) (Unit {0})) (m : ℕ) : Type 0 where
  pub end : ℕ
  pub closes : final r ≡ closed end tt
  pub last : ltb (end + 1) (length bs) ≡ false
  pub broken_is : (replay t g (marks r)).broken ≡ true
  pub first_is : (replay t g (marks r)).first ≡ m

module _ (t : Sheet) (bs : List ℕ) (m : ℕ) where
  pub judged_played : (r : Reading (List ℕ) (Unit {0})) (g : Replay) → judge_scans t bs g r ≡ confirmed m → Played t bs g r m
  unfolding judge_scans marks final
  judged_played (stopped x) g h = let z : ◌≡◌ {A = ℕ} 0 1 = cc in absurd (omega arith)
  judged_played (marked p on r) g h = more (judged_played r (replayed t g on) h)
    where
      more : Played t bs (replayed t g on) r m → Played t bs g (marked p on r) m
      more s = record { end = s.end; closes = s.closes; last = s.last; broken_is = s.broken_is; first_is = s.first_is }
  judged_played (closed p x) g h = by g.broken (ltb (p + 1) (length bs)) refl refl h
    where
      by : (a b : Bool) → g.broken ≡ a → ltb (p + 1) (length bs) ≡ b
          → pick a (pick b (refused (26 at p + 1)) (confirmed g.first)) (refused (25 at p)) ≡ confirmed m → Played t bs g (closed p x) m
      by true true e f k = let z : ◌≡◌ {A = ℕ} 0 1 = cc in absurd (omega arith)
      by true false e f k = record { end = p; closes = refl; last = f; broken_is = e; first_is = cc }
      by false b e f k = let z : ◌≡◌ {A = ℕ} 0 1 = cc in absurd (omega arith)

  pub played_judged : (r : Reading (List ℕ) (Unit {0})) (g : Replay) → Played t bs g r m → judge_scans t bs g r ≡ confirmed m
  unfolding judge_scans
  played_judged r g s = scans_judged t bs r g ∙ rw (s.closes, s.broken_is, s.last, s.first_is)
