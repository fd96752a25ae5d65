-- The first record of a certificate is SAFE or TRACE, at place 0, or is refused.
-- Assumes nothing.
use Prim.Native.Nat.{ℕ}
use mathlib.Core.Path.{◌≡◌, refl}
use mathlib.Core.List.{List, [], ◌∷◌}
use native.Mathlib.Omega.{arith}
use lib.ListN.{get_or}
use Rattle.rules.specs.Kind
use Rattle.rules.specs.Walk.{Refusal, ◌at◌, Move, Move.go, Move.mark, Move.no, Move.done, Reading, Reading.stopped, Reading.closed, move_at}
use Rattle.rules.specs.Certificate.{opening}
use Rattle.reading.specs.Traces.{first_record}
use Rattle.reading.proofs.WalkLaws.{move_took, reading_no, reading_done}
use Rattle.reading.proofs.ByteLaws.{one_of_all}

-- the kinds that may come first
abbrev kinds : List ℕ
kinds = Kind.SAFE ∷ Kind.TRACE ∷ []

-- what the reading of the first record comes to
pub data First : Reading ⊥ ℕ → Type 0 where
  at_safe : First (closed 0 Kind.SAFE)
  at_trace : First (closed 0 Kind.TRACE)
  nowhere : (x : Refusal) → First (stopped x)

pub first_record_lem : (bs : List ℕ) → First (first_record bs)
unfolding opening
first_record_lem bs = by (move_at (opening kinds) tt bs) refl
  where
    by : (y : Move (Unit {0}) ⊥ ℕ) → move_at (opening kinds) tt bs ≡ y → First (first_record bs)
    by (go u) f = let m = (move_took (opening kinds) tt bs (go u) f tt).moved in let z : ◌≡◌ {A = ℕ} 0 1 = cc in absurd (omega arith)
    by (mark m u) f = absurd m
    by (no n) f = rw (reading_no (opening kinds) tt bs 0 n f) (nowhere (n at 0))
    by (done x) f =
        let k = move_took (opening kinds) tt bs (done x) f tt in
        let m = k.moved in
        let s : get_or bs 0 0 ≡ x = cc in
        rw (reading_done (opening kinds) tt bs 0 x f, ← s) (one_of_all (λ (j : ℕ). First (closed 0 j)) kinds (get_or bs 0 0) (at_safe, (at_trace, tt)) k.allowed_kind)
