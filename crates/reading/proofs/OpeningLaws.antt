-- The first record of a certificate: what it says of the bytes, and that it needs no byte but its own.
-- Assumes nothing.
use Prim.Native.Nat.{ℕ}
use mathlib.Core.Path.{◌≡◌, refl, ap}
use mathlib.Core.Bool.{true}
use mathlib.Core.List.{List, [], ◌∷◌}
use native.Mathlib.Omega.{arith}
use lib.ListN.{get_or, drop}
use Rattle.rules.specs.Record.{front, record_length, one_of}
use Rattle.rules.specs.Walk.{◌at◌, Move, Move.go, Move.mark, Move.no, Move.done, Reading.stopped, Reading.closed, move_at, walk, reading}
use Rattle.rules.specs.Certificate.{opening}
use Rattle.reading.proofs.FrontLaws.{Whole, Written}
use Rattle.reading.proofs.WalkLaws.{move_took, reading_no, reading_done}
use Rattle.reading.proofs.LeadLaws.{reads_done}

-- a first record that was read stands at the front
pub opened_first : (ks : List ℕ) (bs : List ℕ) (k : ℕ) → reading (opening ks) bs 0 tt ≡ closed 0 k → Whole k bs
unfolding opening
opened_first ks bs k e = by (move_at (opening ks) tt bs) refl
  where
    by : (y : Move (Unit {0}) ⊥ ℕ) → move_at (opening ks) tt bs ≡ y → Whole k bs
    by (go u) f = let m = (move_took (opening ks) tt bs (go u) f tt).moved in let z : ◌≡◌ {A = ℕ} 0 1 = cc in absurd (omega arith)
    by (mark m u) f = absurd m
    by (no n) f = let s = reading_no (opening ks) tt bs 0 n f in let z : ◌≡◌ {A = ℕ} 0 1 = cc in absurd (omega arith)
    by (done x) f =
        let s = reading_done (opening ks) tt bs 0 x f in
        let w = move_took (opening ks) tt bs (done x) f tt in
        let m = w.moved in
        let z : get_or bs 0 0 ≡ k = cc in
        rw z at w.whole_kind

pub first_byte : (k : ℕ) (bs : List ℕ) → Whole k bs → bs ≡ k ∷ drop 1 bs
unfolding record_length
first_byte k [] w = absurd (omega (arith, w.inside))
first_byte k (b ∷ bs) w = ap (λ (x : ℕ). x ∷ bs) w.first

-- a first record that may stand there is read, whatever follows
pub opens : (ks : List ℕ) (k : ℕ) (rest : List ℕ) → Written k [] → one_of ks k ≡ true → reading (opening ks) (k ∷ rest) 0 tt ≡ closed 0 k
unfolding opening
opens ks k rest w e = reads_done (opening ks) tt k [] w k rest 0 e refl

-- and nothing else is
pub unopened_nothing : (ks : List ℕ) → reading (opening ks) [] 0 tt ≡ stopped (12 at 0)
unfolding opening walk move_at front
unopened_nothing ks = refl
