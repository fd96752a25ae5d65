-- The closing record of a reading stands inside its bytes.
-- Assumes nothing.
use Prim.Native.Nat.{ℕ, zero, suc, ◌+◌, ◌≤◌, ◌<◌}
use mathlib.Core.Path.{◌≡◌, refl}
use mathlib.Core.Bool.{false}
use mathlib.Core.List.{List}
use native.Mathlib.Omega.{arith}
use lib.ListN.{length, get_or, drop, length-drop}
use lib.Dec.{ltb}
use borrow.Author.Tests.{ltb-false}
use Rattle.rules.specs.Record.{record_length}
use Rattle.rules.specs.Walk.{Move, Move.go, Move.mark, Move.no, Move.done, Reader, Reading.closed, move_at, past, walk, reading}
use Rattle.reading.specs.Readings.{final}
use Rattle.reading.proofs.FrontLaws.{record_some}
use Rattle.reading.proofs.WalkLaws.{Took, move_took, walk_go, walk_mark, walk_no, walk_done}

closes_inside : {S M X : Type 0} (r : Reader S M X) (n : ℕ) (bs : List ℕ) (p : ℕ) (t : S) (q : ℕ) (x : X)
    → final (walk r n bs p t) ≡ closed q x → (p ≤ q) × (q < p + length bs)
unfolding final walk past
closes_inside r zero bs p t q x e = let z : ◌≡◌ {A = ℕ} 0 1 = cc in absurd (omega arith)
closes_inside {S} {M} {X} r (suc n) bs p t q x e = by (move_at r t bs) refl (λ u. closes_inside r n (past bs) (p + record_length (get_or bs 0 0)) u q x)
  where
    wider : (y : Move S M X) → Took r t bs y → (p + record_length (get_or bs 0 0) ≤ q) × (q < p + record_length (get_or bs 0 0) + length (past bs))
        → (p ≤ q) × (q < p + length bs)
    wider y k h =
        let a = length-drop (record_length (get_or bs 0 0)) bs in
        let b = k.whole_kind.inside in
        (omega arith, omega arith)

    by : (y : Move S M X) → move_at r t bs ≡ y
        → ((u : S) → final (walk r n (past bs) (p + record_length (get_or bs 0 0)) u) ≡ closed q x
        → (p + record_length (get_or bs 0 0) ≤ q) × (q < p + record_length (get_or bs 0 0) + length (past bs)))
        → (p ≤ q) × (q < p + length bs)
    by (go u) f ih = wider (go u) (move_took r t bs (go u) f tt) (ih u (rw (walk_go r t bs n p u f) at e))
    by (mark m u) f ih = wider (mark m u) (move_took r t bs (mark m u) f tt) (ih u (rw (walk_mark r t bs n p m u f) at e))
    by (no k) f ih = let z : ◌≡◌ {A = ℕ} 0 1 = cc (walk_no r t bs n p k f) in absurd (omega arith)
    by (done y) f ih =
        let s = walk_done r t bs n p y f in
        let a : p ≡ q = cc in
        let b = (move_took r t bs (done y) f tt).whole_kind.inside in
        let c = record_some (get_or bs 0 0) in
        (omega arith, omega arith)

-- where no byte follows it, it is the last byte
pub closes_last : {S M X : Type 0} (r : Reader S M X) (bs : List ℕ) (p : ℕ) (t : S) (q : ℕ) (x : X)
    → final (reading r (drop p bs) p t) ≡ closed q x → ltb (q + 1) (length bs) ≡ false → q + 1 ≡ length bs
closes_last r bs p t q x e h =
    let s = closes_inside r (suc (length (drop p bs))) (drop p bs) p t q x e in
    let d = length-drop p bs in
    let k = ltb-false (q + 1) (length bs) h in
    omega arith
