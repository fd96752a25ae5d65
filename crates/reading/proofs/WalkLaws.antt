-- The walk over records: what a move says of the record at the front, one step at a time, and that more fuel never changes a reading.
-- Assumes nothing.
use Prim.Native.Nat.{ℕ, zero, suc, ◌+◌, ◌≤◌, ◌<◌}
use mathlib.Core.Path.{◌≡◌, refl, sym, ap, ◌∙◌}
use mathlib.Core.Bool.{Bool, true, false}
use mathlib.Core.List.{List}
use native.Mathlib.Nat.{add-zero}
use native.Mathlib.Omega.{arith}
use lib.ListN.{length, get_or, drop, length-drop}
use lib.Seq.{get_or-drop, drop-drop}
use Rattle.base.specs.Pick.{pick}
use Rattle.rules.specs.Record.{Front, Front.nothing, Front.unknown, Front.cut, Front.whole, front, record_length, one_of}
use Rattle.rules.specs.Walk.{◌at◌, Move, Move.go, Move.mark, Move.no, Move.done, Reading.stopped, Reading.marked, Reading.closed, Reader, move_at, past, walk, reading}
use Rattle.reading.proofs.FrontLaws.{Whole, whole_front, front_whole, record_some}

-- a move that is no refusal
abbrev pub Moves : {S M X : Type 0} → Move S M X → Type 0
Moves (go u) = Unit {0}
Moves (mark m u) = Unit {0}
Moves (no n) = ⊥
Moves (done x) = Unit {0}

-- a test that such a move has passed
module _ {S M X : Type 0} (z : Move S M X) (h : Moves z) where
  pub went : (x : Bool) (y : Move S M X) (n : ℕ) → pick x y (no n) ≡ z → (x ≡ true) × (y ≡ z)
  went true y n e = (refl, e)
  went false y n e = absurd (rw (← e) at h)

  pub stayed : (x : Bool) (n : ℕ) (y : Move S M X) → pick x (no n) y ≡ z → (x ≡ false) × (y ≡ z)
  stayed true n y e = absurd (rw (← e) at h)
  stayed false n y e = (refl, e)

-- what such a move says: the record is whole and of a kind that is allowed, and the move is the reader's own
pub record Took {S M X : Type 0} (r : Reader S M X) (t : S) (bs : List ℕ) (m : Move S M X) : Type 0 where
  pub whole_kind : Whole (get_or bs 0 0) bs
  pub allowed_kind : one_of (r.allowed t) (get_or bs 0 0) ≡ true
  pub moved : r.move t (get_or bs 0 0) bs ≡ m

module _ {S M X : Type 0} (r : Reader S M X) (t : S) (bs : List ℕ) where
  pub move_took : (m : Move S M X) → move_at r t bs ≡ m → Moves m → Took r t bs m
  unfolding move_at
  move_took m e h = by (front bs) refl e
    where
      stuck : (n : ℕ) → no n ≡ m → Took r t bs m
      stuck n f = absurd (rw (← f) at h)

      by : (f : Front) → front bs ≡ f
          → (elim f as (λ (x : Front). Move S M X) [
            | nothing ↦ no r.ends
            | unknown ↦ no r.strange
            | cut k ↦ pick (one_of (r.allowed t) k) (no r.ends) (no r.strange)
            | whole k ↦ pick (one_of (r.allowed t) k) (r.move t k bs) (no r.strange)
          ]) ≡ m
          → Took r t bs m
      by nothing ef f = stuck r.ends f
      by unknown ef f = stuck r.strange f
      by (cut k) ef f = on (one_of (r.allowed t) k) f
        where
          on : (x : Bool) → pick x (no r.ends) (no r.strange) ≡ m → Took r t bs m
          on true g = stuck r.ends g
          on false g = stuck r.strange g
      by (whole k) ef f = on (one_of (r.allowed t) k) refl f
        where
          on : (x : Bool) → one_of (r.allowed t) k ≡ x → pick x (r.move t k bs) (no r.strange) ≡ m → Took r t bs m
          on true a g =
              let w : Whole k bs = whole_front k bs ef in
              let e₀ : get_or bs 0 0 ≡ k = w.first in
              record { whole_kind = rw e₀ w; allowed_kind = rw e₀ a; moved = rw e₀ g }
          on false a g = stuck r.strange g

  -- and the other way round
  pub took_move : (m : Move S M X) → Took r t bs m → move_at r t bs ≡ m
  unfolding move_at
  took_move m k = rw (front_whole (get_or bs 0 0) bs k.whole_kind, move_at, k.allowed_kind) k.moved

  -- a record that was passed leaves fewer bytes
  pub took_less : (m : Move S M X) → Took r t bs m → length (past bs) < length bs
  unfolding past
  took_less m k =
      let h : record_length (get_or bs 0 0) ≤ length bs = k.whole_kind.inside in
      rw length-drop (omega (arith, record_some (get_or bs 0 0)))

  -- one step of the walk, by the move
  module _ (n p : ℕ) where
    pub walk_go : (u : S) → move_at r t bs ≡ go u → walk r (suc n) bs p t ≡ walk r n (past bs) (p + record_length (get_or bs 0 0)) u
    unfolding walk
    walk_go u e = rw (e, walk)

    pub walk_mark : (m : M) (u : S) → move_at r t bs ≡ mark m u
        → walk r (suc n) bs p t ≡ marked p m (walk r n (past bs) (p + record_length (get_or bs 0 0)) u)
    unfolding walk
    walk_mark m u e = rw (e, walk)

    pub walk_no : (k : ℕ) → move_at r t bs ≡ no k → walk r (suc n) bs p t ≡ stopped (k at p)
    unfolding walk
    walk_no k e = rw (e, walk)

    pub walk_done : (x : X) → move_at r t bs ≡ done x → walk r (suc n) bs p t ≡ closed p x
    unfolding walk
    walk_done x e = rw (e, walk)

-- each record takes a byte, so fuel past the bytes never changes a reading
pub walk_fuel : {S M X : Type 0} (r : Reader S M X) (n m : ℕ) (bs : List ℕ) (p : ℕ) (t : S) → length bs < n → length bs < m
    → walk r n bs p t ≡ walk r m bs p t
walk_fuel r zero m bs p t h i = absurd (omega arith)
walk_fuel r (suc n) zero bs p t h i = absurd (omega arith)
walk_fuel {S} {M} {X} r (suc n) (suc m) bs p t h i = by (move_at r t bs) refl (λ q u j. walk_fuel r n m (past bs) q u (omega arith) (omega arith))
  where
    by : (x : Move S M X) → move_at r t bs ≡ x
        → ((q : ℕ) (u : S) → length (past bs) < length bs → walk r n (past bs) q u ≡ walk r m (past bs) q u)
        → walk r (suc n) bs p t ≡ walk r (suc m) bs p t
    by (go u) e ih =
        walk_go r t bs n p u e
        ∙ ih (p + record_length (get_or bs 0 0)) u (took_less r t bs (go u) (move_took r t bs (go u) e tt))
        ∙ sym (walk_go r t bs m p u e)
    by (mark k u) e ih =
        walk_mark r t bs n p k u e
        ∙ ap (marked p k) (ih (p + record_length (get_or bs 0 0)) u (took_less r t bs (mark k u) (move_took r t bs (mark k u) e tt)))
        ∙ sym (walk_mark r t bs m p k u e)
    by (no k) e ih = walk_no r t bs n p k e ∙ sym (walk_no r t bs m p k e)
    by (done x) e ih = walk_done r t bs n p x e ∙ sym (walk_done r t bs m p x e)

-- the steps of a reading, which has just enough fuel
module _ {S M X : Type 0} (r : Reader S M X) (t : S) (bs : List ℕ) (p : ℕ) where
  pub reading_go : (u : S) → move_at r t bs ≡ go u → reading r bs p t ≡ reading r (past bs) (p + record_length (get_or bs 0 0)) u
  reading_go u e =
      walk_go r t bs (length bs) p u e
      ∙ walk_fuel r (length bs) (suc (length (past bs))) (past bs) (p + record_length (get_or bs 0 0)) u
      (took_less r t bs (go u) (move_took r t bs (go u) e tt)) (omega arith)

  pub reading_mark : (m : M) (u : S) → move_at r t bs ≡ mark m u
      → reading r bs p t ≡ marked p m (reading r (past bs) (p + record_length (get_or bs 0 0)) u)
  reading_mark m u e =
      walk_mark r t bs (length bs) p m u e
      ∙ ap (marked p m)
      (walk_fuel r (length bs) (suc (length (past bs))) (past bs) (p + record_length (get_or bs 0 0)) u
      (took_less r t bs (mark m u) (move_took r t bs (mark m u) e tt)) (omega arith))

  pub reading_no : (k : ℕ) → move_at r t bs ≡ no k → reading r bs p t ≡ stopped (k at p)
  reading_no k e = walk_no r t bs (length bs) p k e

  pub reading_done : (x : X) → move_at r t bs ≡ done x → reading r bs p t ≡ closed p x
  reading_done x e = walk_done r t bs (length bs) p x e

-- the same at a place of longer bytes: the next place is past the record
module _ (bs : List ℕ) (p : ℕ) where
  pub kind_at : get_or (drop p bs) 0 0 ≡ get_or bs p 0
  kind_at = get_or-drop p bs 0 0 ∙ ap (λ (i : ℕ). get_or bs i 0) (add-zero p)

  pub past_at : past (drop p bs) ≡ drop (p + record_length (get_or bs p 0)) bs
  unfolding past
  past_at = rw kind_at (drop-drop (record_length (get_or bs p 0)) p bs)

  module _ {S M X : Type 0} (r : Reader S M X) (t : S) where
    pub reading_go_at : (u : S) → move_at r t (drop p bs) ≡ go u
        → reading r (drop p bs) p t ≡ reading r (drop (p + record_length (get_or bs p 0)) bs) (p + record_length (get_or bs p 0)) u
    reading_go_at u e = reading_go r t (drop p bs) p u e ∙ rw (kind_at, past_at)

    pub reading_mark_at : (m : M) (u : S) → move_at r t (drop p bs) ≡ mark m u
        → reading r (drop p bs) p t ≡ marked p m (reading r (drop (p + record_length (get_or bs p 0)) bs) (p + record_length (get_or bs p 0)) u)
    reading_mark_at m u e = reading_mark r t (drop p bs) p m u e ∙ rw (kind_at, past_at)
