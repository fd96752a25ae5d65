-- Every prefix of a whole reading's bytes reads as the whole did, or is cut short with the reader's own refusal for bytes that end.
-- Assumes nothing.
use Prim.Native.Nat.{ℕ, zero, suc, ◌+◌, ◌-◌, ◌≤◌, ◌<◌}
use mathlib.Core.Path.{◌≡◌, refl, sym, ap, ◌∙◌}
use mathlib.Core.Bool.{Bool, true, false}
use mathlib.Core.List.{List, ◌∷◌}
use mathlib.Core.Logic.{◌⊎◌, inl, inr, ⊎_elim}
use native.Mathlib.Omega.{arith}
use lib.ListN.{length, get_or, take, length-take}
use lib.Dec.{leb}
use lib.Seq.{get_or-take}
use borrow.Author.Tests.{leb-true, leb-false}
use Rattle.rules.specs.Record.{Front.nothing, Front.cut, front, record_length}
use Rattle.rules.specs.Walk.{Move, Move.go, Move.mark, Move.no, Move.done, Reading, Reading.marked, Reading.closed, Reader, move_at, past, walk, reading}
use Rattle.reading.specs.Readings.{marks, final, CutShort}
use Rattle.reading.proofs.FrontLaws.{front_within, front_short, past_within, record_some}
use Rattle.reading.proofs.WalkLaws.{Took, move_took, took_move, took_less, walk_go, walk_mark, walk_no, walk_done, walk_fuel}

-- two byte strings that have the same first n bytes
abbrev pub Alike : ℕ → List ℕ → List ℕ → Type 0
Alike n bs cs = (i : ℕ) → i < n → get_or bs i 0 ≡ get_or cs i 0

-- a reader whose moves look at the record's own bytes alone
abbrev pub Local : {S M X : Type 0} → Reader S M X → Type 0
Local {S} r = (t : S) (k : ℕ) (bs cs : List ℕ) → Alike (record_length k) bs cs → r.move t k bs ≡ r.move t k cs

-- a prefix reads as the whole, closing record and all, or is cut short
abbrev pub Clip : {M X : Type 0} → ℕ → ℕ → ℕ → Reading M X → Reading M X → Type 0
Clip n q end w w' = ((q < end) × (w' ≡ w)) ⊎ CutShort n w w'

module _ {S M X : Type 0} (r : Reader S M X) (near : Local r) (t : S) (bs : List ℕ) (m : ℕ) (y : Move S M X) (k : Took r t bs y) where
  -- the record is in the prefix: the same move
  pub move_within : record_length (get_or bs 0 0) ≤ m → move_at r t (take m bs) ≡ y
  move_within h =
      let e₀ : get_or (take m bs) 0 0 ≡ get_or bs 0 0 = get_or-take m bs 0 0 (omega (arith, record_some (get_or bs 0 0))) in
      took_move r t (take m bs) y (record {
        whole_kind = rw e₀ (front_within (get_or bs 0 0) bs m k.whole_kind h);
        allowed_kind = rw e₀ k.allowed_kind;
        moved = rw e₀ (near t (get_or bs 0 0) (take m bs) bs (λ i j. get_or-take m bs i 0 (omega arith)) ∙ k.moved);
      })

  -- it is not: the bytes end
  pub move_short : m < record_length (get_or bs 0 0) → move_at r t (take m bs) ≡ no r.ends
  unfolding move_at
  move_short h =
      ⊎_elim (λ (e : front (take m bs) ≡ nothing). rw (e, move_at)) (λ (e : front (take m bs) ≡ cut (get_or bs 0 0)). rw (e, move_at, k.allowed_kind))
      (front_short (get_or bs 0 0) bs m k.whole_kind h)

  -- the rest of the prefix, and its place
  pub place_within : record_length (get_or bs 0 0) ≤ m → record_length (get_or (take m bs) 0 0) ≡ record_length (get_or bs 0 0)
  place_within h = ap record_length (get_or-take m bs 0 0 (omega (arith, record_some (get_or bs 0 0))))

  pub rest_within : record_length (get_or bs 0 0) ≤ m → past (take m bs) ≡ take (m - record_length (get_or bs 0 0)) (past bs)
  rest_within h = past_within (get_or bs 0 0) bs m k.whole_kind h

module _ {S M X : Type 0} (r : Reader S M X) (near : Local r) (q : ℕ) (x : X) where
  -- the bytes end at this record
  stops : (n m : ℕ) (t : S) (bs : List ℕ) (p : ℕ) (w : Reading M X) → move_at r t (take m bs) ≡ no r.ends
      → CutShort r.ends w (walk r (suc n) (take m bs) p t)
  unfolding final marks
  stops n m t bs p w e =
      let s = walk_no r t (take m bs) n p r.ends e in
      record { place = p; refused = rw s; others = marks w; same = rw s }

  later : (n p : ℕ) (m : M) (w w' : Reading M X) → CutShort n w w' → CutShort n (marked p m w) (marked p m w')
  unfolding final marks
  later n p m w w' c = record { place = c.place; refused = c.refused; others = c.others; same = ap (λ (ms : List M). m ∷ ms) c.same }

  clip_later : (n end p : ℕ) (m : M) (w w' : Reading M X) → Clip n q end w w' → Clip n q end (marked p m w) (marked p m w')
  clip_later n end p m w w' (inl c) = inl (c.0, ap (marked p m) c.1)
  clip_later n end p m w w' (inr c) = inr (later n p m w w' c)

  pub walk_clip : (n m : ℕ) (t : S) (bs : List ℕ) (p : ℕ) → length bs < n → final (walk r n bs p t) ≡ closed q x
      → Clip r.ends q (p + m) (walk r n bs p t) (walk r n (take m bs) p t)
  unfolding final marks
  walk_clip zero m t bs p h e = absurd (omega arith)
  walk_clip (suc n) m t bs p h e =
      by (move_at r t bs) refl (leb (record_length (get_or bs 0 0)) m) refl
      (λ u j. walk_clip n (m - record_length (get_or bs 0 0)) u (past bs) (p + record_length (get_or bs 0 0)) (omega arith))
    where
      within : leb (record_length (get_or bs 0 0)) m ≡ true → record_length (get_or bs 0 0) ≤ m
      within g = leb-true (record_length (get_or bs 0 0)) m g

      outside : (y : Move S M X) → Took r t bs y → leb (record_length (get_or bs 0 0)) m ≡ false
          → Clip r.ends q (p + m) (walk r (suc n) bs p t) (walk r (suc n) (take m bs) p t)
      outside y k g = inr (stops n m t bs p (walk r (suc n) bs p t) (move_short r near t bs m y k (leb-false (record_length (get_or bs 0 0)) m g)))

      by : (y : Move S M X) → move_at r t bs ≡ y → (c : Bool) → leb (record_length (get_or bs 0 0)) m ≡ c
          → ((u : S) → length (past bs) < length bs → final (walk r n (past bs) (p + record_length (get_or bs 0 0)) u) ≡ closed q x
          → Clip r.ends q (p + record_length (get_or bs 0 0) + (m - record_length (get_or bs 0 0)))
          (walk r n (past bs) (p + record_length (get_or bs 0 0)) u)
          (walk r n (take (m - record_length (get_or bs 0 0)) (past bs)) (p + record_length (get_or bs 0 0)) u))
          → Clip r.ends q (p + m) (walk r (suc n) bs p t) (walk r (suc n) (take m bs) p t)
      by (go u) f true g ih =
          let k = move_took r t bs (go u) f tt in
          let i = within g in
          let s = walk_go r t bs n p u f in
          let s' = walk_go r t (take m bs) n p u (move_within r near t bs m (go u) k i) in
          let a : p + record_length (get_or bs 0 0) + (m - record_length (get_or bs 0 0)) ≡ p + m = omega arith in
          rw (s, s', place_within r near t bs m (go u) k i, rest_within r near t bs m (go u) k i, ← a)
          (ih u (took_less r t bs (go u) k) (rw s at e))
      by (go u) f false g ih = outside (go u) (move_took r t bs (go u) f tt) g
      by (mark o u) f true g ih =
          let k = move_took r t bs (mark o u) f tt in
          let i = within g in
          let s = walk_mark r t bs n p o u f in
          let s' = walk_mark r t (take m bs) n p o u (move_within r near t bs m (mark o u) k i) in
          let a : p + record_length (get_or bs 0 0) + (m - record_length (get_or bs 0 0)) ≡ p + m = omega arith in
          rw (s, s', place_within r near t bs m (mark o u) k i, rest_within r near t bs m (mark o u) k i, ← a)
          (clip_later r.ends _ p o _ _ (ih u (took_less r t bs (mark o u) k) (rw s at e)))
      by (mark o u) f false g ih = outside (mark o u) (move_took r t bs (mark o u) f tt) g
      by (no k) f c g ih = let z : ◌≡◌ {A = ℕ} 0 1 = cc (walk_no r t bs n p k f) in absurd (omega arith)
      by (done y) f true g ih =
          let k = move_took r t bs (done y) f tt in
          let s = walk_done r t bs n p y f in
          let s' = walk_done r t (take m bs) n p y (move_within r near t bs m (done y) k (within g)) in
          let a : p ≡ q = cc in
          let b : 1 ≤ record_length (get_or bs 0 0) = record_some (get_or bs 0 0) in
          inl (omega (arith, within g), s' ∙ sym s)
      by (done y) f false g ih = outside (done y) (move_took r t bs (done y) f tt) g

  -- the same for readings
  pub clip : (m : ℕ) (t : S) (bs : List ℕ) (p : ℕ) → final (reading r bs p t) ≡ closed q x
      → Clip r.ends q (p + m) (reading r bs p t) (reading r (take m bs) p t)
  clip m t bs p e =
      rw (walk_fuel r (suc (length (take m bs))) (suc (length bs)) (take m bs) p t (omega arith) (rw length-take (omega arith)))
      (walk_clip (suc (length bs)) m t bs p (omega arith) e)
