-- The walk of any reader, from a place on: what one record makes of it.
-- Assumes nothing.
use Prim.Native.Nat.{ℕ, zero, suc, ◌+◌, ◌-◌, ◌<◌}
use mathlib.Core.Path.{◌≡◌, refl, sym, ap, ◌∙◌}
use mathlib.Core.Bool.{Bool, true, false}
use mathlib.Core.List.{List, []}
use native.Mathlib.Omega.{arith}
use lib.ListN.{length, get_or, drop, length-drop, drop_of_length-le}
use lib.Seq.{drop-drop}
use lib.Dec.{ltb}
use borrow.Author.Tests.{ltb-true, ltb-false}
use Rattle.rules.specs.Record.{front, record_length}
use Rattle.rules.specs.Walk.{◌at◌, Move, Move.go, Move.no, Move.done, Reading, Reading.stopped, Reading.closed, Reader, move_at, past, walk, reading}

-- the walk from here, in this state, reads what was to be read
pub record Walking {S M X : Type 0} (r : Reader S M X) (s : List ℕ) (out : Reading M X) (p : ℕ) (t : S) : Type 0 where
  pub fuel : ℕ
  pub enough : length s - p < fuel
  pub from : walk r fuel (drop p s) p t ≡ out

module _ {S M X : Type 0} (r : Reader S M X) (s : List ℕ) (t : S) where
  pub walks_first : (p : ℕ) → Walking r s (reading r (drop p s) p t) p t
  walks_first p = record { fuel = suc (length (drop p s)); enough = simp length-drop (omega arith); from = refl }

  module _ (p : ℕ) where
    -- a record that does anything but end the bytes lies within them
    within : (x : Move S M X) → move_at r t (drop p s) ≡ x → (x ≡ no r.ends → ⊥) → p < length s
    unfolding move_at front
    within x e n = go (ltb p (length s)) refl
      where
        go : (b : Bool) → ltb p (length s) ≡ b → p < length s
        go true q = ltb-true _ _ q
        go false q =
            let z : drop p s ≡ [] = drop_of_length-le s (ltb-false _ _ q) in
            absurd (n (sym e ∙ rw z))

    pub within_go : (u : S) → move_at r t (drop p s) ≡ go u → p < length s
    within_go u e = within (go u) e (λ f. let z : ◌≡◌ {A = ℕ} 0 1 = cc in omega arith)

    pub within_done : (x : X) → move_at r t (drop p s) ≡ done x → p < length s
    within_done x e = within (done x) e (λ f. let z : ◌≡◌ {A = ℕ} 0 1 = cc in omega arith)

    pub further : (next : ℕ) → p < length s → next ≡ p + record_length (get_or (drop p s) 0 0) → length s - next < length s - p
    unfolding record_length
    further next h e = omega arith

    module _ (out : Reading M X) (w : Walking r s out p t) where
      pub walks_no : (n : ℕ) → move_at r t (drop p s) ≡ no n → out ≡ stopped (n at p)
      unfolding walk
      walks_no n e = go w.fuel w.enough w.from
        where
          go : (k : ℕ) → length s - p < k → walk r k (drop p s) p t ≡ out → out ≡ stopped (n at p)
          go zero h f = absurd (omega arith)
          go (suc k) h f = sym f ∙ rw (e, walk)

      pub walks_done : (x : X) → move_at r t (drop p s) ≡ done x → out ≡ closed p x
      unfolding walk
      walks_done x e = go w.fuel w.enough w.from
        where
          go : (k : ℕ) → length s - p < k → walk r k (drop p s) p t ≡ out → out ≡ closed p x
          go zero h f = absurd (omega arith)
          go (suc k) h f = sym f ∙ rw (e, walk)

      pub walks_go : (u : S) (next : ℕ) → move_at r t (drop p s) ≡ go u → next ≡ p + record_length (get_or (drop p s) 0 0) → Walking r s out next u
      unfolding walk past
      walks_go u next e q = turn w.fuel w.enough w.from
        where
          turn : (k : ℕ) → length s - p < k → walk r k (drop p s) p t ≡ out → Walking r s out next u
          turn zero h f = absurd (omega arith)
          turn (suc k) h f =
              let d : past (drop p s) ≡ drop next s = drop-drop (record_length (get_or (drop p s) 0 0)) p s ∙ ap (λ (x : ℕ). drop x s) (sym q) in
              let g : walk r (suc k) (drop p s) p t ≡ walk r k (past (drop p s)) (p + record_length (get_or (drop p s) 0 0)) u = rw (e, walk) in
              let v = further next (within_go u e) q in
              record { fuel = k; enough = omega arith; from = rw (← d, q) (sym g ∙ f) }
