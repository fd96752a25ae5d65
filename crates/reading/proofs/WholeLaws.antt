-- A reading that ends in a closing record arrives there with all that its moves keep.
-- Assumes nothing.
use Prim.Native.Nat.{ℕ, zero, suc, ◌+◌, ◌≤◌, ◌<◌}
use mathlib.Core.Path.{◌≡◌, refl, sym, ap, ◌∙◌}
use mathlib.Core.List.{List, [], ◌∷◌, ◌++◌, append_assoc, append-nil}
use native.Mathlib.Omega.{arith}
use lib.ListN.{length, get_or, take, drop, length-append, take-append-drop}
use lib.Seq.{get_or-drop, length-take-le, append_snoc}
use Rattle.rules.specs.Record.{record_length}
use Rattle.rules.specs.Walk.{Move, Move.go, Move.mark, Move.no, Move.done, Reading.closed, Reader, move_at, past, walk, reading}
use Rattle.rules.specs.WriteSheet.{Bytes}
use Rattle.reading.specs.Readings.{marks, final}
use Rattle.reading.proofs.FrontLaws.{Whole, record_some}
use Rattle.reading.proofs.WalkLaws.{Took, move_took, took_less, walk_go, walk_mark, walk_no, walk_done}

-- the record at the front, and the bytes past it
abbrev pub record_at : List ℕ → List ℕ
record_at bs = take (record_length (get_or bs 0 0)) bs

pub record_past : (bs : List ℕ) → record_at bs ++ past bs ≡ bs
unfolding past
record_past bs = take-append-drop (record_length (get_or bs 0 0)) bs

-- the last record, which has no body
pub last_record : (k : ℕ) (bs : List ℕ) → Whole k bs → length bs ≤ 1 → bs ≡ k ∷ []
last_record k [] w h = absurd (omega (arith, w.inside, record_some k))
last_record k (b ∷ []) w h = ap (λ (x : ℕ). x ∷ []) w.first
last_record k (b ∷ c ∷ bs) w h = absurd (omega arith)

pub bytes_drop : (n : ℕ) (bs : List ℕ) → Bytes bs → Bytes (drop n bs)
bytes_drop n bs h k = rw get_or-drop (h (n + k))

pub bytes_past : (bs : List ℕ) → Bytes bs → Bytes (past bs)
unfolding past
bytes_past bs h = bytes_drop (record_length (get_or bs 0 0)) bs h

-- where a whole reading arrives: a state that the bytes passed have led to, and a closing record at the front of the bytes left
pub record Arrived {S M X : Type 0} (r : Reader S M X) (Inv : S → List M → List ℕ → Type 0)
    (ms : List M) (ws bs : List ℕ) (p q : ℕ) (x : X) : Type 0 where
  pub state : S
  pub passed : List ℕ
  pub left : List ℕ
  pub split : bs ≡ passed ++ left
  pub place : q ≡ p + length passed
  pub bytes : Bytes left
  pub held : Inv state ms (ws ++ passed)
  pub closes : Took r state left (done x)

-- what go and mark keep holds at the closing record
module _ {S M X : Type 0} (r : Reader S M X) (Inv : S → List M → List ℕ → Type 0)
    (goes : (t u : S) (ms : List M) (ws bs : List ℕ) → Bytes bs → Inv t ms ws → Took r t bs (go u) → Inv u ms (ws ++ record_at bs))
    (marking : (t u : S) (m : M) (ms : List M) (ws bs : List ℕ) → Bytes bs → Inv t ms ws → Took r t bs (mark m u)
    → Inv u (ms ++ (m ∷ [])) (ws ++ record_at bs)) where
  -- one record further on
  further : (t : S) (y : Move S M X) (ms : List M) (ws bs : List ℕ) (p q : ℕ) (x : X) → Took r t bs y
      → Arrived r Inv ms (ws ++ record_at bs) (past bs) (p + record_length (get_or bs 0 0)) q x → Arrived r Inv ms ws bs p q x
  further t y ms ws bs p q x k a =
      let n : length (record_at bs) ≡ record_length (get_or bs 0 0) = length-take-le (record_length (get_or bs 0 0)) bs k.whole_kind.inside in
      record {
        state = a.state;
        passed = record_at bs ++ a.passed;
        left = a.left;
        split = sym (record_past bs) ∙ ap (λ (z : List ℕ). record_at bs ++ z) a.split ∙ sym (append_assoc (record_at bs) a.passed a.left);
        place = rw (length-append (record_at bs) a.passed, n) (let e = a.place in omega arith);
        bytes = a.bytes;
        held = rw append_assoc at a.held;
        closes = a.closes;
      }

  pub walk_arrives : (n : ℕ) (t : S) (ms : List M) (ws bs : List ℕ) (p q : ℕ) (x : X) → length bs < n → Bytes bs → Inv t ms ws
      → final (walk r n bs p t) ≡ closed q x → Arrived r Inv (ms ++ marks (walk r n bs p t)) ws bs p q x
  unfolding final marks
  walk_arrives zero t ms ws bs p q x h b i e = absurd (omega arith)
  walk_arrives (suc n) t ms ws bs p q x h b i e =
      by (move_at r t bs) refl
      (λ u ns vs j f. walk_arrives n u ns vs (past bs) (p + record_length (get_or bs 0 0)) q x (omega arith) (bytes_past bs b) f)
    where
      by : (y : Move S M X) → move_at r t bs ≡ y
          → ((u : S) (ns : List M) (vs : List ℕ) → length (past bs) < length bs → Inv u ns vs
          → final (walk r n (past bs) (p + record_length (get_or bs 0 0)) u) ≡ closed q x
          → Arrived r Inv (ns ++ marks (walk r n (past bs) (p + record_length (get_or bs 0 0)) u)) vs (past bs) (p + record_length (get_or bs 0 0)) q x)
          → Arrived r Inv (ms ++ marks (walk r (suc n) bs p t)) ws bs p q x
      by (go u) f ih =
          let k = move_took r t bs (go u) f tt in
          let s = walk_go r t bs n p u f in
          rw s (further t (go u) _ ws bs p q x k
          (ih u ms (ws ++ record_at bs) (took_less r t bs (go u) k) (goes t u ms ws bs b i k) (rw s at e)))
      by (mark m u) f ih =
          let k = move_took r t bs (mark m u) f tt in
          let s = walk_mark r t bs n p m u f in
          rw s (further t (mark m u) _ ws bs p q x k
          (rw append_snoc at
          (ih u (ms ++ (m ∷ [])) (ws ++ record_at bs) (took_less r t bs (mark m u) k) (marking t u m ms ws bs b i k) (rw s at e))))
      by (no c) f ih = let z : ◌≡◌ {A = ℕ} 0 1 = cc (walk_no r t bs n p c f) in absurd (omega arith)
      by (done y) f ih =
          let s = walk_done r t bs n p y f in
          let e₁ : p ≡ q = cc in
          let e₂ : y ≡ x = cc in
          rw (s, append-nil) (record {
            state = t;
            passed = [];
            left = bs;
            split = refl;
            place = omega arith;
            bytes = b;
            held = rw append-nil i;
            closes = rw e₂ at (move_took r t bs (done y) f tt);
          })

  -- the same for a reading
  pub arrives : (t : S) (ms : List M) (ws bs : List ℕ) (p q : ℕ) (x : X) → Bytes bs → Inv t ms ws
      → final (reading r bs p t) ≡ closed q x → Arrived r Inv (ms ++ marks (reading r bs p t)) ws bs p q x
  arrives t ms ws bs p q x b i e = walk_arrives (suc (length bs)) t ms ws bs p q x (omega arith) b i e
