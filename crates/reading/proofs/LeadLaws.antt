-- Written bytes that lead a reader from one state to another, whatever follows them, leaving marks on the way.
-- Assumes nothing.
use Prim.Native.Nat.{ℕ, ◌+◌}
use mathlib.Core.Path.{◌≡◌, refl, sym, ap, ◌∙◌}
use mathlib.Core.Bool.{true}
use mathlib.Core.List.{List, [], ◌∷◌, ◌++◌, append_assoc}
use native.Mathlib.Omega.{arith}
use lib.ListN.{length, length-append}
use Rattle.rules.specs.Record.{one_of}
use Rattle.rules.specs.Walk.{Move, Move.go, Move.mark, Move.done, Reading, Reading.stopped, Reading.marked, Reading.closed, Reader, move_at, reading}
use Rattle.reading.specs.Readings.{marks, final}
use Rattle.reading.proofs.FrontLaws.{Written, written_length, written_front, written_past, whole_front}
use Rattle.reading.proofs.WalkLaws.{took_move, reading_go, reading_mark, reading_done}

-- a reading with no marks is what it ends in
pub unmarked : {X : Type 0} (w : Reading ⊥ X) → w ≡ final w
unfolding final
unmarked (stopped y) = refl
unmarked (marked q m w) = absurd m
unmarked (closed q y) = refl

-- w is w' with the marks ms in front
pub record Before {M X : Type 0} (ms : List M) (w w' : Reading M X) : Type 0 where
  pub marked_first : marks w ≡ ms ++ marks w'
  pub final_same : final w ≡ final w'

-- the bytes ws lead from the state t to the state u
abbrev pub Leads : {S M X : Type 0} → Reader S M X → S → List ℕ → List M → S → Type 0
Leads r t ws ms u = (rest : List ℕ) (p : ℕ) → Before ms (reading r (ws ++ rest) p t) (reading r rest (p + length ws) u)

module _ {S M X : Type 0} (r : Reader S M X) where
  pub leads_none : (t : S) → Leads r t [] [] t
  leads_none t rest p = let e : p + 0 ≡ p = omega arith in rw e (record { marked_first = refl; final_same = refl })

  pub leads_then : (t u v : S) (ws vs : List ℕ) (ms ns : List M) → Leads r t ws ms u → Leads r u vs ns v → Leads r t (ws ++ vs) (ms ++ ns) v
  leads_then t u v ws vs ms ns a b rest p =
      let x = a (vs ++ rest) p in
      let y = b rest (p + length ws) in
      let e : p + length (ws ++ vs) ≡ p + length ws + length vs = rw length-append (omega arith) in
      rw (append_assoc ws vs rest, e) (record {
        marked_first = x.marked_first ∙ ap (λ (z : List M). ms ++ z) y.marked_first ∙ sym (append_assoc ms ns _);
        final_same = x.final_same ∙ y.final_same;
      })

  -- a written record of a kind that is allowed makes the reader's own move
  module _ (t : S) (k : ℕ) (body : List ℕ) (w : Written k body) where
    pub move_written : (y : Move S M X) (rest : List ℕ) → one_of (r.allowed t) k ≡ true → r.move t k ((k ∷ body) ++ rest) ≡ y
        → move_at r t ((k ∷ body) ++ rest) ≡ y
    move_written y rest a m =
        took_move r t ((k ∷ body) ++ rest) y
        (record { whole_kind = whole_front k ((k ∷ body) ++ rest) (written_front k body w rest); allowed_kind = a; moved = m })

    pub leads_go : (u : S) → one_of (r.allowed t) k ≡ true → ((rest : List ℕ) → r.move t k ((k ∷ body) ++ rest) ≡ go u) → Leads r t (k ∷ body) [] u
    leads_go u a m rest p =
        rw (reading_go r t ((k ∷ body) ++ rest) p u (move_written (go u) rest a (m rest)), written_past k body w rest, written_length k body w)
        (record { marked_first = refl; final_same = refl })

    pub leads_mark : (o : M) (u : S) → one_of (r.allowed t) k ≡ true → ((rest : List ℕ) → r.move t k ((k ∷ body) ++ rest) ≡ mark o u)
        → Leads r t (k ∷ body) (o ∷ []) u
    unfolding marks final
    leads_mark o u a m rest p =
        rw (reading_mark r t ((k ∷ body) ++ rest) p o u (move_written (mark o u) rest a (m rest)), written_past k body w rest, written_length k body w)
        (record { marked_first = refl; final_same = refl })

    pub reads_done : (x : X) (rest : List ℕ) (p : ℕ) → one_of (r.allowed t) k ≡ true → r.move t k ((k ∷ body) ++ rest) ≡ done x
        → reading r ((k ∷ body) ++ rest) p t ≡ closed p x
    reads_done x rest p a m = reading_done r t ((k ∷ body) ++ rest) p x (move_written (done x) rest a m)
