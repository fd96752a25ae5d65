-- What stands at the front of bytes: what a whole record says of them, a written record read back, and a record that is cut.
-- Assumes nothing.
use Prim.Native.Nat.{ℕ, zero, suc, ◌-◌, ◌≤◌, ◌<◌}
use mathlib.Core.Path.{◌≡◌, refl, sym, ◌∙◌}
use mathlib.Core.Bool.{Bool, true, false}
use mathlib.Core.List.{List, [], ◌∷◌, ◌++◌}
use mathlib.Core.Logic.{◌⊎◌, inl, inr}
use native.Mathlib.Omega.{arith}
use lib.ListN.{length, get_or, take, drop, length-append, length-take}
use lib.Seq.{take-nil, drop_at, get_or-take}
use lib.Dec.{leb, eqb}
use borrow.Author.Tests.{le-leb, lt-leb, leb-true}
use Rattle.base.specs.Pick.{pick}
use Rattle.rules.specs.Record.{Front.nothing, Front.unknown, Front.cut, Front.whole, front, body_length, record_length}
use Rattle.rules.specs.Walk.{past}

-- what a whole record at the front says of the bytes
pub record Whole (k : ℕ) (bs : List ℕ) : Type 0 where
  pub first : get_or bs 0 0 ≡ k
  pub known : eqb (body_length k) 255 ≡ false
  pub inside : record_length k ≤ length bs

pub whole_front : (k : ℕ) (bs : List ℕ) → front bs ≡ whole k → Whole k bs
unfolding front record_length
whole_front k [] e = let z : ◌≡◌ {A = ℕ} 0 1 = cc in absurd (omega arith)
whole_front k (b ∷ bs) e = go (eqb (body_length b) 255) refl (leb (body_length b) (length bs)) refl e
  where
    go : (x : Bool) → eqb (body_length b) 255 ≡ x → (y : Bool) → leb (body_length b) (length bs) ≡ y
        → pick x unknown (pick y (whole b) (cut b)) ≡ whole k → Whole k (b ∷ bs)
    go true ex y ey f = let z : ◌≡◌ {A = ℕ} 0 1 = cc in absurd (omega arith)
    go false ex false ey f = let z : ◌≡◌ {A = ℕ} 0 1 = cc in absurd (omega arith)
    go false ex true ey f =
        let s : b ≡ k = cc in
        record { first = s; known = rw (← s) ex; inside = rw (← s) (omega (arith, leb-true (body_length b) (length bs) ey)) }

pub front_whole : (k : ℕ) (bs : List ℕ) → Whole k bs → front bs ≡ whole k
unfolding front record_length
front_whole k [] h = absurd (omega (arith, h.inside))
front_whole k (b ∷ bs) h =
    let e : b ≡ k = h.first in
    let i : body_length k ≤ length bs = omega (arith, h.inside) in
    rw (e, h.known, le-leb _ _ i)

pub record_some : (k : ℕ) → 1 ≤ record_length k
unfolding record_length
record_some k = omega arith

-- a record's bytes: its kind, and a body as long as the kind says
pub record Written (k : ℕ) (body : List ℕ) : Type 0 where
  pub known : eqb (body_length k) 255 ≡ false
  pub long : body_length k ≡ length body

module _ (k : ℕ) (body : List ℕ) (w : Written k body) where
  pub written_length : record_length k ≡ length (k ∷ body)
  unfolding record_length
  written_length = omega (arith, w.long)

  module _ (rest : List ℕ) where
    pub written_front : front ((k ∷ body) ++ rest) ≡ whole k
    unfolding record_length
    written_front =
        front_whole k ((k ∷ body) ++ rest)
        (record { first = refl; known = w.known; inside = rw length-append (omega (arith, w.long)) })

    -- the bytes after a written record
    pub written_past : past ((k ∷ body) ++ rest) ≡ rest
    unfolding past
    written_past = drop_at (k ∷ body) rest (record_length k) (sym written_length)

-- a prefix that holds the record has it at its front
pub front_within : (k : ℕ) (bs : List ℕ) (m : ℕ) → Whole k bs → record_length k ≤ m → Whole k (take m bs)
front_within k bs m h i = record {
  first = get_or-take m bs 0 0 (omega (arith, record_some k)) ∙ h.first;
  known = h.known;
  inside = rw length-take (omega (arith, h.inside));
}

-- a prefix that does not has nothing there, or the record cut
pub front_short : (k : ℕ) (bs : List ℕ) (m : ℕ) → Whole k bs → m < record_length k
    → (front (take m bs) ≡ nothing) ⊎ (front (take m bs) ≡ cut k)
unfolding front record_length
front_short k bs zero h i = inl refl
front_short k [] (suc m) h i = inl refl
front_short k (b ∷ bs) (suc m) h i =
    let e : b ≡ k = h.first in
    let s : length (take m bs) < body_length k = rw length-take (omega arith) in
    inr (rw (e, h.known, lt-leb _ _ s))

pub drop_take : {A : Type 0} (n m : ℕ) (xs : List A) → n ≤ m → drop n (take m xs) ≡ take (m - n) (drop n xs)
drop_take zero m xs h = let e : m - 0 ≡ m = omega arith in rw e
drop_take (suc n) zero xs h = absurd (omega arith)
drop_take (suc n) (suc m) [] h = sym (take-nil (suc m - suc n))
drop_take (suc n) (suc m) (x ∷ xs) h = let e : suc m - suc n ≡ m - n = omega arith in rw e (drop_take n m xs (omega arith))

-- the bytes past the record, in a prefix that holds it
pub past_within : (k : ℕ) (bs : List ℕ) (m : ℕ) → Whole k bs → record_length k ≤ m → past (take m bs) ≡ take (m - record_length k) (past bs)
unfolding past
past_within k bs m h i = rw ((front_within k bs m h i).first, h.first) (drop_take (record_length k) m bs i)
