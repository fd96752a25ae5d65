-- Memory that holds clauses: the clause of a number, and one clause more behind the others.
-- Assumes nothing.
use Prim.Native.Nat.{ℕ, ◌+◌, ◌-◌, ◌*◌, ◌≤◌, ◌<◌}
use mathlib.Core.Path.{◌≡◌, refl, ◌∙◌}
use mathlib.Core.Bool.{Bool, true, false, and-false}
use mathlib.Core.List.{List, [], ◌∷◌, ◌++◌}
use native.Mathlib.Omega.{arith}
use lib.ListN.{length, get_or, take, length-append, get_or-append}
use lib.Seq.{get_or_at}
use lib.Dec.{ltb}
use borrow.Author.Tests.{le-leb, lt-leb, ltb-true, ltb-false}
use Rattle.rules.specs.declared.Limits.{Limits}
use Rattle.rules.specs.Clauses.{Clause}
use Rattle.rules.specs.Resolution.{is_there, nth}
use Rattle.refutation.specs.Memory.{part, Means, Slot, slot_at, Held, Fit}
use Rattle.refutation.specs.Making.{Placed, Placed.in_base, Placed.in_slot, Placed.zeroth, Placed.past}
use Rattle.std.specs.Prelude.{Some, None}
use Rattle.refutation.specs.declared.codes.Spot.{Spot}
use Rattle.refutation.proofs.PartLaws.{part_front, get_d_front}
use Rattle.refutation.proofs.SlotLaws.{slot_before}

-- the clause of number i is there, and k places from place s on stand for it
pub record Located (w : List ℕ) (s k : ℕ) (cs : List Clause) (i : ℕ) : Type 0 where
  pub there : is_there cs i ≡ true
  pub means : Means (part w s k) (nth cs i)

is_there_lem : (cs : List Clause) (i : ℕ) → 1 ≤ i → i ≤ length cs → is_there cs i ≡ true
unfolding is_there
is_there_lem cs i a b = rw (le-leb 1 i a, le-leb i (length cs) b)

pub located : {l : Limits} {w : List ℕ} {n from m i : ℕ} {x : Spot} (cs : List Clause) → Held l w n from m cs → Placed l w n from m i (Some x)
    → Located w x.start x.count cs i
located {i = i} cs h (in_base a b c d) = record {
  there = is_there_lem cs i a (omega (arith, h.count));
  means = rw (c, d) (h.base (i - 1) b);
}
located {n = n} {i = i} cs h (in_slot a b c d e) =
    let f : n + (i - 1 - n) ≡ i - 1 = omega arith in
    record {
      there = is_there_lem cs i a (omega (arith, h.count));
      means = rw (d, e) (rw f at (h.derived (i - 1 - n) c).literals);
    }

pub not_there : {l : Limits} {w : List ℕ} {n from m i : ℕ} (cs : List Clause) → Held l w n from m cs → Placed l w n from m i None → is_there cs i ≡ false
unfolding is_there
not_there cs h (zeroth e) = rw e
not_there {i = i} cs h (past a) = let b : length cs < i = omega (arith, h.count) in rw (lt-leb i (length cs) b, and-false)

-- the places before the slot of number m are as they were, and that slot holds the clause e
module _ (l : Limits) (w w' : List ℕ) (n from m : ℕ) (f : Fit l w n from m) (front : take (slot_at l from m) w' ≡ take (slot_at l from m) w) where
  earlier : (j : ℕ) → j < m → slot_at l from j + 1 + get_or w (slot_at l from j) 0 ≤ slot_at l from m
  earlier j h = let a = slot_before l from j m h in let b = f.small j h in omega arith

  size_kept : (j : ℕ) → j < m → get_or w' (slot_at l from j) 0 ≡ get_or w (slot_at l from j) 0
  size_kept j h = let a = slot_before l from j m h in get_d_front w w' (slot_at l from m) (slot_at l from j) front (omega arith)

  slot_kept : (j : ℕ) (c : Clause) → j < m → Slot w (slot_at l from j) c → Slot w' (slot_at l from j) c
  slot_kept j c h s =
      let a = size_kept j h in
      let b = part_front w w' (slot_at l from m) (slot_at l from j + 1) (get_or w (slot_at l from j) 0) front (earlier j h) in
      record { size = a ∙ s.size; set = s.set; literals = rw (a, b) s.literals }

  pub held_more : (cs : List Clause) (e : Clause) → Held l w n from m cs → Slot w' (slot_at l from m) e → Held l w' n from (m + 1) (cs ++ (e ∷ []))
  held_more cs e h s = record {
    count = length-append cs (e ∷ []) ∙ omega (arith, h.count);
    base = λ i k.
        let a = part_front w w' (slot_at l from m) (3 * i) 3 front (omega (arith, f.space.below)) in
        let b = get_or-append cs (e ∷ []) [] i (omega (arith, h.count)) in
        rw (a, b) (h.base i k);
    derived = λ j k. go j k (ltb j m) refl;
  }
    where
      go : (j : ℕ) → j < m + 1 → (b : Bool) → ltb j m ≡ b → Slot w' (slot_at l from j) (get_or (cs ++ (e ∷ [])) (n + j) [])
      go j k true b =
          let i = ltb-true j m b in
          let a = get_or-append cs (e ∷ []) [] (n + j) (omega (arith, h.count)) in
          rw a (slot_kept j (get_or cs (n + j) []) i (h.derived j i))
      go j k false b =
          let i = ltb-false j m b in
          let z : j ≡ m = omega arith in
          let a = get_or_at cs e [] [] (n + m) h.count in
          rw (z, a) s

  pub fit_more : length w' ≡ length w → m < l.steps → get_or w' (slot_at l from m) 0 ≤ l.width → Fit l w' n from (m + 1)
  fit_more e k s = record {
    space = record { below = f.space.below; room = rw e f.space.room; narrow = f.space.narrow };
    few = omega arith;
    small = λ j h. go j h (ltb j m) refl;
  }
    where
      go : (j : ℕ) → j < m + 1 → (b : Bool) → ltb j m ≡ b → get_or w' (slot_at l from j) 0 ≤ l.width
      go j h true b = let i = ltb-true j m b in rw (size_kept j i) (f.small j i)
      go j h false b =
          let i = ltb-false j m b in
          let z : j ≡ m = omega arith in
          rw z s
