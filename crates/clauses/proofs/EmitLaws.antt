-- Clauses written one by one, by the tests of the code.
-- Assumes nothing.
use Prim.Native.Nat.{ℕ, suc, ◌+◌, ◌*◌, ◌/◌, ◌≤◌, ◌<◌}
use mathlib.Core.Path.{◌≡◌, refl}
use mathlib.Core.Bool.{Bool, true, false}
use mathlib.Core.List.{List, [], ◌∷◌, ◌++◌}
use native.Mathlib.Omega.{arith}
use lib.ListN.{length, set, length-set}
use borrow.Author.Tests.{le-leb, lt-leb}
use Rattle.base.specs.Pick.{pick}
use Rattle.rules.specs.Clauses.{Clause, place, place_of}
use Rattle.clauses.specs.declared.gates.Gate.TheVariants.{Same, Fixed, Inverse, Both, Either}
use Rattle.clauses.specs.Emits.{stored, emits, Emitted, signed}
use Rattle.clauses.specs.Gates.{gate_clauses}

module _ (w : List ℕ) (n a b c : ℕ) where
  pub no_room : length w / 3 ≤ n → w ≡ stored w n a b c
  unfolding stored
  no_room h = let k : length w < 3 * n + 3 = omega arith in rw (lt-leb _ _ k)

  module _ (h : n < length w / 3) where
    pub second_in : 3 * n + 1 < length (set w (3 * n) a)
    second_in = simp length-set (omega arith)

    pub third_in : 3 * n + 2 < length (set (set w (3 * n) a) (3 * n + 1) b)
    third_in = simp length-set (omega arith)

    pub room : set (set (set w (3 * n) a) (3 * n + 1) b) (3 * n + 2) c ≡ stored w n a b c
    unfolding stored
    room = let k : 3 * n + 3 ≤ length w = omega arith in rw (le-leb _ _ k)

pub ruleset emit_cases = (no_room, second_in, third_in, room)

-- the clauses of each gate, in the order of the code
module _ (w : List ℕ) (n g : ℕ) where
  pub unit_emitted : (w' : List ℕ) (on : Bool) (a : ℕ) → a ≡ pick on (2 * g) (2 * g + 1) → w' ≡ stored w n a 0 0 → Emitted w n (signed on g) w' (n + 1)
  unfolding place emits
  unit_emitted w' true a e f = record { wrote = rw e at f; counted = refl }
  unit_emitted w' false a e f = record { wrote = rw e at f; counted = refl }

  pub fixed_clauses : (on : Bool) → gate_clauses g (Fixed on) ≡ signed on g
  unfolding gate_clauses
  fixed_clauses on = refl

  pub same_emitted : (v : ℕ) → Emitted w n (gate_clauses g (Same v)) (stored (stored w n (2 * g + 1) (2 * v) 0) (n + 1) (2 * g) (2 * v + 1) 0) (n + 2)
  unfolding place gate_clauses emits
  same_emitted v = record { wrote = refl; counted = refl }

  pub inverse_emitted : (x : ℕ) → Emitted w n (gate_clauses g (Inverse x)) (stored (stored w n (2 * g + 1) (2 * x + 1) 0) (n + 1) (2 * g) (2 * x) 0) (n + 2)
  unfolding place gate_clauses emits
  inverse_emitted x = record { wrote = refl; counted = refl }

  third : n + 1 + 1 ≡ n + 2
  third = omega arith

  pub both_emitted : (x y : ℕ)
      → Emitted w n (gate_clauses g (Both x y))
      (stored (stored (stored w n (2 * g + 1) (2 * x) 0) (n + 1) (2 * g + 1) (2 * y) 0) (n + 2) (2 * g) (2 * x + 1) (2 * y + 1)) (n + 3)
  unfolding place gate_clauses emits
  both_emitted x y = record { wrote = rw (← third); counted = refl }

  pub either_emitted : (x y : ℕ)
      → Emitted w n (gate_clauses g (Either x y))
      (stored (stored (stored w n (2 * g) (2 * x + 1) 0) (n + 1) (2 * g) (2 * y + 1) 0) (n + 2) (2 * g + 1) (2 * x) (2 * y)) (n + 3)
  unfolding place gate_clauses emits
  either_emitted x y = record { wrote = rw (← third); counted = refl }

pub ruleset clause_cases = (unit_emitted, fixed_clauses, same_emitted, inverse_emitted, both_emitted, either_emitted)

pub emits_append : (w : List ℕ) (n : ℕ) (cs ds : List Clause) → emits w n (cs ++ ds) ≡ emits (emits w n cs) (n + length cs) ds
unfolding emits
emits_append w n [] ds = let a : n + 0 ≡ n = omega arith in rw a
emits_append w n (c ∷ cs) ds =
    let a : n + suc (length cs) ≡ n + 1 + length cs = omega arith in
    rw a (emits_append (stored w n (place_of c 0) (place_of c 1) (place_of c 2)) (n + 1) cs ds)

-- past the room nothing is written
pub emits_none : (w : List ℕ) (n : ℕ) (cs : List Clause) → length w / 3 ≤ n → emits w n cs ≡ w
unfolding emits
emits_none w n [] h = refl
emits_none w n (c ∷ cs) h = rw (← no_room w n (place_of c 0) (place_of c 1) (place_of c 2) h) (emits_none w (n + 1) cs (omega arith))
