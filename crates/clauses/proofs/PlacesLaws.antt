-- Where there is room for every clause, what is written is the three places of each.
-- Assumes nothing.
use Prim.Native.Nat.{ℕ, suc, ◌+◌, ◌*◌, ◌≤◌}
use mathlib.Core.Path.{◌≡◌, refl, ap, ◌∙◌}
use mathlib.Core.List.{List, [], ◌∷◌, ◌++◌}
use native.Mathlib.Omega.{arith}
use lib.ListN.{length, set, drop, length-set}
use lib.Seq.{sets, sets-eq}
use borrow.Author.Tests.{le-leb}
use Rattle.rules.specs.Clauses.{Clause, place_of, places}
use Rattle.clauses.specs.Emits.{stored, emits}

pub places_length : (cs : List Clause) → length (places cs) ≡ 3 * length cs
unfolding places
places_length [] = refl
places_length (c ∷ cs) = let e = places_length cs in omega arith

-- clause by clause as place by place
emits_sets : (w : List ℕ) (n : ℕ) (cs : List Clause) → 3 * n + 3 * length cs ≤ length w → emits w n cs ≡ sets w (3 * n) (places cs)
unfolding emits places stored
emits_sets w n [] h = refl
emits_sets w n (c ∷ cs) h =
    let k : 3 * n + 3 ≤ length w = omega arith in
    let a : 3 * n + 1 ≡ suc (3 * n) = omega arith in
    let b : 3 * n + 2 ≡ suc (suc (3 * n)) = omega arith in
    let d : 3 * (n + 1) ≡ suc (suc (suc (3 * n))) = omega arith in
    let v : List ℕ = set (set (set w (3 * n) (place_of c 0)) (suc (3 * n)) (place_of c 1)) (suc (suc (3 * n))) (place_of c 2) in
    let l : length v ≡ length w = simp length-set in
    let m : 3 * (n + 1) + 3 * length cs ≤ length v = omega arith in
    rw (le-leb _ _ k, a, b) (emits_sets v (n + 1) cs m ∙ ap (λ (i : ℕ). sets v i (places cs)) d)

pub emits_places : (room : List ℕ) (cs : List Clause) → 3 * length cs ≤ length room → emits room 0 cs ≡ places cs ++ drop (3 * length cs) room
emits_places room cs h =
    let e : length (places cs) ≡ 3 * length cs = places_length cs in
    let f : 0 + length (places cs) ≡ 3 * length cs = omega arith in
    emits_sets room 0 cs (omega arith) ∙ rw f at (sets-eq (places cs) room 0 (omega arith))
