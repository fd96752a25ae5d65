-- The places of clauses are read back as the clauses that they stand for.
-- Assumes nothing.
use Prim.Native.Nat.{ℕ, ◌+◌, ◌*◌, ◌/◌, ◌%◌, ◌≤◌}
use native.Mathlib.Omega.{arith}
use mathlib.Core.Path.{◌≡◌, refl, ap₂}
use mathlib.Core.List.{[], ◌∷◌, ◌++◌}
use borrow.Author.Tests.{eq-eqb, ne_eqb}
use Rattle.rules.specs.Clauses.{Lit, Lit.plain, Lit.negated, Clause, place, place_of, places}
use Rattle.solving.specs.Places.{unplace, unplaces, variable, Placeable}
use Rattle.solving.specs.Statements.{PlacesLoseNothing}

one_place : (x : Lit) → 1 ≤ variable x → unplace (place x) ≡ x ∷ []
unfolding unplace place
one_place (plain v) h =
    let e : 2 * v / 2 ≡ v = omega arith in
    rw (ne_eqb (2 * v) 0 (omega arith), eq-eqb (2 * v % 2) 0 (omega arith), e)
one_place (negated v) h =
    let e : (2 * v + 1) / 2 ≡ v = omega arith in
    rw (ne_eqb (2 * v + 1) 0 (omega arith), ne_eqb ((2 * v + 1) % 2) 0 (omega arith), e)

filler : unplace 0 ≡ []
unfolding unplace
filler = refl

one_clause : (n : ℕ) (c : Clause) → Placeable n c → unplace (place_of c 0) ++ (unplace (place_of c 1) ++ unplace (place_of c 2)) ≡ c
one_clause n [] p = absurd (omega (arith, p.some))
one_clause n (x ∷ []) p = rw (one_place x p.counted.0.0, filler)
one_clause n (x ∷ y ∷ []) p = rw (one_place x p.counted.0.0, one_place y p.counted.1.0.0, filler)
one_clause n (x ∷ y ∷ z ∷ []) p = rw (one_place x p.counted.0.0, one_place y p.counted.1.0.0, one_place z p.counted.1.1.0.0)
one_clause n (x ∷ y ∷ z ∷ u ∷ c) p = absurd (omega (arith, p.few))

pub places_lose_nothing : PlacesLoseNothing
unfolding places unplaces
places_lose_nothing n [] h = refl
places_lose_nothing n (c ∷ cs) h = ap₂ ◌∷◌ (one_clause n c h.0) (places_lose_nothing n cs h.1)
