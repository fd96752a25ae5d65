-- The lines out of a room that holds a set's places are the set's, and set 2's last clause names the last of all variables.
-- Assumes nothing.
use Prim.Native.Nat.{ℕ, ◌+◌, ◌-◌, ◌*◌, ◌/◌, ◌≤◌}
use mathlib.Core.Path.{◌≡◌, refl, sym, ap, ap₂, ◌∙◌}
use mathlib.Core.List.{List, [], ◌∷◌, ◌++◌, append_assoc}
use native.Mathlib.Omega.{arith}
use lib.ListN.{length, get_or, length-append}
use lib.Seq.{get_or-append-add}
use borrow.Author.Tests.{le-leb}
use Rattle.base.specs.Lists.{All, each}
use Rattle.rules.specs.Formula.{Formula}
use Rattle.rules.specs.Sheet.{Sheet}
use Rattle.rules.specs.Certificate.{Which.keep}
use Rattle.rules.specs.Clauses.{Lit, Lit.negated, Lit.plain, Clause, place_of, place, places, clause_set, ladder, invariant_before, invariant_after, unit, top, before_at, after_at, variables}
use Rattle.solving.specs.Places.{unplaces, Placeable}
use Rattle.solving.proofs.PlaceLaws.{places_lose_nothing}
use Rattle.dimacs.specs.Dimacs.{clause_line, clause_in, lines_in, last_variable, TextIsTheSets}
use Rattle.dimacs.proofs.ClauseLaws.{each_append}
use Rattle.dimacs.proofs.CountLaws.{set_fits}

-- the three places after some others
module _ (pre : List ℕ) (x y z : ℕ) (ps : List ℕ) where
  abbrev room : List ℕ
  room = pre ++ (x ∷ y ∷ z ∷ ps)

  at_place : (m k j : ℕ) → length pre ≡ m → m + j ≡ k → get_or room k 0 ≡ get_or (x ∷ y ∷ z ∷ ps) j 0
  at_place m k j e f = ap (λ (i : ℕ). get_or room i 0) (sym f ∙ ap (λ (i : ℕ). i + j) (sym e)) ∙ get_or-append-add pre (x ∷ y ∷ z ∷ ps) j 0

one_clause : (n : ℕ) (c : Clause) → Placeable n c → unplaces (place_of c 0 ∷ place_of c 1 ∷ place_of c 2 ∷ []) ≡ c ∷ []
unfolding places
one_clause n c p = places_lose_nothing n (c ∷ []) (p, tt)

clause_there : (n : ℕ) (pre : List ℕ) (k : ℕ) (c : Clause) (ps : List ℕ) → length pre ≡ 3 * k → Placeable n c
    → clause_in (pre ++ (place_of c 0 ∷ place_of c 1 ∷ place_of c 2 ∷ ps)) k ≡ c
unfolding unplaces
clause_there n pre k c ps e p =
    let q = at_place pre (place_of c 0) (place_of c 1) (place_of c 2) ps in
    rw (q (3 * k) (3 * k) 0 e (omega arith), q (3 * k) (3 * k + 1) 1 e refl, q (3 * k) (3 * k + 2) 2 e refl)
    (cc (one_clause n c p))

lines_from : (n : ℕ) (cs : List Clause) (rest pre : List ℕ) (k : ℕ) → length pre ≡ 3 * k → All (Placeable n) cs
    → lines_in (pre ++ (places cs ++ rest)) k (length cs) ≡ each clause_line cs
unfolding lines_in places
lines_from n [] rest pre k e h = refl
lines_from n (c ∷ cs) rest pre k e h =
    let here : clause_in (pre ++ (place_of c 0 ∷ place_of c 1 ∷ place_of c 2 ∷ (places cs ++ rest))) k ≡ c = clause_there n pre k c (places cs ++ rest) e h.0 in
    let three : List ℕ = place_of c 0 ∷ place_of c 1 ∷ place_of c 2 ∷ [] in
    let onward = lines_from n cs rest (pre ++ three) (k + 1) (length-append pre three ∙ omega arith) h.1 in
    ap₂ ◌++◌ (ap clause_line here) (rw (append_assoc pre three (places cs ++ rest)) at onward)

places_append : (cs ds : List Clause) → places (cs ++ ds) ≡ places cs ++ places ds
unfolding places
places_append cs ds = each_append (λ (c : Clause). place_of c 0 ∷ place_of c 1 ∷ place_of c 2 ∷ []) cs ds

places_long : (cs : List Clause) → length (places cs) ≡ 3 * length cs
unfolding places
places_long [] = refl
places_long (c ∷ cs) = omega (arith, places_long cs)

-- the variable of a last unit clause
last_unit : (cs : List Clause) (x : Lit) (rest : List ℕ) → last_variable (places (cs ++ unit x) ++ rest) (length (cs ++ unit x)) ≡ place x / 2
unfolding last_variable places
last_unit cs x rest =
    rw (le-leb 1 (length (cs ++ unit x)) (omega (arith, m)), le-leb (length (cs ++ unit x)) (length w / 3) (omega (arith, m, long)))
    (ap (λ (n : ℕ). n / 2) found)
  where
    w : List ℕ
    w = places (cs ++ unit x) ++ rest

    m : length (cs ++ unit x) ≡ length cs + 1
    m = length-append cs (unit x)

    split : w ≡ places cs ++ (place x ∷ 0 ∷ 0 ∷ rest)
    split = ap (λ (ps : List ℕ). ps ++ rest) (places_append cs (unit x)) ∙ append_assoc (places cs) (place x ∷ 0 ∷ 0 ∷ []) rest

    long : 3 * (length cs + 1) ≤ length w
    long = omega (arith, ap length split, length-append (places cs) (place x ∷ 0 ∷ 0 ∷ rest), places_long cs)

    found : get_or w (3 * (length (cs ++ unit x) - 1)) 0 ≡ place x
    found =
        ap (λ (ps : List ℕ). get_or ps (3 * (length (cs ++ unit x) - 1)) 0) split
        ∙ at_place (places cs) (place x) 0 0 rest (3 * length cs) (3 * (length (cs ++ unit x) - 1)) 0 (places_long cs) (omega (arith, m))

last_top : (t : Sheet) (inv : Formula) (rest : List ℕ)
    → last_variable (places (clause_set t inv keep) ++ rest) (length (clause_set t inv keep)) ≡ variables t inv
unfolding clause_set place
last_top t inv rest =
    let u : Lit = negated (top (after_at t inv) inv) in
    let cs : List Clause = ladder t ++ (invariant_before t inv ++ (unit (plain (top (before_at t) inv)) ++ invariant_after t inv)) in
    let e : clause_set t inv keep ≡ cs ++ unit u = simp append_assoc in
    rw e (last_unit cs u rest ∙ omega arith)

pub text_is_the_sets : TextIsTheSets
text_is_the_sets = record { lines = λ n cs rest h. lines_from n cs rest [] 0 refl h; last = last_top; fits = set_fits }
