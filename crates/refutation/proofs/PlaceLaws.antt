-- A clause set that is written three places a clause is held by memory, with no clause derived yet.
-- Assumes nothing.
use Prim.Native.Nat.{ℕ, zero, suc, ◌*◌, ◌≤◌, ◌<◌}
use mathlib.Core.Path.{◌≡◌, refl, sym, ap, ◌∙◌}
use mathlib.Core.Bool.{Bool, true, false, ◌&&◌}
use mathlib.Core.List.{List, [], ◌∷◌, map}
use native.Mathlib.Omega.{arith}
use lib.ListN.{length, get_or, take}
use lib.Dec.{eqb, ltb}
use borrow.Author.Tests.{ne_eqb, ltb-true, ltb-false}
use Rattle.rules.specs.declared.Limits.{Limits}
use Rattle.rules.specs.Record.{one_of}
use Rattle.rules.specs.Clauses.{Lit, Lit.plain, Clause, place, place_of, places}
use Rattle.rules.specs.Resolution.{has}
use Rattle.refutation.specs.Memory.{part, Means, Held}
use Rattle.refutation.proofs.PartLaws.{take_drop}
use Rattle.refutation.proofs.ClauseLaws.{has_code, has_alike}

-- a clause that three places hold: variables count from 1
pub record Short (c : Clause) : Type 0 where
  pub short : length c ≤ 3
  pub real : has c (plain 0) ≡ false

abbrev three : Clause → List ℕ
three c = place_of c 0 ∷ place_of c 1 ∷ place_of c 2 ∷ []

padded : (c : Clause) (k : ℕ) → length c ≤ 3 → eqb k 0 ≡ false → one_of (map place c) k ≡ one_of (three c) k
padded [] k h z = rw z
padded (x ∷ []) k h z = rw z
padded (x ∷ y ∷ []) k h z = rw z
padded (x ∷ y ∷ u ∷ []) k h z = refl
padded (x ∷ y ∷ u ∷ v ∷ c) k h z = absurd (omega arith)

means_three : (c : Clause) → Short c → Means (three c) c
unfolding place
means_three c s = record { members = λ x. go x (ltb 0 (place x)) refl }
  where
    go : (x : Lit) (b : Bool) → ltb 0 (place x) ≡ b → has c x ≡ (ltb 0 (place x) && one_of (three c) (place x))
    go x true e =
        let h = ltb-true 0 (place x) e in
        let z : eqb (place x) 0 ≡ false = ne_eqb (place x) 0 (λ q. omega arith) in
        rw e (has_code c x ∙ padded c (place x) s.short z)
    go x false e =
        let h = ltb-false 0 (place x) e in
        let z : place x ≡ 2 * 0 = omega arith in
        rw e (has_alike c x (plain 0) z ∙ s.real)

part_places : (cs : List Clause) (i : ℕ) → i < length cs → part (places cs) (3 * i) 3 ≡ three (get_or cs i [])
unfolding places
part_places [] i h = absurd (omega arith)
part_places (c ∷ cs) zero h = refl
part_places (c ∷ cs) (suc i) h =
    let e : 3 * suc i ≡ suc (suc (suc (3 * i))) = omega arith in
    rw e (part_places cs i (omega arith))

pub held_places : (l : Limits) (w : List ℕ) (from : ℕ) (cs : List Clause) → ((i : ℕ) → i < length cs → Short (get_or cs i []))
    → take (3 * length cs) w ≡ places cs → Held l w (length cs) from 0 cs
held_places l w from cs s e = record {
  count = omega arith;
  base = λ i h.
      let a : part w (3 * i) 3 ≡ three (get_or cs i [])
      = sym (take_drop (3 * i) 3 (3 * length cs) w (omega arith)) ∙ ap (λ (y : List ℕ). part y (3 * i) 3) e ∙ part_places cs i h in
      rw a (means_three (get_or cs i []) (s i h));
  derived = λ j h. absurd (omega arith);
}
