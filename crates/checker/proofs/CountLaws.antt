-- A clause set fits its places, and each of its clauses fits three.
-- Assumes nothing.
use Prim.Native.Nat.{ℕ, zero, suc, ◌*◌, ◌≤◌, ◌<◌}
use mathlib.Core.Path.{◌≡◌, refl}
use mathlib.Core.Bool.{false}
use mathlib.Core.List.{List, [], ◌∷◌, ◌++◌, append_assoc}
use native.Mathlib.Omega.{arith}
use lib.ListN.{length, get_or, take}
use lib.Seq.{take_at}
use borrow.Author.Tests.{ne_eqb}
use Rattle.base.specs.Lists.{All}
use Rattle.rules.specs.declared.Limits.{Limits}
use Rattle.rules.specs.Formula.{Formula}
use Rattle.rules.specs.Sheet.{Sheet}
use Rattle.rules.specs.WriteSheet.{WithinSheet}
use Rattle.rules.specs.WriteCertificate.{WithinInvariant}
use Rattle.rules.specs.Certificate.{Which}
use Rattle.rules.specs.Clauses.{Lit, Lit.plain, Lit.negated, Clause, places, clause_set}
use Rattle.rules.specs.Resolution.{has}
use Rattle.solving.specs.Places.{variable, Placeable}
use Rattle.clauses.specs.Emits.{emits}
use Rattle.clauses.proofs.PlacesLaws.{places_length, emits_places}
use Rattle.clauses.proofs.FewLaws.{set_few}
use Rattle.refutation.proofs.PlaceLaws.{Short}
use Rattle.checker.specs.Refuted.{clause_room}

pub set_fits : (l : Limits) (t : Sheet) (inv : Formula) → WithinSheet l t → WithinInvariant l t inv → (w : Which) → 3 * length (clause_set t inv w) ≤ clause_room l
set_fits l t inv k j w = omega (arith, set_few l t inv k j w)

pub filled_front : (w : List ℕ) (cs : List Clause) (y : List ℕ) → 3 * length cs ≤ length w → take (3 * length cs) (emits w 0 cs ++ y) ≡ places cs
filled_front w cs y h = rw (emits_places w cs h, append_assoc) (take_at (places cs) _ (3 * length cs) (places_length cs))

not_zero : (c : Clause) (n : ℕ) → All (λ (x : Lit). (1 ≤ variable x) × (variable x ≤ n)) c → has c (plain 0) ≡ false
unfolding has
not_zero [] n a = refl
not_zero (plain v ∷ c) n a =
    let i : 1 ≤ v = a.0.0 in
    let d : 0 ≡ v → ⊥ = λ (z : 0 ≡ v). omega arith in
    rw (ne_eqb 0 v d) (not_zero c n a.1)
not_zero (negated v ∷ c) n a = not_zero c n a.1

pub shorts : (n : ℕ) (cs : List Clause) → All (Placeable n) cs → (i : ℕ) → i < length cs → Short (get_or cs i [])
shorts n [] a i h = absurd (omega arith)
shorts n (c ∷ cs) a zero h = record { short = a.0.few; real = not_zero c n a.0.counted }
shorts n (c ∷ cs) a (suc i) h = shorts n cs a.1 i (omega arith)
