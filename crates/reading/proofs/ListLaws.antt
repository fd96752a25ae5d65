-- Lists that grow at their end: what holds of each element, rising numbers, and numbers of which none stands twice.
-- Assumes nothing.
use Prim.Native.Nat.{ℕ, ◌+◌, ◌≤◌}
use mathlib.Core.Path.{◌≡◌, refl, sym, ap}
use mathlib.Core.Bool.{Bool, true, false, ◌&&◌, ◌||◌}
use mathlib.Core.List.{List, [], ◌∷◌, ◌++◌, map}
use native.Mathlib.Omega.{arith}
use lib.Dec.{eqb}
use borrow.Author.Tests.{eqb-false, ne_eqb}
use Rattle.base.specs.Lists.{All}
use Rattle.rules.specs.Record.{one_of}
use Rattle.rules.specs.Sheet.{Rung}
use Rattle.rules.specs.ReadSheet.{driven}
use Rattle.rules.specs.WriteSheet.{RisesFrom, Once}

pub all_snoc : {A : Type 0} (P : A → Type 0) (xs : List A) (x : A) → All P xs → P x → All P (xs ++ (x ∷ []))
all_snoc P [] x a h = (h, tt)
all_snoc P (y ∷ xs) x a h = (a.0, all_snoc P xs x a.1 h)

-- the lowest number that may come after rising numbers
unfoldable pub next : ℕ → List ℕ → ℕ
next m [] = m
next m (n ∷ ns) = next (n + 1) ns

pub next_snoc : (m : ℕ) (ns : List ℕ) (n : ℕ) → next m (ns ++ (n ∷ [])) ≡ n + 1
unfolding next
next_snoc m [] n = refl
next_snoc m (x ∷ ns) n = next_snoc (x + 1) ns n

pub rises_snoc : (m : ℕ) (ns : List ℕ) (n : ℕ) → RisesFrom m ns → next m ns ≤ n → RisesFrom m (ns ++ (n ∷ []))
unfolding next RisesFrom
rises_snoc m [] n r h = (h, tt)
rises_snoc m (x ∷ ns) n r h = (r.0, rises_snoc (x + 1) ns n r.1 h)

or_none : (a b : Bool) → (a || b) ≡ false → (a ≡ false) × (b ≡ false)
or_none true b e = let z : ◌≡◌ {A = ℕ} 0 1 = cc in absurd (omega arith)
or_none false b e = (refl, e)

pub and_both : (a b : Bool) → (a && b) ≡ true → (a ≡ true) × (b ≡ true)
and_both true b e = (refl, e)
and_both false b e = let z : ◌≡◌ {A = ℕ} 0 1 = cc in absurd (omega arith)

other : (n x : ℕ) → eqb n x ≡ false → eqb x n ≡ false
other n x e = ne_eqb x n (λ z. eqb-false n x e (sym z))

pub one_of_snoc : (xs : List ℕ) (n x : ℕ) → one_of xs x ≡ false → eqb x n ≡ false → one_of (xs ++ (n ∷ [])) x ≡ false
one_of_snoc [] n x e f = rw f
one_of_snoc (y ∷ xs) n x e f =
    let g = or_none (eqb x y) (one_of xs x) e in
    rw g.0 (one_of_snoc xs n x g.1 f)

pub once_snoc : (ns : List ℕ) (n : ℕ) → Once ns → one_of ns n ≡ false → Once (ns ++ (n ∷ []))
unfolding Once
once_snoc [] n o e = (refl, tt)
once_snoc (x ∷ ns) n o e =
    let g = or_none (eqb n x) (one_of ns n) e in
    (one_of_snoc ns n x o.0 (other n x g.0), once_snoc ns n o.1 g.1)

-- of numbers none of which stands twice, no earlier one is a later one
pub once_apart : (ns : List ℕ) (n : ℕ) (ms : List ℕ) → Once (ns ++ (n ∷ ms)) → one_of ns n ≡ false
unfolding Once
once_apart [] n ms o = refl
once_apart (x ∷ ns) n ms o = rw (other x n (apart ns o.0)) (once_apart ns n ms o.1)
  where
    apart : (xs : List ℕ) → one_of (xs ++ (n ∷ ms)) x ≡ false → eqb x n ≡ false
    apart [] e = (or_none (eqb x n) (one_of ms x) e).0
    apart (y ∷ xs) e = apart xs (or_none (eqb x y) (one_of (xs ++ (n ∷ ms)) x) e).1

-- a coil is driven where it is one of the rungs' coils
pub driven_one : (rs : List Rung) (c : ℕ) → driven rs c ≡ one_of (map (λ (r : Rung). r.coil) rs) c
driven_one [] c = refl
driven_one (r ∷ rs) c = ap (λ (b : Bool). eqb c r.coil || b) (driven_one rs c)
