-- Lists of codes as sets: what joins hold, that they hold nothing twice, and that two such lists of the same codes are of one length.
-- Assumes nothing.
use Prim.Native.Nat.{ℕ, suc, ◌+◌, ◌≤◌, ◌<◌}
use mathlib.Core.Path.{◌≡◌, refl, sym, ap, ◌∙◌}
use mathlib.Core.Bool.{Bool, true, false, not, ◌&&◌, ◌||◌, or-false, and-false, or_assoc, and-or_distrib_right}
use mathlib.Core.List.{List, [], ◌∷◌, ◌++◌}
use native.Mathlib.Nat.{le_antisymm}
use native.Mathlib.Omega.{arith}
use lib.ListN.{length}
use lib.Dec.{eqb}
use borrow.Author.Tests.{eq-eqb, ne_eqb, eqb-true, eqb-false}
use Rattle.base.specs.Pick.{pick}
use Rattle.rules.specs.Record.{one_of}
use Rattle.refutation.specs.Making.{with, unless, joined, union}

abbrev pub Distinct : List ℕ → Type 0
Distinct [] = Unit {0}
Distinct (x ∷ xs) = (one_of xs x ≡ false) × Distinct xs

pub differ : (b : Bool) → b ≡ true → b ≡ false → ⊥
differ b e f = let z : ◌≡◌ {A = ℕ} 0 1 = cc in omega arith

eqb_swap : (a b : ℕ) → eqb a b ≡ false → eqb b a ≡ false
eqb_swap a b h = ne_eqb b a (λ e. eqb-false a b h (sym e))

one_append : (xs ys : List ℕ) (k : ℕ) → one_of (xs ++ ys) k ≡ (one_of xs k || one_of ys k)
one_append [] ys k = refl
one_append (x ∷ xs) ys k = rw (one_append xs ys k) (sym (or_assoc (eqb k x) (one_of xs k) (one_of ys k)))

-- a code that is left in
abbrev pub kept : ℕ → ℕ → Bool
kept p k = not (eqb k 0 || eqb k p)

module _ (k x : ℕ) (xs : List ℕ) where
  pub member_with : one_of (with x xs) k ≡ (one_of xs k || eqb k x)
  unfolding with
  member_with = go (one_of xs x) refl (eqb k x) refl
    where
      go : (a : Bool) → one_of xs x ≡ a → (b : Bool) → eqb k x ≡ b → one_of (with x xs) k ≡ (one_of xs k || eqb k x)
      go true e true f =
          let h : one_of xs k ≡ true = rw (eqb-true k x f) e in
          rw (e, f, h)
      go true e false f = rw (e, f, or-false)
      go false e b f = rw (e, one_append xs (x ∷ []) k, or-false)

  pub member_unless : (p : ℕ) → one_of (unless p x xs) k ≡ (one_of xs k || (eqb k x && kept p k))
  unfolding unless
  member_unless p = go (eqb x 0 || eqb x p) refl (eqb k x) refl
    where
      go : (a : Bool) → (eqb x 0 || eqb x p) ≡ a → (b : Bool) → eqb k x ≡ b
          → one_of (unless p x xs) k ≡ (one_of xs k || (eqb k x && kept p k))
      go true e true f =
          let h : (eqb k 0 || eqb k p) ≡ true = rw (eqb-true k x f) e in
          rw (e, f, h, or-false)
      go true e false f = rw (e, f, or-false)
      go false e true f =
          let h : (eqb k 0 || eqb k p) ≡ false = rw (eqb-true k x f) e in
          rw (e, h, member_with, f)
      go false e false f = rw (e, member_with, f)

pub member_joined : (p k : ℕ) (ys xs : List ℕ) → one_of (joined p ys xs) k ≡ (one_of xs k || (one_of ys k && kept p k))
unfolding joined
member_joined p k [] xs = sym (or-false (one_of xs k))
member_joined p k (y ∷ ys) xs =
    member_joined p k ys (unless p y xs)
    ∙ ap (λ (b : Bool). b || (one_of ys k && kept p k)) (member_unless k y xs p)
    ∙ or_assoc (one_of xs k) (eqb k y && kept p k) (one_of ys k && kept p k)
    ∙ ap (λ (b : Bool). one_of xs k || b) (sym (and-or_distrib_right (eqb k y) (one_of ys k) (kept p k)))

pub member_union : (bs ds : List ℕ) (p k : ℕ) → one_of (union bs ds p) k ≡ ((one_of bs k && kept p k) || (one_of ds k && kept (p + 1) k))
unfolding union joined
member_union bs ds p k =
    member_joined (p + 1) k ds (joined p bs [])
    ∙ ap (λ (b : Bool). b || (one_of ds k && kept (p + 1) k)) (member_joined p k bs [])

-- the filler is in no join
pub no_filler : (bs ds : List ℕ) (p : ℕ) → one_of (union bs ds p) 0 ≡ false
no_filler bs ds p = member_union bs ds p 0 ∙ rw (and-false (one_of bs 0), and-false (one_of ds 0))

or_none : (a b : Bool) → (a || b) ≡ false → (a ≡ false) × (b ≡ false)
or_none true b h = absurd (differ true refl h)
or_none false b h = (refl, h)

distinct_last : (xs : List ℕ) (x : ℕ) → Distinct xs → one_of xs x ≡ false → Distinct (xs ++ (x ∷ []))
distinct_last [] x d h = (refl, tt)
distinct_last (y ∷ ys) x d h =
    let s = or_none (eqb x y) (one_of ys x) h in
    (one_append ys (x ∷ []) y ∙ rw (d.0, eqb_swap x y s.0), distinct_last ys x d.1 s.1)

distinct_with : (x : ℕ) (xs : List ℕ) → Distinct xs → Distinct (with x xs)
unfolding with
distinct_with x xs d = go (one_of xs x) refl
  where
    go : (b : Bool) → one_of xs x ≡ b → Distinct (with x xs)
    go true e = rw e d
    go false e = rw e (distinct_last xs x d e)

distinct_unless : (p x : ℕ) (xs : List ℕ) → Distinct xs → Distinct (unless p x xs)
unfolding unless
distinct_unless p x xs d = go (eqb x 0 || eqb x p) refl
  where
    go : (b : Bool) → (eqb x 0 || eqb x p) ≡ b → Distinct (unless p x xs)
    go true e = rw e d
    go false e = rw e (distinct_with x xs d)

distinct_joined : (p : ℕ) (ys xs : List ℕ) → Distinct xs → Distinct (joined p ys xs)
unfolding joined
distinct_joined p [] xs d = d
distinct_joined p (y ∷ ys) xs d = distinct_joined p ys (unless p y xs) (distinct_unless p y xs d)

pub distinct_union : (bs ds : List ℕ) (p : ℕ) → Distinct (union bs ds p)
unfolding union
distinct_union bs ds p = distinct_joined (p + 1) ds (joined p bs []) (distinct_joined p bs [] tt)

-- ys without x
abbrev dropped : ℕ → List ℕ → List ℕ
dropped x [] = []
dropped x (y ∷ ys) = pick (eqb x y) (dropped x ys) (y ∷ dropped x ys)

dropped_keeps : (x k : ℕ) (ys : List ℕ) → eqb k x ≡ false → one_of ys k ≡ true → one_of (dropped x ys) k ≡ true
dropped_keeps x k [] f h = h
dropped_keeps x k (y ∷ ys) f h = go (λ e. dropped_keeps x k ys f (rw e at h)) (eqb x y) refl (eqb k y) refl
  where
    go : (eqb k y ≡ false → one_of (dropped x ys) k ≡ true) → (a : Bool) → eqb x y ≡ a → (b : Bool) → eqb k y ≡ b
        → one_of (dropped x (y ∷ ys)) k ≡ true
    go rest true e true g = absurd (eqb-false k x f (eqb-true k y g ∙ sym (eqb-true x y e)))
    go rest true e false g = rw e (rest g)
    go rest false e true g = rw (e, g)
    go rest false e false g = rw (e, g) (rest g)

no_longer : (x : ℕ) (ys : List ℕ) → length (dropped x ys) ≤ length ys
no_longer x [] = omega arith
no_longer x (y ∷ ys) = go (no_longer x ys) (eqb x y) refl
  where
    go : length (dropped x ys) ≤ length ys → (a : Bool) → eqb x y ≡ a → length (dropped x (y ∷ ys)) ≤ suc (length ys)
    go i true e = rw e (omega arith)
    go i false e = rw e (omega arith)

shorter : (x : ℕ) (ys : List ℕ) → one_of ys x ≡ true → length (dropped x ys) < length ys
shorter x [] h = absurd (differ false h refl)
shorter x (y ∷ ys) h = go (λ e. shorter x ys (rw e at h)) (eqb x y) refl
  where
    go : (eqb x y ≡ false → length (dropped x ys) < length ys) → (a : Bool) → eqb x y ≡ a → length (dropped x (y ∷ ys)) < suc (length ys)
    go i true e = let j = no_longer x ys in rw e (omega arith)
    go i false e = let j = i e in rw e (omega arith)

-- a list that holds nothing twice is no longer than one that holds all of it
fewer : (xs ys : List ℕ) → Distinct xs → ((k : ℕ) → one_of xs k ≡ true → one_of ys k ≡ true) → length xs ≤ length ys
fewer [] ys d f = omega arith
fewer (x ∷ xs) ys d f =
    let here : one_of ys x ≡ true = f x (rw (eq-eqb x x refl)) in
    let s = shorter x ys here in
    let i = fewer xs (dropped x ys) d.1 inner in
    omega arith
  where
    inner : (k : ℕ) → one_of xs k ≡ true → one_of (dropped x ys) k ≡ true
    inner k h = go (eqb k x) refl
      where
        go : (b : Bool) → eqb k x ≡ b → one_of (dropped x ys) k ≡ true
        go true e = absurd (differ (one_of xs k) h (rw (eqb-true k x e) d.0))
        go false e = dropped_keeps x k ys e (f k (rw (e, h)))

pub same_length : (xs ys : List ℕ) → Distinct xs → Distinct ys → ((k : ℕ) → one_of xs k ≡ one_of ys k) → length xs ≡ length ys
same_length xs ys d e f = le_antisymm (fewer xs ys d (λ k h. sym (f k) ∙ h)) (fewer ys xs e (λ k h. f k ∙ h))
