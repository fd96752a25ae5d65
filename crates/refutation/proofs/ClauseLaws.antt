-- Clauses by their literals' codes: what a resolvent holds, that it holds nothing twice, and the codes that stand for it.
-- Assumes nothing.
use Prim.Native.Nat.{ℕ, zero, suc, ◌+◌, ◌*◌, ◌/◌, ◌%◌}
use mathlib.Core.Path.{◌≡◌, refl, sym, ap, ap₂, ◌∙◌}
use mathlib.Core.Bool.{Bool, true, false, not, ◌&&◌, ◌||◌, and-false, or_assoc}
use mathlib.Core.List.{List, [], ◌∷◌, ◌++◌, map}
use native.Mathlib.Omega.{arith}
use lib.ListN.{length, length-map}
use lib.Dec.{eqb, ltb}
use borrow.Author.Tests.{eq-eqb, ne_eqb, eqb-true, eqb-false, lt-ltb, le-ltb, ltb-true, ltb-false}
use Rattle.rules.specs.Record.{one_of}
use Rattle.rules.specs.Clauses.{Lit, Lit.plain, Lit.negated, Clause, place}
use Rattle.rules.specs.Resolution.{same, has, NoneTwice, without, once, resolvent, is_empty}
use Rattle.refutation.specs.Memory.{Means}
use Rattle.refutation.specs.Making.{union, pivots}
use Rattle.refutation.proofs.CodeLaws.{Distinct, member_union, no_filler, distinct_union, same_length}

doubled : (v w d : ℕ) → eqb v w ≡ eqb (2 * v + d) (2 * w + d)
doubled v w d = go (eqb v w) refl
  where
    go : (b : Bool) → eqb v w ≡ b → eqb v w ≡ eqb (2 * v + d) (2 * w + d)
    go true e = let h = eqb-true v w e in e ∙ sym (eq-eqb (2 * v + d) (2 * w + d) (omega arith))
    go false e = e ∙ sym (ne_eqb (2 * v + d) (2 * w + d) (λ f. eqb-false v w e (omega arith)))

-- literals are the same where their codes are
pub same_code : (x y : Lit) → same x y ≡ eqb (place x) (place y)
unfolding place
same_code (plain v) (plain w) =
    let e : 2 * v + 0 ≡ 2 * v = omega arith in
    let f : 2 * w + 0 ≡ 2 * w = omega arith in
    rw (e, f) at (doubled v w 0)
same_code (plain v) (negated w) = sym (ne_eqb (2 * v) (2 * w + 1) (λ e. omega arith))
same_code (negated v) (plain w) = sym (ne_eqb (2 * v + 1) (2 * w) (λ e. omega arith))
same_code (negated v) (negated w) = doubled v w 1

pub has_code : (c : Clause) (x : Lit) → has c x ≡ one_of (map place c) (place x)
unfolding has
has_code [] x = refl
has_code (y ∷ c) x = ap₂ ◌||◌ (same_code x y) (has_code c x)

pub distinct_codes : (c : Clause) → NoneTwice c → Distinct (map place c)
unfolding NoneTwice
distinct_codes [] h = tt
distinct_codes (x ∷ c) h = (sym (has_code c x) ∙ h.0, distinct_codes c h.1)

-- every number is a code
pub record Coded (k : ℕ) : Type 0 where
  pub literal : Lit
  pub coded : place literal ≡ k

pub coded_by : (k : ℕ) → Coded k
unfolding place
coded_by k = go (k % 2) refl
  where
    go : (r : ℕ) → k % 2 ≡ r → Coded k
    go zero e = record { literal = plain (k / 2); coded = omega arith }
    go (suc zero) e = record { literal = negated (k / 2); coded = omega arith }
    go (suc (suc r)) e = absurd (omega arith)

-- literals of one code are in the same clauses
pub has_alike : (c : Clause) (x y : Lit) → place x ≡ place y → has c x ≡ has c y
has_alike c x y e = has_code c x ∙ ap (λ (k : ℕ). one_of (map place c) k) e ∙ sym (has_code c y)

same_true : (x y : Lit) → same x y ≡ true → place x ≡ place y
same_true x y h = eqb-true (place x) (place y) (sym (same_code x y) ∙ h)

same_alike : (z x y : Lit) → place x ≡ place y → same z x ≡ same z y
same_alike z x y e = same_code z x ∙ ap (λ (k : ℕ). eqb (place z) k) e ∙ sym (same_code z y)

has_append : (c d : Clause) (x : Lit) → has (c ++ d) x ≡ (has c x || has d x)
unfolding has
has_append [] d x = refl
has_append (y ∷ c) d x = rw (has_append c d x) (sym (or_assoc (same x y) (has c x) (has d x)))

absorbed : (s h : Bool) → (h && not s) ≡ ((s || h) && not s)
absorbed true h = and-false h
absorbed false h = refl

has_without : (x z : Lit) (c : Clause) → has (without x c) z ≡ (has c z && not (same z x))
unfolding has without
has_without x z [] = refl
has_without x z (y ∷ c) = go (has_without x z c) (same x y) refl (same z y) refl
  where
    go : has (without x c) z ≡ (has c z && not (same z x)) → (a : Bool) → same x y ≡ a → (b : Bool) → same z y ≡ b
        → has (without x (y ∷ c)) z ≡ (has (y ∷ c) z && not (same z x))
    go i true e b f =
        let h : same z y ≡ same z x = same_alike z y x (sym (same_true x y e)) in
        rw (e, i, h) (absorbed (same z x) (has c z))
    go i false e true f =
        let h : same z x ≡ false
        = same_code z x ∙ ap (λ (k : ℕ). eqb k (place x)) (same_true z y f)
        ∙ ne_eqb (place y) (place x) (λ g. eqb-false (place x) (place y) (sym (same_code x y) ∙ e) (sym g)) in
        rw (e, f, h)
    go i false e false f = rw (e, f) i

has_once : (c : Clause) (x : Lit) → has (once c) x ≡ has c x
unfolding has once
has_once [] x = refl
has_once (y ∷ c) x = go (has_once c x) (has c y) refl (same x y) refl
  where
    go : has (once c) x ≡ has c x → (a : Bool) → has c y ≡ a → (b : Bool) → same x y ≡ b → has (once (y ∷ c)) x ≡ has (y ∷ c) x
    go i true e true f =
        let h : has c x ≡ true = has_alike c x y (same_true x y f) ∙ e in
        rw (e, f, i, h)
    go i true e false f = rw (e, f, i)
    go i false e b f = rw (e, i)

pub once_once : (c : Clause) → NoneTwice (once c)
unfolding NoneTwice once
once_once [] = tt
once_once (y ∷ c) = go (once_once c) (has c y) refl
  where
    go : NoneTwice (once c) → (a : Bool) → has c y ≡ a → NoneTwice (once (y ∷ c))
    go i true e = rw e i
    go i false e = rw e (has_once c y ∙ e, i)

pub has_resolvent : (p : ℕ) (c d : Clause) (x : Lit)
    → has (resolvent p c d) x ≡ ((has c x && not (same x (plain p))) || (has d x && not (same x (negated p))))
unfolding resolvent
has_resolvent p c d x =
    has_once (without (plain p) c ++ without (negated p) d) x
    ∙ has_append (without (plain p) c) (without (negated p) d) x
    ∙ ap₂ ◌||◌ (has_without (plain p) x c) (has_without (negated p) x d)

pub once_resolvent : (p : ℕ) (c d : Clause) → NoneTwice (resolvent p c d)
unfolding resolvent
once_resolvent p c d = once_once (without (plain p) c ++ without (negated p) d)

pub empty_length : (c : Clause) → is_empty c ≡ eqb (length c) 0
unfolding is_empty
empty_length [] = refl
empty_length (x ∷ c) = sym (ne_eqb (suc (length c)) 0 (λ e. omega arith))

module _ (bs ds : List ℕ) (c d : Clause) (v : ℕ) (f : Means bs c) (g : Means ds d) where
  -- the union of the codes stands for the resolvent
  pub union_means : Means (union bs ds (2 * v)) (resolvent v c d)
  unfolding place
  union_means = record { members = λ x. has_resolvent v c d x ∙ ap₂ ◌||◌ (left x) (right x) ∙ go x (ltb 0 (place x)) refl }
    where
      left : (x : Lit) → (has c x && not (same x (plain v))) ≡ ((ltb 0 (place x) && one_of bs (place x)) && not (eqb (place x) (2 * v)))
      left x = ap₂ (λ (a b : Bool). a && not b) (f.members x) (same_code x (plain v))

      right : (x : Lit) → (has d x && not (same x (negated v))) ≡ ((ltb 0 (place x) && one_of ds (place x)) && not (eqb (place x) (2 * v + 1)))
      right x = ap₂ (λ (a b : Bool). a && not b) (g.members x) (same_code x (negated v))

      go : (x : Lit) (b : Bool) → ltb 0 (place x) ≡ b
          → (((ltb 0 (place x) && one_of bs (place x)) && not (eqb (place x) (2 * v))) || ((ltb 0 (place x) && one_of ds (place x)) && not (eqb (place x) (2 * v + 1))))
          ≡ (ltb 0 (place x) && one_of (union bs ds (2 * v)) (place x))
      go x true e =
          let h = ltb-true 0 (place x) e in
          let z : eqb (place x) 0 ≡ false = ne_eqb (place x) 0 (λ q. omega arith) in
          rw (e, member_union bs ds (2 * v) (place x), z)
      go x false e = rw e

  -- and is as large
  pub union_size : length (union bs ds (2 * v)) ≡ length (resolvent v c d)
  union_size =
      same_length (union bs ds (2 * v)) (map place (resolvent v c d)) (distinct_union bs ds (2 * v))
      (distinct_codes (resolvent v c d) (once_resolvent v c d)) (λ k. at k (coded_by k))
      ∙ length-map (resolvent v c d) place
    where
      by : (x : Lit) (b : Bool) → ltb 0 (place x) ≡ b → one_of (union bs ds (2 * v)) (place x) ≡ has (resolvent v c d) x
      by x true e = sym (union_means.members x ∙ rw e)
      by x false e =
          let h = ltb-false 0 (place x) e in
          let z : place x ≡ 0 = omega arith in
          let n : one_of (union bs ds (2 * v)) (place x) ≡ false = rw z (no_filler bs ds (2 * v)) in
          n ∙ sym (union_means.members x ∙ rw e)

      at : (k : ℕ) → Coded k → one_of (union bs ds (2 * v)) k ≡ one_of (map place (resolvent v c d)) k
      at k r =
          let x : Lit = r.literal in
          rw r.coded at (by x (ltb 0 (place x)) refl ∙ has_code (resolvent v c d) x)

  -- the pivot is there among the codes where it is in the clauses
  pub pivots_mean : (has c (plain v) && has d (negated v)) ≡ pivots bs ds v
  unfolding pivots place
  pivots_mean = go (ltb 0 v) refl
    where
      one : ltb 0 (2 * v + 1) ≡ true
      one = lt-ltb 0 (2 * v + 1) (omega arith)

      go : (b : Bool) → ltb 0 v ≡ b → (has c (plain v) && has d (negated v)) ≡ pivots bs ds v
      go true e =
          let h = ltb-true 0 v e in
          let z : ltb 0 (2 * v) ≡ true = lt-ltb 0 (2 * v) (omega arith) in
          ap₂ ◌&&◌ (f.members (plain v)) (g.members (negated v)) ∙ rw (e, one, z)
      go false e =
          let h = ltb-false 0 v e in
          let z : ltb 0 (2 * v) ≡ false = le-ltb 0 (2 * v) (omega arith) in
          ap₂ ◌&&◌ (f.members (plain v)) (g.members (negated v)) ∙ rw (e, z)
