-- The clause that a step computes holds what the rule says, each literal once; clauses with the same literals have one size.
-- Assumes nothing.
use Prim.Native.Nat.{ℕ, ◌≤◌, ◌<◌}
use mathlib.Core.Path.{◌≡◌, refl, sym, ap, ◌∙◌}
use mathlib.Core.Logic.{◌⊎◌, ◌⊎◌.inl, ◌⊎◌.inr, ◌↔◌, ◌≢◌}
use mathlib.Core.Bool.{Bool, true, false, ◌||◌, or_assoc, false≢true}
use mathlib.Core.List.{[], ◌∷◌, ◌++◌}
use native.Mathlib.Omega.{arith}
use lib.ListN.{length}
use borrow.Author.Tests.{eqb-true, eq-eqb}
use Rattle.base.specs.Pick.{pick}
use Rattle.rules.specs.Clauses.{Lit, Lit.plain, Lit.negated, Clause}
use Rattle.rules.specs.Resolution.{same, has, ◌∈◌, NoneTwice, Resolves, without, once, resolvent}
use Rattle.proving.specs.Grounds.{ResolventRight, Alike, RuleSettles}
use Rattle.proving.proofs.Bools.{never, or_cases, or_left, or_right, together}

pub same_equal : (x y : Lit) → same x y ≡ true → x ≡ y
same_equal (plain v) (plain w) e = ap plain (eqb-true v w e)
same_equal (plain v) (negated w) e = absurd (false≢true e)
same_equal (negated v) (plain w) e = absurd (false≢true e)
same_equal (negated v) (negated w) e = ap negated (eqb-true v w e)

pub same_self : (x : Lit) → same x x ≡ true
same_self (plain v) = eq-eqb v v refl
same_self (negated v) = eq-eqb v v refl

pub equal_same : (x y : Lit) → x ≡ y → same x y ≡ true
equal_same x y e = rw e (same_self y)

pub has_head : (x : Lit) (c : Clause) → x ∈ x ∷ c
unfolding has
has_head x c = or_left (same x x) (has c x) (same_self x)

pub has_append : (c d : Clause) (x : Lit) → has (c ++ d) x ≡ (has c x || has d x)
unfolding has
has_append [] d x = refl
has_append (y ∷ c) d x = ap (λ (b : Bool). same x y || b) (has_append c d x) ∙ sym (or_assoc (same x y) (has c x) (has d x))

-- the literals of c but x
LeftOut : Lit → Clause → Clause → Type 0
LeftOut x c e = (y : Lit) → y ∈ e ↔ ((y ∈ c) × (y ≢ x))

left_out_one : (x : Lit) (c : Clause) (z : Lit) (e : Clause) → x ≡ z → LeftOut x c e → LeftOut x (z ∷ c) e
unfolding has LeftOut
left_out_one x c z e q h y = (λ k. (or_right (same y z) (has c y) ((h y).0 k).0, ((h y).0 k).1), λ k. (h y).1 (past (or_cases (same y z) (has c y) k.0) k.1, k.1))
  where
    past : (same y z ≡ true) ⊎ (has c y ≡ true) → y ≢ x → y ∈ c
    past (inl k) n = absurd (n (same_equal y z k ∙ sym q))
    past (inr k) n = k

left_out_kept : (x : Lit) (c : Clause) (z : Lit) (e : Clause) → x ≢ z → LeftOut x c e → LeftOut x (z ∷ c) (z ∷ e)
unfolding has LeftOut
left_out_kept x c z e q h y = (λ k. there (or_cases (same y z) (has e y) k), λ k. back (or_cases (same y z) (has c y) k.0) k.1)
  where
    there : (same y z ≡ true) ⊎ (has e y ≡ true) → ((y ∈ z ∷ c) × (y ≢ x))
    there (inl k) = (or_left (same y z) (has c y) k, λ n. q (sym n ∙ same_equal y z k))
    there (inr k) = (or_right (same y z) (has c y) ((h y).0 k).0, ((h y).0 k).1)

    back : (same y z ≡ true) ⊎ (has c y ≡ true) → y ≢ x → y ∈ z ∷ e
    back (inl k) n = or_left (same y z) (has e y) k
    back (inr k) n = or_right (same y z) (has e y) ((h y).1 (k, n))

left_out : (x : Lit) (c : Clause) → LeftOut x c (without x c)
unfolding has without LeftOut
left_out x [] = λ y. (λ e. absurd (false≢true e), λ h. h.0)
left_out x (z ∷ c) = go (same x z) refl (left_out x c)
  where
    go : (b : Bool) → same x z ≡ b → LeftOut x c (without x c) → LeftOut x (z ∷ c) (pick b (without x c) (z ∷ without x c))
    go true e h = left_out_one x c z (without x c) (same_equal x z e) h
    go false e h = left_out_kept x c z (without x c) (λ q. never (same x z) (equal_same x z q) e) h

pub has_without : (x : Lit) (c : Clause) (y : Lit) → y ∈ without x c ↔ ((y ∈ c) × (y ≢ x))
unfolding LeftOut
has_without x c y = left_out x c y

pub has_once : (c : Clause) (x : Lit) → has (once c) x ≡ has c x
unfolding has once
has_once [] x = refl
has_once (y ∷ c) x = go (has c y) refl (has_once c x)
  where
    go : (b : Bool) → has c y ≡ b → has (once c) x ≡ has c x → has (pick b (once c) (y ∷ once c)) x ≡ (same x y || has c x)
    go true e h = h ∙ sym (again (same x y) refl)
      where
        again : (b : Bool) → same x y ≡ b → (b || has c x) ≡ has c x
        again true k = sym (rw (same_equal x y k) e)
        again false k = refl
    go false e h = ap (λ (b : Bool). same x y || b) h

pub once_once : (c : Clause) → NoneTwice (once c)
unfolding NoneTwice once
once_once [] = tt
once_once (y ∷ c) = go (has c y) refl (once_once c)
  where
    go : (b : Bool) → has c y ≡ b → NoneTwice (once c) → NoneTwice (pick b (once c) (y ∷ once c))
    go true e h = h
    go false e h = (has_once c y ∙ e, h)

-- the computation keeps to the rule
pub resolvent_resolves : ResolventRight
unfolding resolvent
resolvent_resolves p c d hc hd = record {
  plainly = hc;
  negatedly = hd;
  set = once_once (without (plain p) c ++ without (negated p) d);
  joined = λ x. (λ h. there x (or_cases (has (without (plain p) c) x) (has (without (negated p) d) x) (sym (both x) ∙ h)), λ h. both x ∙ back x h);
}
  where
    both : (x : Lit) → has (once (without (plain p) c ++ without (negated p) d)) x ≡ (has (without (plain p) c) x || has (without (negated p) d) x)
    both x = has_once (without (plain p) c ++ without (negated p) d) x ∙ has_append (without (plain p) c) (without (negated p) d) x

    there : (x : Lit) → (x ∈ without (plain p) c) ⊎ (x ∈ without (negated p) d) → (x ∈ c × x ≢ plain p) ⊎ (x ∈ d × x ≢ negated p)
    there x (inl h) = inl ((has_without (plain p) c x).0 h)
    there x (inr h) = inr ((has_without (negated p) d x).0 h)

    back : (x : Lit) → (x ∈ c × x ≢ plain p) ⊎ (x ∈ d × x ≢ negated p) → (has (without (plain p) c) x || has (without (negated p) d) x) ≡ true
    back x (inl h) = or_left (has (without (plain p) c) x) (has (without (negated p) d) x) ((has_without (plain p) c x).1 h)
    back x (inr h) = or_right (has (without (plain p) c) x) (has (without (negated p) d) x) ((has_without (negated p) d x).1 h)

-- a clause that lacks a literal is shorter
without_short : (x : Lit) (c : Clause) → length (without x c) ≤ length c
unfolding without
without_short x [] = omega arith
without_short x (y ∷ c) = go (same x y) (without_short x c)
  where
    go : (b : Bool) → length (without x c) ≤ length c → length (pick b (without x c) (y ∷ without x c)) ≤ length (y ∷ c)
    go true h = omega arith
    go false h = omega arith

without_shorter : (x : Lit) (c : Clause) → x ∈ c → length (without x c) < length c
unfolding has without
without_shorter x [] h = absurd (false≢true h)
without_shorter x (y ∷ c) h = go (same x y) (without_short x c) (without_shorter x c) h
  where
    go : (b : Bool) → length (without x c) ≤ length c → (x ∈ c → length (without x c) < length c) → (b || has c x) ≡ true
        → length (pick b (without x c) (y ∷ without x c)) < length (y ∷ c)
    go true s r k = omega arith
    go false s r k = let z = r k in omega arith

-- no literal twice: no longer than any clause with at least its literals
pub subset_length : (c d : Clause) → NoneTwice c → ((x : Lit) → x ∈ c → x ∈ d) → length c ≤ length d
unfolding has NoneTwice
subset_length [] d n h = omega arith
subset_length (x ∷ c) d n h =
    let s = without_shorter x d (h x (has_head x c)) in
    let r = subset_length c (without x d) n.1 (λ y k. (has_without x d y).1 (h y (or_right (same y x) (has c y) k), λ q. never (has c y) k (rw q n.0))) in
    omega arith

pub alike_length : (c d : Clause) → NoneTwice c → NoneTwice d → Alike c d → length c ≡ length d
alike_length c d m n h =
    let a = subset_length c d m (λ x k. sym (h x) ∙ k) in
    let b = subset_length d c n (λ x k. h x ∙ k) in
    omega arith

pub alike_empty : (c : Clause) → Alike [] c → c ≡ []
unfolding has
alike_empty [] h = refl
alike_empty (x ∷ c) h = absurd (false≢true (h x ∙ has_head x c))

-- where a derived literal comes from
abbrev From : ℕ → Clause → Clause → Lit → Type 0
From p c d x = (x ∈ c × x ≢ plain p) ⊎ (x ∈ d × x ≢ negated p)

from_alike : (p : ℕ) (c d c' d' : Clause) → Alike c c' → Alike d d' → (x : Lit) → From p c d x → From p c' d' x
from_alike p c d c' d' hc hd x (inl h) = inl (sym (hc x) ∙ h.0, h.1)
from_alike p c d c' d' hc hd x (inr h) = inr (sym (hd x) ∙ h.0, h.1)

module _ (p : ℕ) (c d e c' d' : Clause) (hc : Alike c c') (hd : Alike d d') (r : Resolves p c d e) where
  there : (x : Lit) → From p c d x → From p c' d' x
  there = from_alike p c d c' d' hc hd

  back : (x : Lit) → From p c' d' x → From p c d x
  back = from_alike p c' d' c d (λ x. sym (hc x)) (λ x. sym (hd x))

  -- the rule holds of all clauses with the same literals
  pub resolves_over : Resolves p c' d' e
  resolves_over = record {
    plainly = sym (hc (plain p)) ∙ r.plainly;
    negatedly = sym (hd (negated p)) ∙ r.negatedly;
    set = r.set;
    joined = λ x. (λ k. there x ((r.joined x).0 k), λ k. (r.joined x).1 (back x k));
  }

  -- and settles the literals of what it derives
  pub resolves_alike : (e' : Clause) → Resolves p c' d' e' → Alike e e'
  resolves_alike e' s x = together (has e x) (has e' x) (λ k. (s.joined x).1 (there x ((r.joined x).0 k)), λ k. (r.joined x).1 (back x ((s.joined x).0 k)))

pub rule_settles : RuleSettles
rule_settles p c d e c' d' e' hc hd r s =
    let like : Alike e e' = resolves_alike p c d e c' d' hc hd r e' s in
    record { literals = like; width = alike_length e e' r.set s.set like }
