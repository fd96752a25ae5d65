-- A code more for a clause under construction, and the codes of another clause joined to it.
-- Assumes nothing.
use Prim.Native.Nat.{ℕ, ◌+◌, ◌≤◌, ◌<◌}
use mathlib.Core.Path.{◌≡◌, refl, sym, ap, ◌∙◌}
use mathlib.Core.Bool.{Bool, true, false, or-true}
use mathlib.Core.List.{List, [], ◌∷◌, ◌++◌}
use native.Mathlib.Omega.{arith}
use lib.ListN.{length, get_or, drop, set, length-append}
use borrow.Author.Tests.{eq-eqb, ne_eqb}
use Rattle.rules.specs.Record.{one_of}
use Rattle.refutation.specs.Memory.{part, Outside}
use Rattle.refutation.specs.declared.codes.Spot.{Spot}
use Rattle.refutation.specs.Making.{codes, with, unless, joined, Built, Space, Grown, Apart}
use Rattle.refutation.proofs.PartLaws.{left, none_left, part_front, outside_same, outside_then, outside_set, part_more}

length_with : (x : ℕ) (xs : List ℕ) → length xs ≤ length (with x xs)
unfolding with
length_with x xs = go (one_of xs x) refl
  where
    go : (b : Bool) → one_of xs x ≡ b → length xs ≤ length (with x xs)
    go true e = rw e (omega arith)
    go false e = rw (e, length-append) (omega arith)

module _ (w : List ℕ) (a width k x : ℕ) where
  pub add_over : Space w a width k → width < k → Grown w a width k (with x) w k
  add_over s h = record {
    built = λ xs b. record {
      counted = let n = length_with x xs in omega (arith, b.counted, s.upto);
      kept = λ j. absurd (omega arith);
    };
    upto = s.upto;
    outside = outside_same a (a + width) w;
  }

  module _ (r : Bool) (y : ℕ) (e : r ≡ one_of (part w a k) y) (i : y ≡ x) (s : Space w a width k) (h : k ≤ width) where
    same_test : (xs : List ℕ) → Built w a width k xs → one_of xs x ≡ r
    same_test xs b = sym (rw i at e ∙ ap (λ (z : List ℕ). one_of z x) (b.kept h))

    pub add_there : r ≡ true → Grown w a width k (with x) w k
    unfolding with
    add_there q = record {
      built = λ xs b. let t : one_of xs x ≡ true = same_test xs b ∙ q in rw t b;
      upto = s.upto;
      outside = outside_same a (a + width) w;
    }

    pub add_past : r ≡ false → width ≤ k → Grown w a width k (with x) w (k + 1)
    unfolding with
    add_past q z = record {
      built = λ xs b.
          let t : one_of xs x ≡ false = same_test xs b ∙ q in
          rw t
          (record { counted = rw length-append (omega (arith, b.counted)); kept = λ j. absurd (omega arith) });
      upto = omega arith;
      outside = outside_same a (a + width) w;
    }

    pub add_new : r ≡ false → k < width → Grown w a width k (with x) (set w (a + k) x) (k + 1)
    unfolding with
    add_new q z = record {
      built = λ xs b.
          let t : one_of xs x ≡ false = same_test xs b ∙ q in
          rw t
          (record {
            counted = rw length-append (omega (arith, b.counted));
            kept = λ j. part_more w a k x (omega (arith, s.fits)) ∙ ap (λ (y : List ℕ). y ++ (x ∷ [])) (b.kept h);
          });
      upto = omega arith;
      outside = outside_set a (a + width) w (a + k) x (omega arith) (omega arith);
    }

pub ruleset add_cases = (add_over, add_there, add_past, add_new)

module _ (w : List ℕ) (a width k x p : ℕ) where
  same : (eqs : (xs : List ℕ) → unless p x xs ≡ xs) → Space w a width k → Grown w a width k (unless p x) w k
  same f s = record { built = λ xs b. rw (f xs) b; upto = s.upto; outside = outside_same a (a + width) w }

  pub but_filler : Space w a width k → x ≡ 0 → Grown w a width k (unless p x) w k
  unfolding unless
  but_filler s e = same (λ xs. rw (eq-eqb _ _ e)) s

  pub but_left_out : Space w a width k → (y : ℕ) → y ≡ x → y ≡ p → Grown w a width k (unless p x) w k
  unfolding unless
  but_left_out s y i e = same (λ xs. rw (eq-eqb x p (sym i ∙ e), or-true)) s

  pub but_put_in : (x ≡ 0 → ⊥) → (y : ℕ) → y ≡ x → (y ≡ p → ⊥) → (w' : List ℕ) (r : ℕ) → Grown w a width k (with x) w' r → Grown w a width k (unless p x) w' r
  unfolding unless
  but_put_in e y i f w' r g = record {
    built = λ xs b. rw (ne_eqb _ _ e, ne_eqb x p (λ z. f (i ∙ z))) (g.built xs b);
    upto = g.upto;
    outside = g.outside;
  }

pub ruleset add_but_cases = (but_filler, but_left_out, but_put_in)

-- the codes from i on, joined to what stands now, are as all of them joined to what stood at first
pub record Joining (w₀ : List ℕ) (a width k₀ : ℕ) (x : Spot) (p : ℕ) (w : List ℕ) (k i : ℕ) : Type 0 where
  pub space : Space w a width k
  pub apart : x.start + x.count ≤ a
  pub upto : i ≤ x.count
  pub long : length w ≡ length w₀
  pub outside : Outside a (a + width) w₀ w
  pub built : (xs : List ℕ) → Built w₀ a width k₀ xs → (ys : List ℕ) × Built w a width k ys × (joined p (drop i (codes w x)) ys ≡ joined p (codes w₀ x) xs)

pub join_begin : (w : List ℕ) (a width k : ℕ) (x : Spot) (p : ℕ) → Apart w a width k x → Joining w a width k x p w k 0
join_begin w a width k x p h = record {
  space = h.space;
  apart = h.apart;
  upto = omega arith;
  long = refl;
  outside = outside_same a (a + width) w;
  built = λ xs b. (xs, b, refl);
}

module _ (w₀ : List ℕ) (a width k₀ : ℕ) (x : Spot) (p : ℕ) (w : List ℕ) (k i : ℕ) (j : Joining w₀ a width k₀ x p w k i) where
  within : x.start + x.count ≤ length w
  within = omega (arith, j.apart, j.space.fits)

  pub join_on : i < x.count → (w' : List ℕ) (r : ℕ) → Grown w a width k (unless p (get_or w (x.start + i) 0)) w' r → length w' ≡ length w
      → Joining w₀ a width k₀ x p w' r (i + 1)
  unfolding joined
  join_on h w' r g e = record {
    space = record { fits = omega (arith, j.space.fits); upto = g.upto };
    apart = j.apart;
    upto = omega arith;
    long = e ∙ j.long;
    outside = outside_then a (a + width) w₀ w w' j.outside g.outside;
    built = λ xs b. again xs (j.built xs b);
  }
    where
      again : (xs : List ℕ) → (ys : List ℕ) × Built w a width k ys × (joined p (drop i (codes w x)) ys ≡ joined p (codes w₀ x) xs)
          → (ys : List ℕ) × Built w' a width r ys × (joined p (drop (i + 1) (codes w' x)) ys ≡ joined p (codes w₀ x) xs)
      again xs t =
          let q : joined p (get_or w (x.start + i) 0 ∷ drop (i + 1) (codes w x)) t.0 ≡ joined p (codes w₀ x) xs
          = rw (left w x.start x.count within i h) at t.2 in
          let f : codes w' x ≡ codes w x = part_front w w' a x.start x.count g.outside.front j.apart in
          (unless p (get_or w (x.start + i) 0) t.0, g.built t.0 t.1, rw f q)

  pub join_end : x.count ≤ i → Grown w₀ a width k₀ (joined p (codes w₀ x)) w k
  unfolding joined
  join_end h = record { built = λ xs b. last xs (j.built xs b); upto = j.space.upto; outside = j.outside }
    where
      last : (xs : List ℕ) → (ys : List ℕ) × Built w a width k ys × (joined p (drop i (codes w x)) ys ≡ joined p (codes w₀ x) xs)
          → Built w a width k (joined p (codes w₀ x) xs)
      last xs t =
          let q : t.0 ≡ joined p (codes w₀ x) xs = rw (none_left w x.start x.count within i h, joined) at t.2 in
          rw q at t.1

pub ruleset join_cases = (join_begin, join_on, join_end)
