-- A formula's defining clauses hold exactly when each of its records has the value of the sub-formula that ends there.
-- Assumes nothing.
use Prim.Native.Nat.{ℕ, ◌+◌, ◌-◌, ◌≤◌, ◌<◌}
use native.Mathlib.Omega.{arith}
use mathlib.Core.Path.{◌≡◌, refl, sym, ap, ap₂, ◌∙◌}
use mathlib.Core.Logic.Iff
use mathlib.Core.Logic.{◌↔◌}
use mathlib.Core.Bool.{Bool, true, false, not, ◌&&◌, ◌||◌}
use mathlib.Core.List.{List, ◌++◌}
use lib.Dec.{ltb}
use borrow.Author.Tests.{ltb-true, ltb-false, lt-ltb, le-ltb}
use Rattle.base.specs.Pick.{pick}
use Rattle.rules.specs.Formula.{Inputs, Coils, Leaf.input, Leaf.coil, Leaf.constant, Formula, Formula.leaf, Formula.inverse, Formula.both, Formula.either, reads, value, size}
use Rattle.rules.specs.ReadFormula.{Bounds}
use Rattle.rules.specs.WriteSheet.{Names}
use Rattle.rules.specs.Clauses.{Clause, Vars, top, leaf_clauses, defining}
use Rattle.solving.specs.Solution.{Assignment, Holds}
use Rattle.solving.specs.Values.{ending, record_value}
use Rattle.solving.proofs.Gates.{both_hold, plain_unit, negated_unit, contact, inverts, joins, offers}

-- the n records from g on have in b the values that f gives
abbrev pub Have : Assignment → ℕ → ℕ → (ℕ → Bool) → Type 0
Have b g n f = (m : ℕ) → m < n → b (g + m) ≡ f m

-- each record of f, the first of them g, has its value in b
abbrev pub Right : Assignment → ℕ → Inputs → Coils → Formula → Type 0
Right b g i k f = Have b g (size f) (record_value i k f)

-- the variables of the inputs and coils that are there have in b the values that i and k give
pub record Agree (bounds : Bounds) (vs : Vars) (b : Assignment) (i : Inputs) (k : Coils) : Type 0 where
  pub inputs : (n : ℕ) → n < bounds.inputs → b (vs.input n) ≡ i n
  pub coils : (c : ℕ) → c < bounds.coils → b (vs.coil c) ≡ k c

pub size_pos : (f : Formula) → 1 ≤ size f
unfolding size
size_pos (leaf x) = omega arith
size_pos (inverse f) = omega arith
size_pos (both f h) = omega arith
size_pos (either f h) = omega arith

-- records after records: the first n by f, the next m by h
pub split_have : (b : Assignment) (g n m : ℕ) (f h : ℕ → Bool)
    → Have b g (n + m) (λ (j : ℕ). pick (ltb j n) (f j) (h (j - n))) ↔ (Have b g n f × Have b (g + n) m h)
split_have b g n m f h = (λ r. (first r, second r), λ r. joined r.0 r.1)
  where
    first : Have b g (n + m) (λ (j : ℕ). pick (ltb j n) (f j) (h (j - n))) → Have b g n f
    first r j l = rw (lt-ltb j n l) at (r j (omega arith))

    second : Have b g (n + m) (λ (j : ℕ). pick (ltb j n) (f j) (h (j - n))) → Have b (g + n) m h
    second r j l =
        let e : n + j - n ≡ j = omega arith in
        let s : g + (n + j) ≡ g + n + j = omega arith in
        rw (e, s) at (rw (le-ltb (n + j) n (omega arith)) at (r (n + j) (omega arith)))

    joined : Have b g n f → Have b (g + n) m h → (j : ℕ) → j < n + m → b (g + j) ≡ pick (ltb j n) (f j) (h (j - n))
    joined p q j l = go (ltb j n) refl
      where
        go : (x : Bool) → ltb j n ≡ x → b (g + j) ≡ pick x (f j) (h (j - n))
        go true e = p j (ltb-true j n e)
        go false e =
            let z = ltb-false j n e in
            let s : g + n + (j - n) ≡ g + j = omega arith in
            rw s at (q (j - n) (omega arith))

have_same : (b : Assignment) (g n m : ℕ) (f h : ℕ → Bool) → n ≡ m → ((j : ℕ) → f j ≡ h j) → Have b g n f ↔ Have b g m h
have_same b g n m f h e s = (λ r j l. r j (omega arith) ∙ s j, λ r j l. r j (omega arith) ∙ sym (s j))

have_one : (b : Assignment) (g : ℕ) (f : ℕ → Bool) → Have b g 1 f ↔ (b g ≡ f 0)
have_one b g f = (there, λ e j l. here e j (omega arith))
  where
    there : Have b g 1 f → b g ≡ f 0
    there r = let z : g + 0 ≡ g = omega arith in rw z at (r 0 (omega arith))

    here : b g ≡ f 0 → (j : ℕ) → j ≡ 0 → b (g + j) ≡ f j
    here e j z = let s : g + 0 ≡ g = omega arith in rw (z, s) e

-- what two lists of clauses say; the second may use what the first says
pub in_turn : (b : Assignment) (xs ys : List Clause) {B D : Type 0} → Holds b xs ↔ B → (B → Holds b ys ↔ D) → Holds b (xs ++ ys) ↔ (B × D)
in_turn b xs ys e f =
    let p = both_hold b xs ys in
    (λ h. (e.0 (p.0 h).0, (f (e.0 (p.0 h).0)).0 (p.0 h).1), λ h. p.1 (e.1 h.0, (f h.0).1 h.1))

become : {x y z : Bool} → y ≡ z → (x ≡ y) ↔ (x ≡ z)
become e = (λ h. h ∙ e, λ h. h ∙ sym e)

-- a formula ends at its last record
last : (f : Formula) → ending f (size f - 1) ≡ f
unfolding ending size
last (leaf x) = refl
last (inverse f) = rw (le-ltb (size f + 1 - 1) (size f) (omega arith))
last (both f h) =
    rw (le-ltb (size f + size h + 1 - 1) (size f) (omega arith), le-ltb (size f + size h + 1 - 1 - size f) (size h) (omega arith))
last (either f h) =
    rw (le-ltb (size f + size h + 1 - 1) (size f) (omega arith), le-ltb (size f + size h + 1 - 1 - size f) (size h) (omega arith))

-- an operator's records are its operands' and its own
module _ (b : Assignment) (i : Inputs) (k : Coils) where
  value_pick : (x : Bool) (f h : Formula) → value i k (pick x f h) ≡ pick x (value i k f) (value i k h)
  value_pick true f h = refl
  value_pick false f h = refl

  after_one : (g : ℕ) (f x : Formula)
      → Have b g (size f + 1) (λ (j : ℕ). value i k (pick (ltb j (size f)) (ending f j) x))
      ↔ (Right b g i k f × (b (g + size f) ≡ value i k x))
  after_one g f x =
      Iff.trans (have_same b g _ _ _ _ refl (λ j. value_pick (ltb j (size f)) (ending f j) x))
      (Iff.trans (split_have b g (size f) 1 (record_value i k f) (λ (j : ℕ). value i k x))
      (Iff.and Iff.rfl (have_one b (g + size f) (λ (j : ℕ). value i k x))))

  after_two : (g : ℕ) (f h x : Formula)
      → Have b g (size f + size h + 1)
      (λ (j : ℕ). value i k (pick (ltb j (size f)) (ending f j) (pick (ltb (j - size f) (size h)) (ending h (j - size f)) x)))
      ↔ (Right b g i k f × (Right b (g + size f) i k h × (b (g + size f + size h) ≡ value i k x)))
  after_two g f h x =
      Iff.trans (have_same b g _ _ _ _ (omega arith) (λ j. value_pick (ltb j (size f)) (ending f j) _))
      (Iff.trans (split_have b g (size f) (size h + 1) (record_value i k f) (λ (j : ℕ). value i k (pick (ltb j (size h)) (ending h j) x)))
      (Iff.and Iff.rfl (after_one (g + size f) h x)))

  pub top_right : (g : ℕ) (f : Formula) → Right b g i k f → b (top g f) ≡ value i k f
  top_right g f r =
      let p = size_pos f in
      let e : g + (size f - 1) ≡ g + size f - 1 = omega arith in
      (rw e at (r (size f - 1) (omega arith))) ∙ ap (value i k) (last f)

  module _ (bounds : Bounds) (vs : Vars) (agree : Agree bounds vs b i k) where
    pub records : (g : ℕ) (f : Formula) → Names bounds f → Holds b (defining vs g f) ↔ Right b g i k f
    unfolding defining leaf_clauses Names size ending value reads
    records g (leaf (input n)) m =
        Iff.trans (contact b g (vs.input n)) (Iff.trans (become (agree.inputs n m)) (Iff.symm (have_one b g _)))
    records g (leaf (coil n)) m =
        Iff.trans (contact b g (vs.coil n)) (Iff.trans (become (agree.coils n m)) (Iff.symm (have_one b g _)))
    records g (leaf (constant true)) m = Iff.trans (plain_unit b g) (Iff.symm (have_one b g _))
    records g (leaf (constant false)) m = Iff.trans (negated_unit b g) (Iff.symm (have_one b g _))
    records g (inverse f) m =
        Iff.trans
        (in_turn b (defining vs g f) _ (records g f m) (λ r. Iff.trans (inverts b (g + size f) (top g f)) (become (ap not (top_right g f r)))))
        (Iff.symm (after_one g f (inverse f)))
    records g (both f h) m =
        Iff.trans
        (in_turn b (defining vs g f) _ (records g f m.0) (λ r.
        in_turn b (defining vs (g + size f) h) _ (records (g + size f) h m.1) (λ s.
        Iff.trans (joins b (g + size f + size h) (top g f) (top (g + size f) h))
        (become (ap₂ ◌&&◌ (top_right g f r) (top_right (g + size f) h s))))))
        (Iff.symm (after_two g f h (both f h)))
    records g (either f h) m =
        Iff.trans
        (in_turn b (defining vs g f) _ (records g f m.0) (λ r.
        in_turn b (defining vs (g + size f) h) _ (records (g + size f) h m.1) (λ s.
        Iff.trans (offers b (g + size f + size h) (top g f) (top (g + size f) h))
        (become (ap₂ ◌||◌ (top_right g f r) (top_right (g + size f) h s))))))
        (Iff.symm (after_two g f h (either f h)))
