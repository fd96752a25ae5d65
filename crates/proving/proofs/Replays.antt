-- A replay knows the coils after its scans, whether the last of them broke the condition, and the first that did.
-- Assumes nothing.
use Prim.Native.Nat.{ℕ, suc, ◌+◌, ◌-◌, ◌<◌, ◌≤◌}
use mathlib.Core.Path.{◌≡◌, refl, sym, ap, subst, ◌∙◌}
use mathlib.Core.Logic.{◌⊎◌, ◌⊎◌.inl, ◌⊎◌.inr, ◌↔◌}
use mathlib.Core.Bool.{Bool, true, false, not, ◌&&◌, true≢false, false≢true}
use mathlib.Core.List.{List, [], ◌∷◌, ◌++◌, map}
use native.Mathlib.Numerals.{add-one}
use native.Mathlib.Omega.{arith}
use lib.ListN.{length, get_or, take, drop, length-drop}
use lib.Seq.{take-suc, drop-cons}
use lib.Dec.{ltb, leb, eqb}
use borrow.Author.Tests.{not-true, ltb-true, ltb-false, leb-true, leb-false, eq-eqb, ne_eqb}
use Rattle.base.specs.Pick.{pick}
use Rattle.rules.specs.Formula.{Inputs, Coils, value}
use Rattle.rules.specs.Sheet.{Sheet, start_of, Begins, scan, scans, holds_after, Safe}
use Rattle.rules.specs.Certificate.{Trace, named}
use Rattle.rules.specs.Verdict.{Replay, replayed, unplayed}
use Rattle.proving.specs.Replayed.{inputs_at, coils_after, Broken}

scans_snoc : (t : Sheet) (k : Coils) (is : List Inputs) (i : Inputs) → scans t k (is ++ (i ∷ [])) ≡ scan t i (scans t k is)
unfolding scans
scans_snoc t k [] i = refl
scans_snoc t k (j ∷ is) i = scans_snoc t (scan t j k) is i

named_snoc : (tr : Trace) (on : List ℕ) → map named (tr ++ (on ∷ [])) ≡ map named tr ++ (named on ∷ [])
named_snoc [] on = refl
named_snoc (o ∷ tr) on = ap (λ (is : List Inputs). named o ∷ is) (named_snoc tr on)

-- no scan up to c broke the condition
abbrev None : Sheet → Trace → ℕ → Type 0
None t tr c = (j : ℕ) → 1 ≤ j → j ≤ c → Broken t tr j → ⊥

-- f is the first scan that broke the condition
pub record FirstBroken (t : Sheet) (tr : Trace) (f : ℕ) : Type 0 where
  pub from_one : 1 ≤ f
  pub broken : Broken t tr f
  pub none_before : (j : ℕ) → 1 ≤ j → j < f → Broken t tr j → ⊥

-- f is that scan among the first c, or 0 where there is none
abbrev Found : Sheet → Trace → ℕ → ℕ → Type 0
Found t tr c f = ((f ≡ 0) × None t tr c) ⊎ ((f ≤ c) × FirstBroken t tr f)

-- a replay after c scans of tr
pub record Stands (t : Sheet) (tr : Trace) (c : ℕ) (g : Replay) : Type 0 where
  pub count_is : g.count ≡ c
  pub coils_are : g.coils ≡ scans t (start_of t.starts) (map named (take c tr))
  pub broken_is : (g.broken ≡ true) ↔ ((1 ≤ c) × Broken t tr c)
  pub first_is : Found t tr c g.first

stands_first : (t : Sheet) (tr : Trace) → Stands t tr 0 (unplayed t)
unfolding scans
stands_first t tr = record {
  count_is = refl;
  coils_are = refl;
  broken_is = (λ e. absurd (false≢true e), λ h. let k = h.0 in absurd (omega arith));
  first_is = inl (refl, λ j a b h. absurd (omega arith));
}

module _ (t : Sheet) (tr : Trace) (c : ℕ) where
  none_more : None t tr c → (Broken t tr (c + 1) → ⊥) → None t tr (c + 1)
  none_more h k j a d z = by (leb j c) refl
    where
      by : (x : Bool) → leb j c ≡ x → ⊥
      by true e = h j a (leb-true j c e) z
      by false e = let f = leb-false j c e in let q : j ≡ c + 1 = omega arith in k (rw q at z)

  first_next : (f : ℕ) (x : Bool) → (x ≡ true) ↔ Broken t tr (c + 1) → Found t tr c f → Found t tr (c + 1) (pick (eqb f 0 && x) (c + 1) f)
  first_next f true e (inl h) =
      rw (eq-eqb f 0 h.0) (inr (omega arith, record { from_one = omega arith; broken = e.0 refl; none_before = λ j a d k. h.1 j a (omega arith) k }))
  first_next f false e (inl h) = rw (eq-eqb f 0 h.0) (inl (h.0, none_more h.1 (λ k. false≢true (e.1 k))))
  first_next f x e (inr h) = let k = h.1.from_one in rw (ne_eqb f 0 (omega arith)) (inr (let d = h.0 in omega arith, h.1))

  module _ (b : c < length tr) (k : Coils) (s : k ≡ scans t (start_of t.starts) (map named (take c tr))) where
    next_coils : scan t (named (get_or tr c [])) k ≡ scans t (start_of t.starts) (map named (take (c + 1) tr))
    next_coils = rw (add-one, take-suc tr c [] b, named_snoc, scans_snoc, s)

    held : holds_after t (named (get_or tr c [])) k ≡ value (inputs_at tr (c + 1)) (coils_after t tr (c + 1)) t.condition
    unfolding holds_after
    held = let same : c + 1 - 1 ≡ c = omega arith in rw (same, next_coils)

    next_broken : (not (holds_after t (named (get_or tr c [])) k) ≡ true) ↔ Broken t tr (c + 1)
    unfolding Broken
    next_broken = (λ h. sym held ∙ not-true (holds_after t (named (get_or tr c [])) k) h, λ h. rw (held, h))

  stands_next : c < length tr → (g : Replay) → Stands t tr c g → Stands t tr (c + 1) (replayed t g (get_or tr c []))
  unfolding replayed
  stands_next b g s = record {
    count_is = ap (λ (n : ℕ). n + 1) s.count_is;
    coils_are = next_coils b g.coils s.coils_are;
    broken_is = (λ h. (omega arith, breaks.0 h), λ h. breaks.1 h.1);
    first_is = rw s.count_is (first_next g.first (not (holds_after t (named (get_or tr c [])) g.coils)) breaks s.first_is);
  }
    where
      breaks : (not (holds_after t (named (get_or tr c [])) g.coils) ≡ true) ↔ Broken t tr (c + 1)
      breaks = next_broken b g.coils s.coils_are

-- the scans one after the other
abbrev pub replay : Sheet → Replay → Trace → Replay
replay t g [] = g
replay t g (on ∷ tr) = replay t (replayed t g on) tr

stands_on : (t : Sheet) (tr todo : Trace) (c : ℕ) (g : Replay) → drop c tr ≡ todo → c ≤ length tr
    → Stands t tr c g → Stands t tr (length tr) (replay t g todo)
stands_on t tr [] c g e b s =
    let h = length-drop c tr in
    let k : length (drop c tr) ≡ 0 = ap length e in
    let q : c ≡ length tr = omega arith in
    rw q at s
stands_on t tr (on ∷ todo) c g e b s =
    let h = length-drop c tr in
    let k : length (drop c tr) ≡ suc (length todo) = ap length e in
    let l : c < length tr = omega arith in
    let d = drop-cons tr c [] l in
    let o : get_or tr c [] ≡ on = cc in
    let r : drop (suc c) tr ≡ todo = cc in
    stands_on t tr todo (c + 1) (replayed t g on) (rw add-one r) (omega arith) (rw o at (stands_next t tr c l g s))

pub stands_whole : (t : Sheet) (tr : Trace) → Stands t tr (length tr) (replay t (unplayed t) tr)
stands_whole t tr = stands_on t tr tr 0 (unplayed t) refl (omega arith) (stands_first t tr)

-- m is the first scan that broke the condition, and the last one broke it
pub record Breaks (t : Sheet) (tr : Trace) (m : ℕ) : Type 0 where
  pub last_broken : Broken t tr (length tr)
  pub there : m ≤ length tr
  pub first_broken : FirstBroken t tr m

module _ (t : Sheet) (tr : Trace) (m : ℕ) (g : Replay) (s : Stands t tr (length tr) g) where
  pub stands_breaks : g.broken ≡ true → g.first ≡ m → Breaks t tr m
  stands_breaks b f = by (s.broken_is.0 b) s.first_is
    where
      by : (1 ≤ length tr) × Broken t tr (length tr) → Found t tr (length tr) g.first → Breaks t tr m
      by h (inl k) = absurd (k.1 (length tr) h.0 (omega arith) h.1)
      by h (inr k) = record { last_broken = h.1; there = let d = k.0 in omega arith; first_broken = rw f at k.1 }

  pub breaks_stands : Breaks t tr m → (g.broken ≡ true) × (g.first ≡ m)
  breaks_stands k = (s.broken_is.1 (some, k.last_broken), by s.first_is)
    where
      one : 1 ≤ m
      one = k.first_broken.from_one

      some : 1 ≤ length tr
      some = let a = one in let d = k.there in omega arith

      meet : FirstBroken t tr g.first → (x y : Bool) → ltb g.first m ≡ x → ltb m g.first ≡ y → g.first ≡ m
      meet h true y e d = absurd (k.first_broken.none_before g.first h.from_one (ltb-true g.first m e) h.broken)
      meet h false true e d = absurd (h.none_before m one (ltb-true m g.first d) k.first_broken.broken)
      meet h false false e d = let u = ltb-false g.first m e in let v = ltb-false m g.first d in omega arith

      by : Found t tr (length tr) g.first → g.first ≡ m
      by (inl h) = absurd (h.1 m one k.there k.first_broken.broken)
      by (inr h) = meet h.1 (ltb g.first m) (ltb m g.first) refl refl

-- no scan of a safe sheet is broken
pub safe_unbroken : (t : Sheet) (tr : Trace) (m : ℕ) → Safe t → 1 ≤ m → m ≤ length tr → Broken t tr m → ⊥
unfolding Safe Begins
safe_unbroken t tr m h a d b =
    let e : m ≡ m - 1 + 1 = omega arith in
    let k = scans t (start_of t.starts) (map named (take (m - 1) tr)) in
    let f : holds_after t (named (get_or tr (m - 1) [])) k ≡ false =
    not-true _ ((next_broken t tr (m - 1) (omega arith) k refl).1 (subst (λ (j : ℕ). Broken t tr j) e b)) in
    true≢false (sym (h (start_of t.starts) (λ c i. refl) (map named (take (m - 1) tr)) (named (get_or tr (m - 1) []))) ∙ f)
