-- What a STEP computes is by the rule, and what is by the rule it computes, up to the order of literals.
-- Assumes nothing.
use Prim.Native.Nat.{ℕ}
use mathlib.Core.Path.{◌≡◌, refl}
use mathlib.Core.Bool.{Bool, true, false, ◌&&◌}
use mathlib.Core.List.{List}
use native.Mathlib.Omega.{arith}
use lib.ListN.{length}
use lib.Dec.{ltb, leb}
use borrow.Author.Tests.{leb-true, leb-false, ltb-false, le-leb, lt-leb, le-ltb}
use Rattle.base.specs.Pick.{pick}
use Rattle.rules.specs.declared.Limits.{Limits}
use Rattle.rules.specs.Certificate.{Step}
use Rattle.rules.specs.Clauses.{Lit.plain, Lit.negated, Clause}
use Rattle.rules.specs.Resolution.{has, Resolves, Nth, ByRule, Derived, Derived.clause, Derived.fault, is_there, nth, resolvent, derive}
use Rattle.proving.specs.Grounds.{Alike, Deduced, DeriveExactly}
use Rattle.proving.proofs.Bools.{and_both, and_each}
use Rattle.proving.proofs.Literals.{resolvent_resolves, alike_length, resolves_alike}

is_nth : (cs : List Clause) (n : ℕ) → is_there cs n ≡ true → Nth cs n (nth cs n)
unfolding is_there
is_nth cs n e = let h = and_each (leb 1 n) (leb n (length cs)) e in record { from_one = leb-true 1 n h.0; there = leb-true n (length cs) h.1; is = refl }

nth_is : (cs : List Clause) (n : ℕ) (c : Clause) → Nth cs n c → is_there cs n ≡ true
unfolding is_there
nth_is cs n c h = and_both (leb 1 n) (leb n (length cs)) (le-leb 1 n h.from_one) (le-leb n (length cs) h.there)

module _ (l : Limits) (cs : List Clause) (n : ℕ) (q : Step) where
  abbrev joint : Clause
  joint = resolvent q.pivot (nth cs q.first) (nth cs q.second)

  abbrev both_there : Bool
  both_there = is_there cs q.first && is_there cs q.second

  abbrev both_pivots : Bool
  both_pivots = has (nth cs q.first) (plain q.pivot) && has (nth cs q.second) (negated q.pivot)

  abbrev outcome : Bool → Bool → Bool → Bool → Derived
  outcome a b c d = pick a (pick b (pick c (fault 20) (pick d (fault 21) (clause joint))) (fault 19)) (fault 18)

  deduce : (e : Clause) (a b c d : Bool) → both_there ≡ a → both_pivots ≡ b → ltb l.width (length joint) ≡ c → leb l.steps n ≡ d
      → outcome a b c d ≡ clause e → Deduced l cs n q e
  deduce e false b c d ea eb ec ed h = let z : ◌≡◌ {A = ℕ} 0 1 = cc in absurd (omega arith)
  deduce e true false c d ea eb ec ed h = let z : ◌≡◌ {A = ℕ} 0 1 = cc in absurd (omega arith)
  deduce e true true true d ea eb ec ed h = let z : ◌≡◌ {A = ℕ} 0 1 = cc in absurd (omega arith)
  deduce e true true false true ea eb ec ed h = let z : ◌≡◌ {A = ℕ} 0 1 = cc in absurd (omega arith)
  deduce e true true false false ea eb ec ed h =
      let t = and_each (is_there cs q.first) (is_there cs q.second) ea in
      let v = and_each (has (nth cs q.first) (plain q.pivot)) (has (nth cs q.second) (negated q.pivot)) eb in
      let s : joint ≡ e = cc in
      record {
        rule = record {
          c = nth cs q.first;
          d = nth cs q.second;
          first = is_nth cs q.first t.0;
          second = is_nth cs q.second t.1;
          resolves = rw s at (resolvent_resolves q.pivot (nth cs q.first) (nth cs q.second) v.0 v.1);
        };
        narrow = rw s at (ltb-false l.width (length joint) ec);
        early = leb-false l.steps n ed;
      }

  pub derive_deduced : (e : Clause) → derive l cs n q ≡ clause e → Deduced l cs n q e
  unfolding derive
  derive_deduced e h = deduce e both_there both_pivots (ltb l.width (length joint)) (leb l.steps n) refl refl refl refl h

  -- a clause by the rule, within the limits, is computed
  pub deduced_derive : (e : Clause) → Deduced l cs n q e → (f : Clause) × (derive l cs n q ≡ clause f) × Alike e f
  unfolding derive
  deduced_derive e h = (joint, simp (et, ev, ew, es), like)
    where
      r : ByRule cs q e
      r = h.rule

      first_is : nth cs q.first ≡ r.c
      first_is = r.first.is

      second_is : nth cs q.second ≡ r.d
      second_is = r.second.is

      re : Resolves q.pivot (nth cs q.first) (nth cs q.second) e
      re = rw (first_is, second_is) r.resolves

      rj : Resolves q.pivot (nth cs q.first) (nth cs q.second) joint
      rj = resolvent_resolves q.pivot (nth cs q.first) (nth cs q.second) re.plainly re.negatedly

      like : Alike e joint
      like = resolves_alike q.pivot (nth cs q.first) (nth cs q.second) e (nth cs q.first) (nth cs q.second) (λ x. refl) (λ x. refl) re joint rj

      et : both_there ≡ true
      et = and_both (is_there cs q.first) (is_there cs q.second) (nth_is cs q.first r.c r.first) (nth_is cs q.second r.d r.second)

      ev : both_pivots ≡ true
      ev = and_both (has (nth cs q.first) (plain q.pivot)) (has (nth cs q.second) (negated q.pivot)) re.plainly re.negatedly

      ew : ltb l.width (length joint) ≡ false
      ew = le-ltb l.width (length joint) (let k = alike_length e joint re.set rj.set like in let m = h.narrow in omega arith)

      es : leb l.steps n ≡ false
      es = lt-leb l.steps n h.early

pub derive_exactly : DeriveExactly
derive_exactly l cs n q = record { sound = derive_deduced l cs n q; whole = deduced_derive l cs n q }
