-- Resolution is sound: what holds of two clauses holds of the clause that the rule derives, so refuted clauses have no solution.
-- Assumes nothing.
use Prim.Native.Nat.{ℕ, zero, suc, ◌+◌, ◌-◌, ◌≤◌, ◌<◌}
use mathlib.Core.Path.{◌≡◌, refl}
use mathlib.Core.Logic.{◌⊎◌, ◌⊎◌.inl, ◌⊎◌.inr}
use mathlib.Core.Bool.{Bool, true, false, not, ◌||◌, false≢true}
use mathlib.Core.List.{List, [], ◌∷◌, ◌++◌}
use native.Mathlib.Omega.{arith}
use lib.ListN.{length, get_or, length-append}
use Rattle.rules.specs.declared.Limits.{Limits}
use Rattle.rules.specs.Certificate.{Step}
use Rattle.rules.specs.Clauses.{Lit, Clause}
use Rattle.rules.specs.Resolution.{same, has, ◌∈◌, Resolves, Nth, ByRule, Run, Run.ready, Run.next, latest}
use Rattle.solving.specs.Solution.{Assignment, literal, clause, Holds}
use Rattle.proving.specs.Grounds.{RefutedUnsolvable}
use Rattle.proving.proofs.Bools.{never, or_cases, or_left, or_right}
use Rattle.proving.proofs.Literals.{same_equal, same_self}

-- a literal of a clause that holds
holding : (a : Assignment) (c : Clause) → clause a c ≡ true → (x : Lit) × (x ∈ c) × (literal a x ≡ true)
unfolding clause has
holding a [] e = absurd (false≢true e)
holding a (x ∷ c) e = by (or_cases (literal a x) (clause a c) e) (holding a c)
  where
    by : (literal a x ≡ true) ⊎ (clause a c ≡ true) → (clause a c ≡ true → (y : Lit) × (y ∈ c) × (literal a y ≡ true))
        → (y : Lit) × (y ∈ x ∷ c) × (literal a y ≡ true)
    by (inl h) f = (x, or_left (same x x) (has c x) (same_self x), h)
    by (inr h) f = let s = f h in (s.0, or_right (same s.0 x) (has c s.0) s.1, s.2)

holds_by : (a : Assignment) (c : Clause) (x : Lit) → x ∈ c → literal a x ≡ true → clause a c ≡ true
unfolding clause has
holds_by a [] x h e = absurd (false≢true h)
holds_by a (y ∷ c) x h e = by (or_cases (same x y) (has c x) h) (λ k. holds_by a c x k e)
  where
    by : (same x y ≡ true) ⊎ (has c x ≡ true) → (has c x ≡ true → clause a c ≡ true) → (literal a y || clause a c) ≡ true
    by (inl k) f = or_left (literal a y) (clause a c) (rw (same_equal x y k) at e)
    by (inr k) f = or_right (literal a y) (clause a c) (f k)

opposite : (b : Bool) → b ≡ true → not b ≡ true → ⊥
opposite true h k = false≢true k
opposite false h k = false≢true h

-- one of the two pivots does not hold, so the clause of the other one holds by a literal that is kept
pub rule_sound : (a : Assignment) (p : ℕ) (c d e : Clause) → Resolves p c d e → clause a c ≡ true → clause a d ≡ true → clause a e ≡ true
unfolding literal
rule_sound a p c d e r hc hd = by (a p) refl
  where
    x : (z : Lit) × (z ∈ c) × (literal a z ≡ true)
    x = holding a c hc

    y : (z : Lit) × (z ∈ d) × (literal a z ≡ true)
    y = holding a d hd

    by : (b : Bool) → a p ≡ b → clause a e ≡ true
    by true q = holds_by a e y.0 ((r.joined y.0).1 (inr (y.1, λ z. opposite (a p) q (rw z at y.2)))) y.2
    by false q = holds_by a e x.0 ((r.joined x.0).1 (inl (x.1, λ z. never (a p) (rw z at x.2) q))) x.2

holds_at : (a : Assignment) (cs : List Clause) → Holds a cs → (k : ℕ) → k < length cs → clause a (get_or cs k []) ≡ true
holds_at a [] h k b = absurd (omega arith)
holds_at a (c ∷ cs) h zero b = h.0
holds_at a (c ∷ cs) h (suc k) b = holds_at a cs h.1 k (omega arith)

holds_nth : (a : Assignment) (cs : List Clause) → Holds a cs → (n : ℕ) (c : Clause) → Nth cs n c → clause a c ≡ true
holds_nth a cs h n c k = rw k.is at (holds_at a cs h (n - 1) (let u = k.from_one in let v = k.there in omega arith))

holds_snoc : (a : Assignment) (cs : List Clause) (e : Clause) → Holds a cs → clause a e ≡ true → Holds a (cs ++ (e ∷ []))
holds_snoc a [] e h k = (k, tt)
holds_snoc a (c ∷ cs) e h k = (h.0, holds_snoc a cs e h.1 k)

holds_rule : (a : Assignment) (cs : List Clause) (q : Step) (e : Clause) → Holds a cs → ByRule cs q e → clause a e ≡ true
holds_rule a cs q e h r =
    rule_sound a q.pivot r.c r.d e r.resolves (holds_nth a cs h q.first r.c r.first) (holds_nth a cs h q.second r.d r.second)

pub run_sound : (a : Assignment) (l : Limits) {cs : List Clause} {qs : List Step} {out : List Clause} → Run l cs qs out → Holds a cs → Holds a out
run_sound a l ready h = h
run_sound a l (next {cs = cs} {q = q} {e = e} r w s) h = run_sound a l s (holds_snoc a cs e h (holds_rule a cs q e h r))

run_length : (l : Limits) {cs : List Clause} {qs : List Step} {out : List Clause} → Run l cs qs out → length out ≡ length cs + length qs
run_length l ready = omega arith
run_length l (next {cs = cs} {e = e} r w s) = let h = run_length l s in let k = length-append cs (e ∷ []) in omega arith

holds_latest : (a : Assignment) (cs : List Clause) (c : Clause) → Holds a cs → clause a c ≡ true → clause a (latest cs c) ≡ true
unfolding latest
holds_latest a [] c h k = k
holds_latest a (d ∷ cs) c h k = holds_latest a cs d h.1 h.0

latest_holds : (a : Assignment) (cs : List Clause) → 1 ≤ length cs → Holds a cs → clause a (latest cs []) ≡ true
unfolding latest
latest_holds a [] b h = absurd (omega arith)
latest_holds a (c ∷ cs) b h = holds_latest a cs c h.1 h.0

pub refuted_unsolvable : RefutedUnsolvable
unfolding clause
refuted_unsolvable l cs qs r s =
    let k = run_length l r.runs in
    let b = r.some in
    let h : clause s.0 (latest r.out []) ≡ true = latest_holds s.0 r.out (omega arith) (run_sound s.0 l r.runs s.1) in
    false≢true (rw r.ends at h)
