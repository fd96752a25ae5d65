-- The resolution rule, a refutation and QED: as a relation, and as a computation.
use Rattle.std.specs.Prelude.{ℕ, ◌-◌, ◌≤◌, ◌≡◌, ◌⊎◌, ◌↔◌, ◌≢◌, Bool, true, false, ◌&&◌, ◌||◌, List, [], ◌∷◌, ◌++◌, length, get_or, ltb, leb, eqb}
use Rattle.base.specs.Pick.{pick}
use Rattle.rules.specs.declared.Limits.{Limits}
use Rattle.rules.specs.Certificate.{Step}
use Rattle.rules.specs.Clauses.{Lit, Lit.plain, Lit.negated, Clause}

abbrev pub same : Lit → Lit → Bool
same (plain v) (plain w) = eqb v w
same (plain v) (negated w) = false
same (negated v) (plain w) = false
same (negated v) (negated w) = eqb v w

unfoldable pub has : Clause → Lit → Bool
has [] x = false
has (y ∷ c) x = same x y || has c x

-- x is a literal of c
abbrev pub ◌∈◌ : Lit → Clause → Type 0
x ∈ c = has c x ≡ true

infix 50 ◌∈◌
-- a clause is a set: its size is its list's length where no literal stands twice
unfoldable pub NoneTwice : Clause → Type 0
NoneTwice [] = Unit {0}
NoneTwice (x ∷ c) = (has c x ≡ false) × NoneTwice c

-- the rule: the pivot plain in the first and negated in the second; the first without the plain pivot joined with the second without the negated one
pub record Resolves (p : ℕ) (c d e : Clause) : Type 0 where
  pub plainly : plain p ∈ c
  pub negatedly : negated p ∈ d
  pub set : NoneTwice e
  pub joined : (x : Lit) → x ∈ e ↔ ((x ∈ c × x ≢ plain p) ⊎ (x ∈ d × x ≢ negated p))

-- the clause of a number; clauses count from 1
pub record Nth (cs : List Clause) (n : ℕ) (c : Clause) : Type 0 where
  pub from_one : 1 ≤ n
  pub there : n ≤ length cs
  pub is : get_or cs (n - 1) [] ≡ c

-- a derivation is by a rule from clauses that are there
pub record ByRule (cs : List Clause) (q : Step) (e : Clause) : Type 0 where
  pub c : Clause
  pub d : Clause
  pub first : Nth cs q.first c
  pub second : Nth cs q.second d
  pub resolves : Resolves q.pivot c d e

-- some steps over clauses, and the clauses that are there after them
pub data Run (l : Limits) : List Clause → List Step → List Clause → Type 0 where
  ready : {cs : List Clause} → Run l cs [] cs
  next : {cs : List Clause} {q : Step} {qs : List Step} {e : Clause} {out : List Clause}
      → ByRule cs q e → length e ≤ l.width → Run l (cs ++ (e ∷ [])) qs out → Run l cs (q ∷ qs) out

-- the latest clause
unfoldable pub latest : List Clause → Clause → Clause
latest [] c = c
latest (d ∷ cs) c = latest cs d

-- QED is right when the latest STEP of this refutation derived the empty clause
pub record Refutes (l : Limits) (cs : List Clause) (qs : List Step) : Type 0 where
  pub out : List Clause
  pub runs : Run l cs qs out
  pub some : 1 ≤ length qs
  pub few : length qs ≤ l.steps
  pub ends : latest out [] ≡ []

-- the computation: c without x, and each literal once
unfoldable pub without : Lit → Clause → Clause
without x [] = []
without x (y ∷ c) = pick (same x y) (without x c) (y ∷ without x c)

unfoldable pub once : Clause → Clause
once [] = []
once (x ∷ c) = pick (has c x) (once c) (x ∷ once c)

unfoldable pub resolvent : ℕ → Clause → Clause → Clause
resolvent p c d = once (without (plain p) c ++ without (negated p) d)

-- what a STEP does: a refusal's number, or the clause that it derives
pub data Derived : Type 0 where
  clause : Clause → Derived
  fault : ℕ → Derived

unfoldable pub is_there : List Clause → ℕ → Bool
is_there cs n = leb 1 n && leb n (length cs)

abbrev pub nth : List Clause → ℕ → Clause
nth cs n = get_or cs (n - 1) []

-- STEP, where n steps came before it: 18, 19, 20, 21
unfoldable pub derive : Limits → List Clause → ℕ → Step → Derived
derive l cs n q =
    pick (is_there cs q.first && is_there cs q.second)
    (pick (has (nth cs q.first) (plain q.pivot) && has (nth cs q.second) (negated q.pivot))
    (let e = resolvent q.pivot (nth cs q.first) (nth cs q.second) in
    pick (ltb l.width (length e)) (fault 20)
    (pick (leb l.steps n) (fault 21) (clause e)))
    (fault 19))
    (fault 18)

unfoldable pub is_empty : Clause → Bool
is_empty [] = true
is_empty (x ∷ c) = false
