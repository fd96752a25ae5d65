-- Variables, defining clauses, the three clause sets and their three places a clause.
use Rattle.std.specs.Prelude.{ℕ, zero, suc, ◌+◌, ◌-◌, ◌*◌, true, false, List, [], ◌∷◌, ◌++◌, map, get_or}
use Rattle.base.specs.Pick.{pick}
use Rattle.base.specs.Lists.{each}
use Rattle.rules.specs.Formula.{Leaf, Leaf.input, Leaf.coil, Leaf.constant, Formula, Formula.leaf, Formula.inverse, Formula.both, Formula.either, size}
use Rattle.rules.specs.Sheet.{Start, Rung, Sheet, with, start_of}
use Rattle.rules.specs.WriteSheet.{sizes}
use Rattle.rules.specs.Certificate.{Which, Which.start, Which.keep, Which.safe}

-- a literal: a variable, plain or negated
pub data Lit : Type 0 where
  plain negated : ℕ → Lit

abbrev pub Clause : Type 0
Clause = List Lit

-- which variable an input has, and which a coil
pub record Vars : Type 0 where
  pub input : ℕ → ℕ
  pub coil : ℕ → ℕ

-- variables count from 1: coils before the scan; inputs; then one for each formula record
abbrev pub before : Sheet → Vars
before t = record { input = λ n. 1 + t.coils + n; coil = λ c. 1 + c }

-- a formula's top is its last record; g is its first
abbrev pub top : ℕ → Formula → ℕ
top g f = g + size f - 1

-- record g is a contact on v
abbrev pub contact_clauses : ℕ → ℕ → List Clause
contact_clauses g v = (negated g ∷ plain v ∷ []) ∷ (plain g ∷ negated v ∷ []) ∷ []

unfoldable pub leaf_clauses : Vars → ℕ → Leaf → List Clause
leaf_clauses vs g (input n) = contact_clauses g (vs.input n)
leaf_clauses vs g (coil c) = contact_clauses g (vs.coil c)
leaf_clauses vs g (constant true) = (plain g ∷ []) ∷ []
leaf_clauses vs g (constant false) = (negated g ∷ []) ∷ []

abbrev pub not_clauses : ℕ → ℕ → List Clause
not_clauses g x = (negated g ∷ negated x ∷ []) ∷ (plain g ∷ plain x ∷ []) ∷ []

abbrev pub and_clauses : ℕ → ℕ → ℕ → List Clause
and_clauses g x y = (negated g ∷ plain x ∷ []) ∷ (negated g ∷ plain y ∷ []) ∷ (plain g ∷ negated x ∷ negated y ∷ []) ∷ []

abbrev pub or_clauses : ℕ → ℕ → ℕ → List Clause
or_clauses g x y = (plain g ∷ negated x ∷ []) ∷ (plain g ∷ negated y ∷ []) ∷ (negated g ∷ plain x ∷ plain y ∷ []) ∷ []

-- the defining clauses of a formula's records in postfix order, the first of them g; x was put on the stack before y
unfoldable pub defining : Vars → ℕ → Formula → List Clause
defining vs g (leaf x) = leaf_clauses vs g x
defining vs g (inverse f) = defining vs g f ++ not_clauses (g + size f) (top g f)
defining vs g (both f h) = defining vs g f ++ (defining vs (g + size f) h ++ and_clauses (g + size f + size h) (top g f) (top (g + size f) h))
defining vs g (either f h) = defining vs g f ++ (defining vs (g + size f) h ++ or_clauses (g + size f + size h) (top g f) (top (g + size f) h))

-- a closed rung's top is its coil's variable from there on
abbrev pub closing : Vars → ℕ → Rung → Vars
closing vs g r = record { input = vs.input; coil = with vs.coil r.coil (top g r.formula) }

unfoldable pub rung_clauses : Vars → ℕ → List Rung → List Clause
rung_clauses vs g [] = []
rung_clauses vs g (r ∷ rs) = defining vs g r.formula ++ rung_clauses (closing vs g r) (g + size r.formula) rs

-- a coil after the scan is the top of its rung's formula, or the coil before if it has no rung
unfoldable pub after_rungs : Vars → ℕ → List Rung → Vars
after_rungs vs g [] = vs
after_rungs vs g (r ∷ rs) = after_rungs (closing vs g r) (g + size r.formula) rs

-- the first record of the rungs, of the condition, of the invariant before and of the invariant after, and the first number past all
abbrev pub rungs_at : Sheet → ℕ
rungs_at t = 1 + t.coils + t.inputs

abbrev pub condition_at : Sheet → ℕ
condition_at t = rungs_at t + sizes t.rungs

abbrev pub before_at : Sheet → ℕ
before_at t = condition_at t + size t.condition

abbrev pub after_at : Sheet → Formula → ℕ
after_at t inv = before_at t + size inv

abbrev pub variables : Sheet → Formula → ℕ
variables t inv = after_at t inv + size inv - 1

abbrev pub after : Sheet → Vars
after t = after_rungs (before t) (rungs_at t) t.rungs

-- one unit clause for each coil's start value, in coil order: n coils from coil c on
unfoldable pub start_units : List Start → ℕ → ℕ → List Clause
start_units ss c zero = []
start_units ss c (suc n) = (pick (start_of ss c) (plain (1 + c)) (negated (1 + c)) ∷ []) ∷ start_units ss (suc c) n

-- the parts of the sets
abbrev pub ladder : Sheet → List Clause
ladder t = rung_clauses (before t) (rungs_at t) t.rungs

abbrev pub condition : Sheet → List Clause
condition t = defining (after t) (condition_at t) t.condition

abbrev pub invariant_before : Sheet → Formula → List Clause
invariant_before t inv = defining (before t) (before_at t) inv

abbrev pub invariant_after : Sheet → Formula → List Clause
invariant_after t inv = defining (after t) (after_at t inv) inv

abbrev pub unit : Lit → List Clause
unit x = (x ∷ []) ∷ []

-- the three sets
unfoldable pub clause_set : Sheet → Formula → Which → List Clause
clause_set t inv start = start_units t.starts 0 t.coils ++ (invariant_before t inv ++ unit (negated (top (before_at t) inv)))
clause_set t inv keep =
    ladder t
    ++ (invariant_before t inv
    ++ (unit (plain (top (before_at t) inv))
    ++ (invariant_after t inv ++ unit (negated (top (after_at t inv) inv)))))
clause_set t inv safe =
    ladder t
    ++ (condition t
    ++ (invariant_before t inv
    ++ (unit (plain (top (before_at t) inv)) ++ unit (negated (top (condition_at t) t.condition)))))

-- 2v for plain, 2v + 1 for negated
unfoldable pub place : Lit → ℕ
place (plain v) = 2 * v
place (negated v) = 2 * v + 1

-- the place of a clause's literal number k, 0 as filler
abbrev pub place_of : Clause → ℕ → ℕ
place_of c k = get_or (map place c) k 0

-- three places a clause
unfoldable pub places : List Clause → List ℕ
places cs = each (λ (c : Clause). place_of c 0 ∷ place_of c 1 ∷ place_of c 2 ∷ []) cs
