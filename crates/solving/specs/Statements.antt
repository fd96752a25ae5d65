-- Demand 3. The translation loses nothing and adds nothing: each choice of coils (and inputs) extends in exactly one way to values
-- that meet the defining clauses, those the rules compute; each clause set has a solution exactly when the start, or a single scan
-- from within the invariant, breaks what the set stands for.
use Rattle.std.specs.Prelude.{ℕ, ◌<◌, ◌≡◌, ◌⊎◌, ◌↔◌, Bool, true, false, List}
use Rattle.base.specs.Lists.{All}
use Rattle.rules.specs.declared.Limits.{Limits}
use Rattle.rules.specs.Formula.{Inputs, Coils, Formula, value, size}
use Rattle.rules.specs.Sheet.{Sheet, Begins, scan, holds_after}
use Rattle.rules.specs.WriteSheet.{WithinSheet}
use Rattle.rules.specs.WriteCertificate.{WithinInvariant}
use Rattle.rules.specs.Certificate.{Which, Which.start, Which.keep, Which.safe}
use Rattle.rules.specs.Clauses.{Clause, clause_set, variables, places}
use Rattle.solving.specs.Solution.{Assignment, Holds, Solvable, ◌among◌, Merged}
use Rattle.solving.specs.Parts.{defining_part, unit_part, Chosen, Defined}
use Rattle.solving.specs.Values.{ending, EndsAt, computed}
use Rattle.solving.specs.Places.{unplaces, Placeable}

-- an invariant has no input contact, so any inputs do
abbrev pub inside : Formula → Coils → Bool
inside inv k = value (λ n. false) k inv

-- `ending` is the sub-formula that ends at a record: its records are the last ones up to there
abbrev pub RecordsEnd : Type 0
RecordsEnd = (f : Formula) (n : ℕ) → n < size f → EndsAt f (ending f n) n

-- the choice of coils k and inputs i extends in exactly one way to values that meet the defining clauses, those that the rules compute
pub record Extension (t : Sheet) (inv : Formula) (w : Which) (k : Coils) (i : Inputs) : Type 0 where
  pub values : Assignment
  pub chosen : Chosen t w k i values
  pub met : Holds values (defining_part t inv w)
  pub right : (v : ℕ) → Defined t inv w v → values v ≡ computed t inv k i v
  pub only : (b : Assignment) → Chosen t w k i b → Holds b (defining_part t inv w) → (v : ℕ) → Defined t inv w v → b v ≡ values v

-- each choice of coils and inputs extends so, in each set of each well-formed sheet and invariant
abbrev pub ExtendsOnce : Type 0
ExtendsOnce =
    (l : Limits) (t : Sheet) (inv : Formula) → WithinSheet l t → WithinInvariant l t inv
    → (w : Which) (k : Coils) (i : Inputs) → Extension t inv w k i

-- a set is its defining clauses and its unit clauses: none is left out and none is added, however often it stands there
pub record Parted (t : Sheet) (inv : Formula) (w : Which) : Type 0 where
  pub members : (x : Clause) → (x among clause_set t inv w) ↔ ((x among defining_part t inv w) ⊎ (x among unit_part t inv w))
  pub merged : Merged (defining_part t inv w) (unit_part t inv w) (clause_set t inv w)

abbrev pub Parts : Type 0
Parts = (t : Sheet) (inv : Formula) (w : Which) → Parted t inv w

-- set 1 has a solution exactly when a start breaks the invariant
abbrev pub StartSet : Type 0
StartSet =
    (l : Limits) (t : Sheet) (inv : Formula) → WithinSheet l t → WithinInvariant l t inv
    → Solvable (clause_set t inv start) ↔ ((k : Coils) × Begins t k × (inside inv k ≡ false))

-- set 2 has a solution exactly when a single scan from within the invariant leaves it
abbrev pub KeepSet : Type 0
KeepSet =
    (l : Limits) (t : Sheet) (inv : Formula) → WithinSheet l t → WithinInvariant l t inv
    → Solvable (clause_set t inv keep) ↔ ((k : Coils) × (i : Inputs) × (inside inv k ≡ true) × (inside inv (scan t i k) ≡ false))

-- set 3 has a solution exactly when a single scan from within the invariant breaks the condition
abbrev pub SafeSet : Type 0
SafeSet =
    (l : Limits) (t : Sheet) (inv : Formula) → WithinSheet l t → WithinInvariant l t inv
    → Solvable (clause_set t inv safe) ↔ ((k : Coils) × (i : Inputs) × (inside inv k ≡ true) × (holds_after t i k ≡ false))

-- an invariant has the same value over any inputs, so `inside` loses nothing
abbrev pub InputsDoNotMatter : Type 0
InputsDoNotMatter =
    (l : Limits) (t : Sheet) (inv : Formula) → WithinInvariant l t inv
    → (i : Inputs) (k : Coils) → value i k inv ≡ inside inv k

-- the places that the translator writes stand for exactly the clauses: they are read back as they were, whatever n is
abbrev pub PlacesLoseNothing : Type 0
PlacesLoseNothing = (n : ℕ) (cs : List Clause) → All (Placeable n) cs → unplaces (places cs) ≡ cs

-- every clause of every set has one to three literals, whose variables count from 1 to the last one of sheet and invariant
abbrev pub SetsPlaceable : Type 0
SetsPlaceable =
    (l : Limits) (t : Sheet) (inv : Formula) → WithinSheet l t → WithinInvariant l t inv
    → (w : Which) → All (Placeable (variables t inv)) (clause_set t inv w)
