-- What demand 2 rests on: a step computes what the resolution rule allows, steps are accepted exactly when they refute by that rule,
-- refuted clauses have no solution, and a sheet whose three sets have none is safe.
use Rattle.std.specs.Prelude.{ℕ, ◌+◌, ◌≤◌, ◌<◌, ◌≡◌, ◌↔◌, List, [], ◌∷◌, length}
use Rattle.rules.specs.declared.Limits.{Limits}
use Rattle.rules.specs.Walk.{Reading.closed}
use Rattle.rules.specs.Formula.{Formula}
use Rattle.rules.specs.Sheet.{Sheet, Safe}
use Rattle.rules.specs.WriteSheet.{WithinSheet}
use Rattle.rules.specs.Certificate.{Step, Which, Which.start, read_steps}
use Rattle.rules.specs.WriteCertificate.{WithinInvariant}
use Rattle.rules.specs.Clauses.{Lit, Lit.plain, Lit.negated, Clause, clause_set}
use Rattle.rules.specs.Resolution.{has, ◌∈◌, Resolves, ByRule, Run, Refutes, Derived.clause, resolvent, derive}
use Rattle.rules.specs.Verdict.{Verdict.accepted, refuting, judge_steps}
use Rattle.reading.specs.Readings.{marks, final}
use Rattle.reading.specs.Certificates.{refutations}
use Rattle.solving.specs.Solution.{Solvable}

-- The rule.

-- the clause that is computed is the rule's, wherever the rule applies
abbrev pub ResolventRight : Type 0
ResolventRight = (p : ℕ) (c d : Clause) → plain p ∈ c → negated p ∈ d → Resolves p c d (resolvent p c d)

-- clauses with the same literals
abbrev pub Alike : Clause → Clause → Type 0
Alike c d = (x : Lit) → has c x ≡ has d x

-- the rule settles the literals and the width of the clause that it derives, whatever the order of literals in those that it derives it from
pub record Settles (e e' : Clause) : Type 0 where
  pub literals : Alike e e'
  pub width : length e ≡ length e'

abbrev pub RuleSettles : Type 0
RuleSettles =
    (p : ℕ) (c d e c' d' e' : Clause) → Alike c c' → Alike d d' → Resolves p c d e → Resolves p c' d' e' → Settles e e'

-- A step.

-- a STEP after n others derives e by the rule, within the limits of width and of steps
pub record Deduced (l : Limits) (cs : List Clause) (n : ℕ) (q : Step) (e : Clause) : Type 0 where
  pub rule : ByRule cs q e
  pub narrow : length e ≤ l.width
  pub early : n < l.steps

-- a STEP that is not refused derives what the rule allows, and where the rule allows a clause within the limits no STEP is refused
pub record DerivesExactly (l : Limits) (cs : List Clause) (n : ℕ) (q : Step) : Type 0 where
  pub sound : (e : Clause) → derive l cs n q ≡ clause e → Deduced l cs n q e
  pub whole : (e : Clause) → Deduced l cs n q e → (f : Clause) × (derive l cs n q ≡ clause f) × Alike e f

abbrev pub DeriveExactly : Type 0
DeriveExactly = (l : Limits) (cs : List Clause) (n : ℕ) (q : Step) → DerivesExactly l cs n q

-- Steps.

-- as many clauses, each with the same literals as its counterpart
abbrev pub Matching : List Clause → List Clause → Type 0
Matching [] [] = Unit {0}
Matching [] (d ∷ ds) = ⊥
Matching (c ∷ cs) [] = ⊥
Matching (c ∷ cs) (d ∷ ds) = Alike c d × Matching cs ds

-- runs of steps do not see the order of literals
abbrev pub RunsAlike : Type 0
RunsAlike =
    (l : Limits) (cs ds : List Clause) (qs : List Step) (out : List Clause) → Matching cs ds → Run l cs qs out
    → (out' : List Clause) × Run l ds qs out' × Matching out out'

-- the bytes from p on are three refutations by the rule, one of each set, and END is the last byte
pub record Proves (l : Limits) (t : Sheet) (inv : Formula) (bs : List ℕ) (p : ℕ) : Type 0 where
  pub steps : Which → List Step
  pub read : marks (read_steps bs p) ≡ refutations (record { invariant = inv; steps = steps })
  pub place : ℕ
  pub closes : final (read_steps bs p) ≡ closed place tt
  pub last : place + 1 ≡ length bs
  pub refute : (w : Which) → Refutes l (clause_set t inv w) (steps w)

-- steps are accepted exactly when they are that
abbrev pub StepsExactly : Type 0
StepsExactly =
    (l : Limits) (t : Sheet) (inv : Formula) (bs : List ℕ) (p : ℕ)
    → (judge_steps l t inv bs (refuting t inv start) (read_steps bs p) ≡ accepted) ↔ Proves l t inv bs p

-- What they show.

-- clauses that are refuted have no solution
abbrev pub RefutedUnsolvable : Type 0
RefutedUnsolvable = (l : Limits) (cs : List Clause) (qs : List Step) → Refutes l cs qs → Solvable cs → ⊥

-- a sheet with an invariant none of whose three sets has a solution is safe
abbrev pub UnsolvableSafe : Type 0
UnsolvableSafe =
    (l : Limits) (t : Sheet) (inv : Formula) → WithinSheet l t → WithinInvariant l t inv
    → ((w : Which) → Solvable (clause_set t inv w) → ⊥) → Safe t
