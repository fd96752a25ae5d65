-- What judging the three refutations of a certificate promises.
use Rattle.std.specs.Prelude.{ℕ, ◌+◌, ◌*◌, ◌≤◌, ◌<◌, ◌≡◌, Result, false, List, length, drop}
use Rattle.rules.specs.declared.Limits.{Limits}
use Rattle.rules.specs.declared.Answer.{Answer}
use Rattle.rules.specs.declared.refusals.Refusal.{Refusal}
use Rattle.rules.specs.Formula.{Formula}
use Rattle.rules.specs.Sheet.{Sheet}
use Rattle.rules.specs.Certificate.{Which, Which.start, Which.keep, Which.safe}
use Rattle.rules.specs.Clauses.{clause_set}
use Rattle.rules.specs.Verdict.{answer_of}
use Rattle.clauses.specs.declared.Layout.{Layout}
use Rattle.clauses.specs.Sets.{Given}
use Rattle.refutation.specs.Memory.{slot_at}
use Rattle.refutation.specs.Judging.{Case, verdict, Ends}

-- limits small enough for the code's numbers
pub record Limited (l : Limits) : Type 0 where
  pub coils_few : l.coils < 65536
  pub inputs_few : l.inputs < 65536
  pub records_few : l.records < 65536
  pub invariant_few : l.invariant < 65536
  pub width_few : l.width < 65536

-- the places that any clause set of a sheet within the limits fits into, at most three clauses a record
abbrev pub clause_room : Limits → ℕ
clause_room l = 3 * (l.coils + 3 * l.records + 6 * l.invariant + 2)

-- a good sheet and its invariant stand in s and c, and the lent places are enough for them
pub record SafeAt (l : Limits) (s c : List ℕ) (h : Layout) (work : List ℕ) : Type 0 where
  pub sheet : Sheet
  pub invariant : Formula
  pub rest : List ℕ
  pub given : Given l s c h sheet invariant rest
  pub limited : Limited l
  pub room : slot_at l (clause_room l) (l.steps + 1) ≤ length work

-- how many QEDs stand before each refutation
unfoldable pub before_it : Which → ℕ
before_it start = 0
before_it keep = 1
before_it safe = 2

-- a refutation about to begin
abbrev pub begun : Sheet → Formula → List ℕ → Which → ℕ → Case
begun t inv c w fuel = record { sheet = t; invariant = inv; bytes = c; which = w; clauses = clause_set t inv w; qeds = before_it w; fuel = fuel }

-- one refutation, from place p on
abbrev pub Refutes : Limits → Which → List ℕ → List ℕ → Layout → ℕ → List ℕ → Result ℕ Refusal → Type 0
Refutes l w s c h p work r =
    (a : SafeAt l s c h work) (fuel : ℕ) → length (drop p c) < fuel → Ends l c p (begun a.sheet a.invariant c w fuel) r

-- the certificate from place p on, where the refutation of set w is about to begin
abbrev pub Follows : Which → Limits → List ℕ → List ℕ → Layout → ℕ → List ℕ → Result Answer Refusal → Type 0
Follows w l s c h p work r =
    (a : SafeAt l s c h work) (fuel : ℕ) → length (drop p c) < fuel
    → answer_of r ≡ verdict l c p 0 false (begun a.sheet a.invariant c w fuel)
