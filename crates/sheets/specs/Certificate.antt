-- What the reading of a certificate's opening record and of its invariant answers.
use Rattle.std.specs.Prelude.{ℕ, ◌+◌, ◌≡◌, Result, Ok, Err, Option, Some, None, Bool, List, [], ◌∷◌, length, get_or, drop}
use Rattle.base.specs.Pick.{pick}
use Rattle.rules.specs.declared.Limits.{Limits}
use Rattle.rules.specs.Kind
use Rattle.rules.specs.Record.{record_length}
use Rattle.rules.specs.Walk.{Move, Move.go, Move.no, Move.done, Reading, Reading.stopped, Reading.closed, move_at}
use Rattle.rules.specs.Formula.{Formula, size}
use Rattle.rules.specs.Sheet.{Sheet}
use Rattle.rules.specs.ReadFormula.{Stack, operand}
use Rattle.rules.specs.Certificate.{invariant_move, invariant_reader, read_invariant}
use Rattle.sheets.specs.Pile.{Piled}
use Rattle.sheets.specs.Draft.{total}
use Rattle.rules.specs.Fault.{number_of, refusal_of}
use Rattle.rules.specs.declared.refusals.Fault.{Fault}
use Rattle.rules.specs.declared.refusals.Refusal.{Refusal}
use Rattle.records.specs.Kinds.{byte_of}
use Rattle.records.specs.declared.Record.{Record}
use Rattle.sheets.specs.declared.Pile.{Pile}
use Rattle.sheets.specs.declared.Part.{Part}
use Rattle.sheets.specs.declared.Invariant.{Invariant}
use Rattle.sheets.specs.declared.Opening.{Opening}
use Rattle.sheets.specs.declared.Opening.TheVariants.{Safe, Trace}

-- a certificate opens with SAFE, and where a trace may stand too, with TRACE
abbrev pub opening_kinds : Bool → List ℕ
opening_kinds both = pick both (Kind.SAFE ∷ Kind.TRACE ∷ []) (Kind.SAFE ∷ [])

-- the code's answer, as the reading that it stands for
abbrev pub opened_as : Result Opening Refusal → Reading ⊥ ℕ
opened_as (Ok Safe) = closed 0 Kind.SAFE
opened_as (Ok Trace) = closed 0 Kind.TRACE
opened_as (Err x) = stopped (refusal_of x)

abbrev pub invariant_kinds : List ℕ
invariant_kinds = Kind.INVARIANT ∷ Kind.COIL ∷ Kind.CONSTANT ∷ Kind.NOT ∷ Kind.AND ∷ Kind.OR ∷ []

abbrev pub InvariantMove : Type 0
InvariantMove = Move Stack ⊥ Formula

-- the pile is that of the stack, whose formulas are all that was read
pub record Holds (p : Pile) (st : Stack) : Type 0 where
  pub piled : Piled p st
  pub sized : st.count ≡ total size st.values

-- the rules go on, to a stack that has this pile
pub record Onward (p : Part) (next : ℕ) (x : InvariantMove) : Type 0 where
  pub to : Stack
  pub moved : x ≡ go to
  pub holds : Holds p.pile to
  pub comes : p.at ≡ next

-- the rules have read all of the invariant
pub record Ended (st : Stack) (x : InvariantMove) : Type 0 where
  pub moved : x ≡ done (operand st.values 0)
  pub alone : length st.values ≡ 1

-- the code's answer to a record that ends before a place is that of the rules
unfoldable pub Turned : Stack → InvariantMove → ℕ → Result (Option Part) Fault → Type 0
Turned st x next (Ok (Some p)) = Onward p next x
Turned st x next (Ok None) = Ended st x
Turned st x next (Err f) = x ≡ no (number_of f)

-- of every sheet with so many coils, and every stack that has this pile: a whole record, and whatever stands there
abbrev pub PartReads : Limits → ℕ → List ℕ → Part → Record → Result (Option Part) Fault → Type 0
PartReads l coils c p x r =
    (t : Sheet) (st : Stack) → t.coils ≡ coils → Holds p.pile st
    → Turned st (invariant_move l t st (byte_of x.kind) (drop p.at c)) x.next r

abbrev pub PartAnswers : Limits → ℕ → List ℕ → Part → Result (Option Part) Fault → Type 0
PartAnswers l coils c p r =
    (t : Sheet) (st : Stack) → t.coils ≡ coils → Holds p.pile st
    → Turned st (move_at (invariant_reader l t) st (drop p.at c)) (p.at + record_length (get_or (drop p.at c) 0 0)) r

-- the invariant that the certificate holds: where its closing record stands, and how many formula records it has
pub record InvariantThere (l : Limits) (t : Sheet) (c : List ℕ) (end n : ℕ) : Type 0 where
  pub invariant : Formula
  pub reads : read_invariant l t c ≡ closed end invariant
  pub sized : size invariant ≡ n

unfoldable pub InvariantSays : Limits → Sheet → List ℕ → Result Invariant Refusal → Type 0
InvariantSays l t c (Ok v) = InvariantThere l t c v.end v.size
InvariantSays l t c (Err x) = read_invariant l t c ≡ stopped (refusal_of x)

-- the code's answer is that of the rules, for every sheet with so many coils
pub record InvariantAs (l : Limits) (coils : ℕ) (c : List ℕ) (r : Result Invariant Refusal) : Type 0 where
  pub answered : (t : Sheet) → t.coils ≡ coils → InvariantSays l t c r
