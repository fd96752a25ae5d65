-- A refutation's records, one after the other, against the rules.
use Rattle.std.specs.Prelude.{ℕ, ◌+◌, ◌≤◌, ◌<◌, ◌≡◌, Result, Ok, Err, IfOk, Bool, false, List, length, get_or, drop}
use Rattle.rules.specs.declared.Limits.{Limits}
use Rattle.rules.specs.declared.Answer.{Answer}
use Rattle.rules.specs.declared.refusals.Fault.{Fault}
use Rattle.rules.specs.declared.refusals.Refusal.{Refusal}
use Rattle.rules.specs.Fault.{number_of, refusal_of}
use Rattle.rules.specs.Record.{record_length}
use Rattle.rules.specs.Walk.{Move, Move.mark, Move.no, move_at, walk}
use Rattle.rules.specs.Formula.{Formula}
use Rattle.rules.specs.Sheet.{Sheet}
use Rattle.rules.specs.Certificate
use Rattle.rules.specs.Certificate.{Which, Mark.step, Mark.qed, steps_reader}
use Rattle.rules.specs.Clauses.{Clause}
use Rattle.rules.specs.Verdict.{Verdict, Verdict.refused, Refuting, following, refuting, judge_steps, answer_of}
use Rattle.refutation.specs.Memory.{slot_at, Held, Outside}
use Rattle.refutation.specs.Steps.{step_of}
use Rattle.refutation.specs.declared.marks.Mark.{Mark}
use Rattle.refutation.specs.declared.marks.Mark.TheVariants.{Step, Qed}
use Rattle.refutation.specs.declared.marks.Marked.{Marked}

-- the rules' move where k QEDs came before: of a mark, and of a refusal
abbrev pub marked : Mark → ℕ → Move ℕ Certificate.Mark (Unit {0})
marked (Step q) k = mark (step (step_of q)) k
marked Qed k = mark qed (k + 1)

abbrev pub move_of : Result Marked Fault → ℕ → Move ℕ Certificate.Mark (Unit {0})
move_of (Ok x) k = marked x.mark k
move_of (Err f) k = no (number_of f)

-- the record at place p is whole, and next is the place after it
pub record Beyond (c : List ℕ) (p next : ℕ) : Type 0 where
  pub is : next ≡ p + record_length (get_or (drop p c) 0 0)
  pub within : next ≤ length c

-- the code's answer is the rules' move at place p, where STEP and QED are allowed
pub record MarkAt (c : List ℕ) (p : ℕ) (r : Result Marked Fault) : Type 0 where
  pub is : (k : ℕ) → k < 3 → move_at steps_reader k (drop p c) ≡ move_of r k
  pub next : IfOk r (λ x. Beyond c p x.next)

-- a refutation that begins: its sheet, invariant and bytes, which of the three it is, its clauses, the QEDs before it, and a bound on its records
pub record Case : Type 0 where
  pub sheet : Sheet
  pub invariant : Formula
  pub bytes : List ℕ
  pub which : Which
  pub clauses : List Clause
  pub qeds : ℕ
  pub fuel : ℕ

-- the rules' verdict on the certificate c from place p on, where m steps were made and the latest clause is empty or not
abbrev pub verdict : Limits → List ℕ → ℕ → ℕ → Bool → Case → Verdict
verdict l c p m b x =
    judge_steps l x.sheet x.invariant x.bytes (record { which = x.which; clauses = x.clauses; steps = m; emptied = b })
    (walk steps_reader x.fuel (drop p c) p x.qeds)

-- the verdict from place p on with one QED more, the next refutation begun
abbrev pub verdict_next : Limits → List ℕ → ℕ → ℕ → Case → Verdict
verdict_next l c p fuel x =
    judge_steps l x.sheet x.invariant x.bytes (refuting x.sheet x.invariant (following x.which))
    (walk steps_reader fuel (drop p c) p (x.qeds + 1))

-- memory holds its clauses, and there is a bound for the bytes from place p on
pub record Stands (l : Limits) (w : List ℕ) (n from m : ℕ) (c : List ℕ) (p : ℕ) (x : Case) : Type 0 where
  pub few : x.qeds < 3
  pub held : Held l w n from m x.clauses
  pub enough : length (drop p c) < x.fuel

-- the code's answer: the verdict is this refusal, or it is the verdict on the rest after this QED
pub data Ends (l : Limits) (c : List ℕ) (p : ℕ) (x : Case) : Result ℕ Refusal → Type 0 where
  refuses : {f : Refusal} → verdict l c p 0 false x ≡ refused (refusal_of f) → Ends l c p x (Err f)
  closes : {q : ℕ} (fuel : ℕ) → length (drop q c) < fuel → verdict l c p 0 false x ≡ verdict_next l c q fuel x → Ends l c p x (Ok q)

-- of any refutation that begins here; base clauses and the places past the slots are as they were
pub record Judged (l : Limits) (c : List ℕ) (p : ℕ) (w : List ℕ) (n from : ℕ) (w' : List ℕ) (r : Result ℕ Refusal) : Type 0 where
  pub ends : (x : Case) → Stands l w n from 0 c p x → Ends l c p x r
  pub outside : Outside from (slot_at l from (l.steps + 1)) w w'

-- after the third QED the answer is the verdict, whatever the refutations were
pub record Ended (c : List ℕ) (p : ℕ) (r : Result Answer Refusal) : Type 0 where
  pub ends : (l : Limits) (t : Sheet) (inv : Formula) (g : Refuting) (fuel : ℕ) → length (drop p c) < fuel
      → answer_of r ≡ judge_steps l t inv c g (walk steps_reader fuel (drop p c) p 3)
