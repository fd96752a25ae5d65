-- The verdict of any sheet bytes, certificate bytes and workspace length, and the translator's answer.
use Rattle.std.specs.Prelude.{ℕ, ◌≡◌, ◌+◌, ◌*◌, Result, Ok, Err, Bool, true, false, not, ◌&&◌, List, [], ◌∷◌, ◌++◌, length, drop, ltb, eqb}
use Rattle.base.specs.Pick.{pick}
use Rattle.rules.specs.declared.Limits.{Limits}
use Rattle.rules.specs.declared.Answer.{Answer}
use Rattle.rules.specs.declared.Answer.TheVariants.{Accepted, Confirmed}
use Rattle.rules.specs.declared.Set.{Set}
use Rattle.rules.specs.declared.Set.TheVariants.{Start, Keep, Safe}
use Rattle.rules.specs.declared.refusals.Fault.{Fault}
use Rattle.rules.specs.declared.refusals.Fault.TheVariants.{NoSet}
use Rattle.rules.specs.declared.refusals.Refusal.{Refusal as Told}
use Rattle.rules.specs.Kind
use Rattle.rules.specs.Fault.{refusal_of}
use Rattle.rules.specs.Walk.{Refusal, ◌at◌, Reading, Reading.stopped, Reading.marked, Reading.closed, reading}
use Rattle.rules.specs.Formula.{Coils, Formula}
use Rattle.rules.specs.Sheet.{Sheet, start_of, scan, holds_after}
use Rattle.rules.specs.ReadFormula.{certificate_faults}
use Rattle.rules.specs.ReadSheet.{SheetRead, SheetRead.good, SheetRead.bad, read_sheet}
use Rattle.rules.specs.Certificate.{Which, Which.start, Which.keep, Which.safe, Mark, Mark.step, Mark.qed, named, opening, read_invariant, read_steps, read_scans}
use Rattle.rules.specs.Clauses.{Clause, clause_set, places}
use Rattle.rules.specs.Resolution.{Derived.clause, Derived.fault, derive, is_empty}

-- accepted, confirmed with the scan, or refused
pub data Verdict : Type 0 where
  accepted : Verdict
  confirmed : ℕ → Verdict
  refused : Refusal → Verdict

-- END is the last byte, else 26
abbrev pub ends : List ℕ → ℕ → Verdict → Verdict
ends bs p v = pick (ltb (p + 1) (length bs)) (refused (certificate_faults.after at p + 1)) v

unfoldable pub following : Which → Which
following start = keep
following keep = safe
following safe = safe

-- a refutation under way: its set's clauses with those derived, how many were derived, and whether the latest is empty
pub record Refuting : Type 0 where
  pub which : Which
  pub clauses : List Clause
  pub steps : ℕ
  pub emptied : Bool

abbrev pub refuting : Sheet → Formula → Which → Refuting
refuting t inv w = record { which = w; clauses = clause_set t inv w; steps = 0; emptied = false }

-- a STEP: 18 to 21; a QED: 22, and derived clauses are not carried into the next refutation
unfoldable pub judge_steps : Limits → Sheet → Formula → List ℕ → Refuting → Reading Mark (Unit {0}) → Verdict
judge_steps l t inv bs g (stopped x) = refused x
judge_steps l t inv bs g (marked p (step q) r) =
    elim (derive l g.clauses g.steps q) [
      | fault n ↦ refused (n at p)
      | clause e ↦ judge_steps l t inv bs (record { which = g.which; clauses = g.clauses ++ (e ∷ []); steps = g.steps + 1; emptied = is_empty e }) r
    ]
judge_steps l t inv bs g (marked p qed r) =
    elim g.emptied [ true ↦ judge_steps l t inv bs (refuting t inv (following g.which)) r | false ↦ refused (22 at p) ]
judge_steps l t inv bs g (closed p x) = ends bs p accepted

unfoldable pub judge_safe : Limits → Sheet → List ℕ → Reading ⊥ Formula → Verdict
judge_safe l t bs (stopped x) = refused x
judge_safe l t bs (marked p m r) = absurd m
judge_safe l t bs (closed p inv) = judge_steps l t inv bs (refuting t inv start) (read_steps bs (p + 1))

-- a replay under way: the coils, the scans so far, the first that broke the condition (0 for none), and whether the last did
pub record Replay : Type 0 where
  pub coils : Coils
  pub count : ℕ
  pub first : ℕ
  pub broken : Bool

-- one scan more, with these inputs on
unfoldable pub replayed : Sheet → Replay → List ℕ → Replay
replayed t g on =
    let b = not (holds_after t (named on) g.coils) in
    record {
      coils = scan t (named on) g.coils;
      count = g.count + 1;
      first = pick (eqb g.first 0 && b) (g.count + 1) g.first;
      broken = b;
    }

-- END, and the condition held after the last scan: 25
unfoldable pub judge_scans : Sheet → List ℕ → Replay → Reading (List ℕ) (Unit {0}) → Verdict
judge_scans t bs g (stopped x) = refused x
judge_scans t bs g (marked p on r) = judge_scans t bs (replayed t g on) r
judge_scans t bs g (closed p x) = pick g.broken (ends bs p (confirmed g.first)) (refused (25 at p))

-- a replay starts from the start values, which are not judged
abbrev pub unplayed : Sheet → Replay
unplayed t = record { coils = start_of t.starts; count = 0; first = 0; broken = false }

unfoldable pub judge_opened : Limits → Sheet → List ℕ → Reading ⊥ ℕ → Verdict
judge_opened l t bs (stopped x) = refused x
judge_opened l t bs (marked p m r) = absurd m
judge_opened l t bs (closed p k) =
    elim (eqb k Kind.SAFE) [
      | true ↦ judge_safe l t bs (read_invariant l t bs)
      | false ↦ judge_scans t bs (unplayed t) (read_scans l t bs)
    ]

unfoldable pub judge_certificate : Limits → List ℕ → SheetRead → Verdict
judge_certificate l bs (bad x) = refused x
judge_certificate l bs (good t) = judge_opened l t bs (reading (opening (Kind.SAFE ∷ Kind.TRACE ∷ [])) bs 0 tt)

-- the order: 1, then the whole sheet, then the certificate; n is the workspace's length
unfoldable pub judge : Limits → List ℕ → List ℕ → ℕ → Verdict
judge l s c n = pick (ltb n l.places) (refused (1 at 0)) (judge_certificate l c (read_sheet l s))

-- the translator: the clauses, or a refusal
pub data Translation : Type 0 where
  written : List Clause → Translation
  withheld : Refusal → Translation

-- the room is three places a clause at least, else 28
abbrev pub room_for : ℕ → List Clause → Translation
room_for room cs = pick (ltb room (3 * length cs)) (withheld (28 at 0)) (written cs)

unfoldable pub translate_invariant : ℕ → Sheet → Which → Reading ⊥ Formula → Translation
translate_invariant room t w (stopped x) = withheld x
translate_invariant room t w (marked p m r) = absurd m
translate_invariant room t w (closed p inv) = room_for room (clause_set t inv w)

unfoldable pub translate_opened : Limits → ℕ → Sheet → Which → List ℕ → Reading ⊥ ℕ → Translation
translate_opened l room t w bs (stopped x) = withheld x
translate_opened l room t w bs (marked p m r) = absurd m
translate_opened l room t w bs (closed p k) = translate_invariant room t w (read_invariant l t bs)

unfoldable pub translate_sheet : Limits → ℕ → Which → List ℕ → SheetRead → Translation
translate_sheet l room w bs (bad x) = withheld x
translate_sheet l room w bs (good t) = translate_opened l room t w bs (reading (opening (Kind.SAFE ∷ [])) bs 0 tt)

-- set number w: 29, then the sheet, then the certificate as far as INVARIANT, then 28
unfoldable pub translation : Limits → ℕ → List ℕ → List ℕ → ℕ → Translation
translation l w s c room =
    pick (eqb w 1) (translate_sheet l room start c (read_sheet l s))
    (pick (eqb w 2) (translate_sheet l room keep c (read_sheet l s))
    (pick (eqb w 3) (translate_sheet l room safe c (read_sheet l s)) (withheld (29 at 0))))

-- the number and values for each case of the checker's answer
unfoldable pub answer_of : Result Answer Told → Verdict
answer_of (Ok Accepted) = accepted
answer_of (Ok (Confirmed m)) = confirmed m
answer_of (Err x) = refused (refusal_of x)

-- the translator's answer: how many clauses, or the refusal's number and place
unfoldable pub written_of : Translation → Result ℕ Refusal
written_of (written cs) = Ok (length cs)
written_of (withheld x) = Err x

-- and so in the code
unfoldable pub count_of : Result ℕ Told → Result ℕ Refusal
count_of (Ok n) = Ok n
count_of (Err x) = Err (refusal_of x)

-- the code's set, and its number
abbrev pub which_of : Set → Which
which_of Start = start
which_of Keep = keep
which_of Safe = safe

abbrev pub number_of_set : Set → ℕ
number_of_set Start = 1
number_of_set Keep = 2
number_of_set Safe = 3

-- a number from 1 to 3 names its set, any other none: 29
abbrev pub NamesSet : ℕ → Result Set Fault → Type 0
NamesSet n (Ok w) = n ≡ number_of_set w
NamesSet n (Err f) = f ≡ NoSet × ((w : Set) → n ≡ number_of_set w → ⊥)

-- the room after it: three places a clause, further places alone; a refusal writes nothing
unfoldable pub room_after : Translation → List ℕ → List ℕ
room_after (written cs) room = places cs ++ drop (3 * length cs) room
room_after (withheld x) room = room
