-- How a replay's numbers and lent places stand for the rules' state, and what each record promises.
use Rattle.std.specs.Prelude.{ℕ, ◌+◌, ◌≤◌, ◌<◌, ◌≡◌, Option, None, Some, Result, Ok, Err, Bool, false, List, [], ◌∷◌, length, get_or, drop, eqb, leb}
use Rattle.std.specs.Option.{option_or}
use Rattle.base.specs.Pick.{pick}
use Rattle.rules.specs.declared.Limits.{Limits}
use Rattle.rules.specs.declared.Answer.{Answer}
use Rattle.rules.specs.declared.refusals.Fault.{Fault}
use Rattle.rules.specs.declared.refusals.Refusal.{Refusal as Told}
use Rattle.rules.specs.Fault.{number_of}
use Rattle.rules.specs.Kind
use Rattle.rules.specs.Record.{record_length}
use Rattle.rules.specs.Sheet.{Sheet, start_of}
use Rattle.rules.specs.Walk.{◌at◌, Move, Move.go, Move.mark, Move.no, Move.done, move_at}
use Rattle.rules.specs.Certificate.{Scanning, named, read_input_on, scans_reader, read_scans}
use Rattle.rules.specs.Verdict.{Verdict.confirmed, Verdict.refused, Replay, replayed, ends, unplayed, judge_scans, answer_of}
use Rattle.ladder.specs.Values.{on}
use Rattle.ladder.specs.Evaluate.{bounds_for}
use Rattle.ladder.specs.Scan.{LadderAt}
use Rattle.trace.specs.declared.Play.{Play}
use Rattle.trace.specs.declared.Ladder.{Ladder}
use Rattle.trace.specs.declared.Places.{Places}

-- the rules say 0 where no scan broke the condition
abbrev pub first_of : ℕ → Option ℕ
first_of n = pick (eqb n 0) None (Some n)

abbrev pub first_broken : Option ℕ → ℕ → Bool → Option ℕ
first_broken first scan holds = pick holds first (option_or first (Some scan))

-- the places and numbers stand for the rules' reading and replay
pub record Playing (inputs coils : List ℕ) (p : Play) (st : Scanning) (g : Replay) : Type 0 where
  pub least : p.least ≡ st.least
  pub none : eqb (length st.on) 0 ≡ eqb st.least 0
  pub count : p.count ≡ st.count
  pub counted : p.count ≡ g.count
  pub first : p.first ≡ first_of g.first
  pub broken : p.broken ≡ g.broken
  pub sound : g.first ≡ 0 → g.broken ≡ false
  pub inputs_are : on inputs ≡ named st.on
  pub coils_are : on coils ≡ g.coils

abbrev pub ScansMove : Type 0
ScansMove = Move Scanning (List ℕ) (Unit {0})

abbrev pub Step : Type 0
Step = Result (Option Play) Fault

-- an answer follows the rules' move, with the next record at place n
pub data Follows (t : Sheet) (inputs coils : List ℕ) (g : Replay) (n : ℕ) : Step → ScansMove → Type 0 where
  goes : {p : Play} {st : Scanning} → p.at ≡ n → Playing inputs coils p st g → Follows t inputs coils g n (Ok (Some p)) (go st)
  scans : {p : Play} {on : List ℕ} {st : Scanning} → p.at ≡ n → Playing inputs coils p st (replayed t g on) → Follows t inputs coils g n (Ok (Some p)) (mark on st)
  stops : {f : Fault} → Follows t inputs coils g n (Err f) (no (number_of f))
  over : Follows t inputs coils g n (Ok None) (done tt)

-- INPUT-ON, of whatever sheet and coils
abbrev pub NamesInput : ℕ → List ℕ → List ℕ → Play → ℕ → Step → Type 0
NamesInput known inputs inputs' p n r =
    (t : Sheet) (coils : List ℕ) (st : Scanning) (g : Replay) → t.inputs ≡ known → Playing inputs coils p st g
    → Follows t inputs' coils g p.at r (read_input_on t st n)

-- SCAN
abbrev pub scan_move : Limits → Scanning → ScansMove
scan_move l st = pick (leb l.scans st.count) (no 24) (mark st.on (record { on = []; least = 0; count = st.count + 1 }))

-- the sheet's rungs and condition stand where the code looks for them
abbrev pub Drawn : Ladder → List ℕ → List ℕ → List ℕ → Type 0
Drawn a inputs coils w = LadderAt a.sheet.now a.from a.rungs (bounds_for inputs coils w)

pub record ScanAt (l : Limits) (a : Ladder) (inputs coils w : List ℕ) : Type 0 where
  pub few : l.scans < 65536
  pub known : a.inputs ≤ length inputs
  pub drawn : Drawn a inputs coils w

abbrev pub DrawnIn : Ladder → Places → Type 0
DrawnIn a m = Drawn a m.inputs.now m.coils.now m.stack.now

abbrev pub ScanIn : Limits → Ladder → Places → Type 0
ScanIn l a m = ScanAt l a m.inputs.now m.coils.now m.stack.now

-- as many places as before
pub record AsLong (m m' : Places) : Type 0 where
  pub inputs_long : length m'.inputs.now ≡ length m.inputs.now
  pub coils_long : length m'.coils.now ≡ length m.coils.now
  pub stack_long : length m'.stack.now ≡ length m.stack.now

abbrev pub Scans : Limits → Ladder → Places → Places → Play → Step → Type 0
Scans l a m m' p r =
    (h : DrawnIn a m) (st : Scanning) (g : Replay) → Playing m.inputs.now m.coils.now p st g
    → Follows h.sheet m'.inputs.now m'.coils.now g p.at r (scan_move l st)

-- END
abbrev pub end_move : Scanning → ScansMove
end_move st = pick (eqb st.count 0) (no 24) (done tt)

abbrev pub EndsScans : Play → Step → Type 0
EndsScans p r = (t : Sheet) (inputs coils : List ℕ) (st : Scanning) (g : Replay) → Playing inputs coils p st g → Follows t inputs coils g p.at r (end_move st)

-- the kinds in their spot
abbrev pub play_kinds : Play → List ℕ
play_kinds p = Kind.INPUT_ON ∷ Kind.SCAN ∷ pick (eqb p.least 0) (Kind.END ∷ []) []

-- the record at place q lies within the bytes, and the replay goes on further in
abbrev pub Inside : List ℕ → ℕ → Step → Type 0
Inside c q (Ok (Some p)) = (q < p.at) × (p.at ≤ length c)
Inside c q (Ok None) = q < length c
Inside c q (Err f) = Unit {0}

-- the answer follows what the reader makes of the record at the replay's place
pub record Stepped (l : Limits) (t : Sheet) (c : List ℕ) (m' : Places) (p : Play) (st : Scanning) (g : Replay) (r : Step) : Type 0 where
  pub inside : Inside c p.at r
  pub follows : Follows t m'.inputs.now m'.coils.now g (p.at + record_length (get_or (drop p.at c) 0 0)) r (move_at (scans_reader l t) st (drop p.at c))

abbrev pub Steps : Limits → Ladder → List ℕ → Places → Places → Play → Step → Type 0
Steps l a c m m' p r =
    (h : DrawnIn a m) (st : Scanning) (g : Replay) → h.sheet.inputs ≡ a.inputs → Playing m.inputs.now m.coils.now p st g
    → Stepped l h.sheet c m' p st g r

-- END read at the replay's place
abbrev pub Finishes : List ℕ → Play → Result Answer Told → Type 0
Finishes c p r =
    (g : Replay) → p.first ≡ first_of g.first → p.broken ≡ g.broken → (g.first ≡ 0 → g.broken ≡ false)
    → answer_of r ≡ pick g.broken (ends c p.at (confirmed g.first)) (refused (25 at p.at))

-- the ladder of a sheet stands in its bytes, its trace in c, and the lent places hold all inputs off and the start values
pub record ReplayAt (l : Limits) (a : Ladder) (c inputs coils w : List ℕ) : Type 0 where
  pub scan_at : ScanAt l a inputs coils w
  pub inputs_known : scan_at.drawn.sheet.inputs ≡ a.inputs
  pub opened : 1 ≤ length c
  pub inputs_off : on inputs ≡ named []
  pub started : on coils ≡ start_of scan_at.drawn.sheet.starts

-- the answer is that of the rules
pub record Replayed (l : Limits) (t : Sheet) (c inputs inputs' coils coils' w w' : List ℕ) (r : Result Answer Told) : Type 0 where
  pub answered : answer_of r ≡ judge_scans t c (unplayed t) (read_scans l t c)
  pub inputs_long : length inputs' ≡ length inputs
  pub coils_long : length coils' ≡ length coils
  pub stack_long : length w' ≡ length w

abbrev pub Replays : Limits → Ladder → List ℕ → List ℕ → List ℕ → List ℕ → List ℕ → List ℕ → List ℕ → Result Answer Told → Type 0
Replays l a c inputs inputs' coils coils' w w' r = (h : ReplayAt l a c inputs coils w) → Replayed l h.scan_at.drawn.sheet c inputs inputs' coils coils' w w' r
