-- How memory and numbers stand for a draft, and what each record does to them.
use Rattle.std.specs.Prelude.{ℕ, ◌+◌, ◌*◌, ◌≤◌, ◌<◌, ◌≡◌, Result, Ok, Err, Option, Some, None, true, not, List, [], ◌∷◌, length, get_or, drop, eqb}
use Rattle.base.specs.Lists.{each}
use Rattle.rules.specs.declared.Limits.{Limits}
use Rattle.rules.specs.Record.{record_length, one_of}
use Rattle.rules.specs.Walk.{Move.go, Move.no, Move.done, move_at}
use Rattle.rules.specs.Formula.{Formula}
use Rattle.rules.specs.Sheet.{Sheet}
use Rattle.rules.specs.ReadFormula.{entry}
use Rattle.rules.specs.ReadSheet.{Spot, Spot.at_head, Spot.at_starts, Spot.at_rungs, Spot.at_end, Draft, SheetMove, spot_kinds, driven, read_head, read_start, read_entry, read_rung, read_condition, sheet_move, sheet_reader}
use Rattle.rules.specs.WriteSheet.{write_entry, write_formula, write_rung}
use Rattle.rules.specs.Fault.{number_of}
use Rattle.rules.specs.declared.refusals.Fault.{Fault}
use Rattle.records.specs.Kinds.{byte_of}
use Rattle.records.specs.declared.Record.{Record}
use Rattle.sheets.specs.declared.Kept.{Kept}
use Rattle.sheets.specs.declared.Spot.{Spot as SpotKept}
use Rattle.sheets.specs.declared.Spot.TheVariants.{Head, Starts, Rungs, End}

-- the code's name of a spot
abbrev pub spot_of : SpotKept → Spot
spot_of Head = at_head
spot_of Starts = at_starts
spot_of Rungs = at_rungs
spot_of End = at_end

-- a step of the code: it goes on, or has read END, or refuses
abbrev pub Step : Type 0
Step = Result (Option Kept) Fault

-- what f counts, over a list of formulas
unfoldable pub total : (Formula → ℕ) → List Formula → ℕ
total f [] = 0
total f (x ∷ xs) = f x + total f xs

-- a formula's bytes
unfoldable pub bytes_of : Formula → ℕ
bytes_of f = length (write_formula f)

-- before HEAD
pub record Heading (d : Kept) (t : Sheet) : Type 0 where
  pub first : d.at ≡ 0
  pub no_rung : t.rungs ≡ []

-- where the rungs begin, and where the formula begins that no rung has closed yet
pub record Ending (d : Kept) (t : Sheet) : Type 0 where
  pub rungs_begin : d.rungs_at ≡ 7 + 4 * length t.starts
  pub condition_begins : d.condition_at ≡ d.rungs_at + length (each write_rung t.rungs)

-- and what was read of that formula
pub record Running (d : Kept) (t : Sheet) (fs : List Formula) : Type 0 where
  pub ruled : Ending d t
  pub so_far : d.at ≡ d.condition_at + total bytes_of fs

-- before the first record of a formula
pub record Starting (d : Kept) (t : Sheet) (fs : List Formula) : Type 0 where
  pub running : Running d t fs
  pub no_rung : t.rungs ≡ []
  pub no_value : fs ≡ []

unfoldable pub Laid : Spot → Kept → Sheet → List Formula → Type 0
Laid at_head d t fs = Heading d t
Laid at_starts d t fs = Starting d t fs
Laid at_rungs d t fs = Running d t fs
Laid at_end d t fs = Ending d t

-- memory has room for a mark for each coil
pub record Fit (l : Limits) (m : List ℕ) (d : Kept) : Type 0 where
  pub coils_in : d.coils ≤ l.coils
  pub room : l.coils ≤ length m

-- memory and numbers stand for a draft: a coil's place is marked exactly where a closed rung drives it
pub record Stands (l : Limits) (m : List ℕ) (d : Kept) (t : Draft) : Type 0 where
  pub spot_is : spot_of d.spot ≡ t.spot
  pub inputs_are : d.inputs ≡ t.sheet.inputs
  pub coils_are : d.coils ≡ t.sheet.coils
  pub promised_are : d.promised ≡ t.promised
  pub least_is : d.least ≡ t.least
  pub rungs_are : d.rungs ≡ length t.sheet.rungs
  pub height : d.depth ≡ length t.stack.values
  pub counted : d.count ≡ t.stack.count
  pub fit : Fit l m d
  pub marked : (c : ℕ) → c < l.coils → driven t.sheet.rungs c ≡ not (eqb (get_or m c 0) 0)
  pub laid : Laid t.spot d t.sheet t.stack.values

-- the rules go on, to a draft that memory and numbers stand for
pub record Went (l : Limits) (m : List ℕ) (d : Kept) (x : SheetMove) (next : ℕ) : Type 0 where
  pub to : Draft
  pub moved : x ≡ go to
  pub stands : Stands l m d to
  pub there : d.at ≡ next

-- the rules have read all of the sheet
pub record Closed (d : Kept) (t : Draft) (x : SheetMove) : Type 0 where
  pub moved : x ≡ done t.sheet
  pub ending : Ending d t.sheet

-- the code's answer to a record that ends before a place is that of the rules
unfoldable pub After : Limits → List ℕ → Kept → Draft → SheetMove → ℕ → Step → Type 0
After l m d t x next (Ok (Some e)) = Went l m e x next
After l m d t x next (Ok None) = Closed d t x
After l m d t x next (Err f) = x ≡ no (number_of f)

-- and the places of memory past those of the coils are as they were
pub record Stepped (l : Limits) (m m' : List ℕ) (d : Kept) (t : Draft) (x : SheetMove) (next : ℕ) (r : Step) : Type 0 where
  pub after : After l m' d t x next r
  pub rest : drop l.coils m' ≡ drop l.coils m

-- each kind of record, of every draft that is stood for
abbrev pub HeadReads : Limits → List ℕ → Kept → ℕ → Step → Type 0
HeadReads l s d next r =
    (m : List ℕ) (t : Draft) → Stands l m d t → Heading d t.sheet → next ≡ d.at + 7
    → After l m d t (read_head l (drop d.at s)) next r

abbrev pub StartReads : Limits → List ℕ → Kept → ℕ → Step → Type 0
StartReads l s d next r =
    (m : List ℕ) (t : Draft) → Stands l m d t → Starting d t.sheet t.stack.values → next ≡ d.at + 4
    → After l m d t (read_start t (drop d.at s)) next r

abbrev pub EntryReads : Limits → List ℕ → Kept → ℕ → ℕ → Step → Type 0
EntryReads l s d next k r =
    (m : List ℕ) (t : Draft) → Stands l m d t → Running d t.sheet t.stack.values
    → next ≡ d.at + length (write_entry (entry k (drop d.at s)))
    → After l m d t (read_entry l t k (drop d.at s)) next r

abbrev pub RungReads : Limits → List ℕ → List ℕ → List ℕ → Kept → ℕ → Step → Type 0
RungReads l s m m' d next r =
    (t : Draft) → Stands l m d t → Running d t.sheet t.stack.values → next ≡ d.at + 3
    → Stepped l m m' d t (read_rung t (drop d.at s)) next r

abbrev pub ConditionReads : Limits → Kept → ℕ → Step → Type 0
ConditionReads l d next r =
    (m : List ℕ) (t : Draft) → Stands l m d t → Running d t.sheet t.stack.values
    → After l m d t (read_condition t) next r

-- a whole record of a kind that is allowed
abbrev pub WholeReads : Limits → List ℕ → List ℕ → List ℕ → Kept → Record → Step → Type 0
WholeReads l s m m' d x r =
    (t : Draft) → Stands l m d t → one_of (spot_kinds t.spot) (byte_of x.kind) ≡ true → x.next ≡ d.at + record_length (byte_of x.kind)
    → Stepped l m m' d t (sheet_move l t (byte_of x.kind) (drop d.at s)) x.next r

-- whatever stands at the draft's place
abbrev pub Answers : Limits → List ℕ → List ℕ → List ℕ → Kept → Step → Type 0
Answers l s m m' d r =
    (t : Draft) → Stands l m d t
    → Stepped l m m' d t (move_at (sheet_reader l) t (drop d.at s)) (d.at + record_length (get_or (drop d.at s) 0 0)) r
