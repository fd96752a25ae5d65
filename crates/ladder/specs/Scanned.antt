-- What the public scan promises: its answer, and every place of the lent coils, for any sheet bytes, inputs and coils.
use Rattle.std.specs.Prelude.{ℕ, ◌≤◌, ◌≡◌, Result, Ok, Err, Bool, ◌||◌, List, length, ltb}
use Rattle.base.specs.Pick.{pick}
use Rattle.rules.specs.declared.Limits.{Limits}
use Rattle.rules.specs.declared.refusals.Refusal.{Refusal as Told}
use Rattle.rules.specs.Fault.{refusal_of}
use Rattle.rules.specs.Walk.{Refusal, ◌at◌}
use Rattle.rules.specs.Sheet.{Sheet, scan, holds_after}
use Rattle.rules.specs.ReadSheet.{SheetRead, SheetRead.good, SheetRead.bad, read_sheet}
use Rattle.rules.specs.WriteSheet.{Bytes}
use Rattle.ladder.specs.Values.{on}
use Rattle.ladder.specs.Scan.{run_places}

-- whether the condition holds after the scan, or why there was none
pub data ScanAnswer : Type 0 where
  done : Bool → ScanAnswer
  refused : Refusal → ScanAnswer

-- a place for each input and each coil that a sheet may have, else 1
abbrev pub short : Limits → List ℕ → List ℕ → Bool
short l inputs coils = ltb (length inputs) l.inputs || ltb (length coils) l.coils

unfoldable pub answer_for : List ℕ → List ℕ → SheetRead → ScanAnswer
answer_for inputs coils (bad x) = refused x
answer_for inputs coils (good t) = done (holds_after t (on inputs) (on coils))

-- the places after the rungs in order; those without a rung, and all of them where the sheet is refused, stay as they are
unfoldable pub coils_for : List ℕ → List ℕ → SheetRead → List ℕ
coils_for inputs coils (bad x) = coils
coils_for inputs coils (good t) = run_places inputs coils t.rungs

-- the order: 1, then the whole sheet
unfoldable pub scan_of : Limits → List ℕ → List ℕ → List ℕ → ScanAnswer
scan_of l s inputs coils = pick (short l inputs coils) (refused (1 at 0)) (answer_for inputs coils (read_sheet l s))

unfoldable pub coils_after : Limits → List ℕ → List ℕ → List ℕ → List ℕ
coils_after l s inputs coils = pick (short l inputs coils) coils (coils_for inputs coils (read_sheet l s))

-- the number and values for each case of the scan's answer
unfoldable pub scanned_of : Result Bool Told → ScanAnswer
scanned_of (Ok b) = done b
scanned_of (Err x) = refused (refusal_of x)

-- the answer is that of the rules, and so is every place of the coils after it
pub record ScansSheet (l : Limits) (s inputs coils coils' : List ℕ) (r : Result Bool Told) : Type 0 where
  pub answered : scanned_of r ≡ scan_of l s inputs coils
  pub left : coils' ≡ coils_after l s inputs coils

-- the sheet that the bytes are; its condition after one scan, and the coils after it, as values
pub record Meant (l : Limits) (s inputs coils coils' : List ℕ) (b : Bool) : Type 0 where
  pub sheet : Sheet
  pub reads : read_sheet l s ≡ good sheet
  pub holds : b ≡ holds_after sheet (on inputs) (on coils)
  pub after : on coils' ≡ scan sheet (on inputs) (on coils)

-- A scan that is not refused is a scan as the meaning says.
abbrev pub ScanMeans : Type 0
ScanMeans =
    (l : Limits) (s inputs coils coils' : List ℕ) (b : Bool) → Bytes s
    → ScansSheet l s inputs coils coils' (Ok b) → Meant l s inputs coils coils' b

-- places that are enough for any sheet within the limits: the lent ones, and those for the marks and the stack
pub record Roomy (l : Limits) (inputs coils marks stack : List ℕ) : Type 0 where
  pub inputs_room : l.inputs ≤ length inputs
  pub coils_room : l.coils ≤ length coils
  pub marks_room : l.coils ≤ length marks
  pub stack_room : l.depth ≤ length stack
