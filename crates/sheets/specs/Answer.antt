-- What the reading of a sheet answers, and what it leaves of the lent places.
use Rattle.std.specs.Prelude.{ℕ, ◌+◌, ◌*◌, ◌≤◌, ◌<◌, ◌≡◌, Result, Ok, Err, List, length, get_or, drop, ltb}
use Rattle.base.specs.Pick.{pick}
use Rattle.base.specs.Lists.{each}
use Rattle.rules.specs.declared.Limits.{Limits}
use Rattle.rules.specs.Fault.{refusal_of}
use Rattle.rules.specs.declared.refusals.Fault.TheVariants.{AfterSheet}
use Rattle.rules.specs.declared.refusals.Refusal.{Refusal}
use Rattle.rules.specs.Sheet.{Sheet}
use Rattle.rules.specs.ReadSheet.{SheetRead.good, SheetRead.bad, read_sheet}
use Rattle.rules.specs.WriteSheet.{write_rung}
use Rattle.sheets.specs.declared.Kept.{Kept}
use Rattle.sheets.specs.declared.Outline.{Outline}

-- the sheet that the bytes are: its numbers, where its rungs begin, and where its condition begins
pub record Outlined (l : Limits) (s : List ℕ) (h : Outline) : Type 0 where
  pub sheet : Sheet
  pub reads : read_sheet l s ≡ good sheet
  pub inputs_are : h.inputs ≡ sheet.inputs
  pub coils_are : h.coils ≡ sheet.coils
  pub rungs_are : h.rungs ≡ length sheet.rungs
  pub rungs_begin : h.rungs_at ≡ 7 + 4 * length sheet.starts
  pub condition_begins : h.condition_at ≡ h.rungs_at + length (each write_rung sheet.rungs)

-- the code's answer is that of the rules
unfoldable pub Says : Limits → List ℕ → Result Outline Refusal → Type 0
Says l s (Ok h) = Outlined l s h
Says l s (Err x) = read_sheet l s ≡ bad (refusal_of x)

-- any bytes s, on lent places m that are m' afterwards: those past the coils' own are as they were
pub record ReadAs (l : Limits) (s m m' : List ℕ) (r : Result Outline Refusal) : Type 0 where
  pub answered : Says l s r
  pub rest : drop l.coils m' ≡ drop l.coils m
  pub long : length m' ≡ length m

-- no coil is marked yet
pub record Cleared (l : Limits) (m : List ℕ) : Type 0 where
  pub room : l.coils ≤ length m
  pub zeros : (c : ℕ) → c < l.coils → get_or m c 0 ≡ 0

-- END is the last byte, else 11
abbrev pub ended_as : List ℕ → Kept → Result Outline Refusal
ended_as s d =
    pick (ltb (d.at + 1) (length s)) (Err (record { fault = AfterSheet; place = d.at + 1 }))
    (Ok (record {
      inputs = d.inputs;
      coils = d.coils;
      rungs = d.rungs;
      rungs_at = d.rungs_at;
      condition_at = d.condition_at;
    }))
