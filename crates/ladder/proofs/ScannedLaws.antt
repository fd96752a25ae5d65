-- The scan of any sheet bytes: the sheet's refusal, the scan of a good one, and lent places that are too short.
-- Assumes nothing.
use Prim.Native.Nat.{ℕ, ◌≤◌, ◌<◌}
use mathlib.Core.Path.{◌≡◌, sym, ap, ◌∙◌}
use mathlib.Core.Bool.{Bool, true, false, or-true}
use mathlib.Core.List.{List}
use native.Mathlib.Omega.{arith}
use mir.Syntax.{w8}
use mir.Val.{Fits}
use lib.ListN.{length, get_or}
use lib.Dec.{ltb}
use borrow.Author.Tests.{lt-ltb, le-ltb}
use Rattle.rules.specs.declared.Limits.{Limits}
use Rattle.rules.specs.Head.{base_limits}
use Rattle.std.specs.Prelude.{Ok, Err}
use Rattle.rules.specs.declared.refusals.Fault.TheVariants.{ShortWorkspace}
use Rattle.rules.specs.declared.refusals.Refusal.{Refusal as Told}
use Rattle.rules.specs.Sheet.{Sheet}
use Rattle.rules.specs.ReadSheet.{read_sheet}
use Rattle.rules.specs.WriteSheet.{write_sheet, WithinSheet, Bytes}
use Rattle.reading.proofs.SheetKept.{sheet_written}
use Rattle.sheets.specs.declared.Outline.{Outline}
use Rattle.sheets.specs.Answer.{Outlined, Says, ReadAs}
use Rattle.ladder.specs.Evaluate.{bounds_for}
use Rattle.ladder.specs.Scan.{LadderAt, ScansOnce}
use Rattle.ladder.specs.Scanned.{ScanAnswer.done, short, answer_for, coils_for, scan_of, coils_after, scanned_of, ScansSheet, Roomy}
use Rattle.ladder.proofs.SheetBytes.{ladder_at}

-- enough places
module _ (l : Limits) (s inputs coils : List ℕ) (a : l.inputs ≤ length inputs) (b : l.coils ≤ length coils) where
  long_enough : short l inputs coils ≡ false
  long_enough = rw (le-ltb _ _ a, le-ltb _ _ b)

  pub answers_for : scan_of l s inputs coils ≡ answer_for inputs coils (read_sheet l s)
  unfolding scan_of
  answers_for = rw long_enough

  pub leaves_for : coils_after l s inputs coils ≡ coils_for inputs coils (read_sheet l s)
  unfolding coils_after
  leaves_for = rw long_enough

-- what is known of a slice of bytes
pub bytes_known : (s : List ℕ) → ((k : ℕ) → Fits w8 (get_or s k 0)) → Bytes s
bytes_known s h k = omega (arith, h k)

-- any bytes on enough places
module _ (l : Limits) (s inputs coils marks stack : List ℕ) (a : Roomy l inputs coils marks stack) (marks' : List ℕ) where
  pub sheet_bad : (x : Told) → ReadAs l s marks marks' (Err x) → ScansSheet l s inputs coils coils (Err x)
  unfolding Says scanned_of answer_for coils_for
  sheet_bad x i = record {
    answered = sym (answers_for l s inputs coils a.inputs_room a.coils_room ∙ ap (answer_for inputs coils) i.answered);
    left = sym (leaves_for l s inputs coils a.inputs_room a.coils_room ∙ ap (coils_for inputs coils) i.answered);
  }

  module _ (h : Outline) (i : ReadAs l s marks marks' (Ok h)) (b : Bytes s) where
    outlined : Outlined l s h
    unfolding Says
    outlined = i.answered

    abbrev t : Sheet
    t = outlined.sheet

    within : WithinSheet l t × (write_sheet t ≡ s)
    within = sheet_written l s t b outlined.reads

    pub ladder_here : LadderAt s h.rungs_at h.rungs (bounds_for inputs coils stack)
    ladder_here =
        ladder_at l t within.0 inputs coils stack a.inputs_room a.coils_room a.stack_room s within.1
        h.rungs_at h.rungs outlined.rungs_begin outlined.rungs_are

    pub sheet_good : (coils' stack' : List ℕ) (r : Bool) → ScansOnce s h.rungs_at h.rungs inputs coils coils' stack stack' r
        → ScansSheet l s inputs coils coils' (Ok r)
    unfolding ladder_here ladder_at scanned_of answer_for coils_for
    sheet_good coils' stack' r f =
        let z = f ladder_here in
        record {
          answered = ap done z.holds ∙ sym (answers_for l s inputs coils a.inputs_room a.coils_room ∙ ap (answer_for inputs coils) outlined.reads);
          left = z.coils ∙ sym (leaves_for l s inputs coils a.inputs_room a.coils_room ∙ ap (coils_for inputs coils) outlined.reads);
        }

-- too few places
module _ (s inputs coils : List ℕ) where
  refused_short : short base_limits inputs coils ≡ true → ScansSheet base_limits s inputs coils coils (Err (record { fault = ShortWorkspace; place = 0 }))
  unfolding scanned_of scan_of coils_after
  refused_short e = record { answered = rw e; left = rw e }

  pub few_inputs : length inputs < base_limits.inputs → ScansSheet base_limits s inputs coils coils (Err (record { fault = ShortWorkspace; place = 0 }))
  few_inputs h = refused_short (rw (lt-ltb _ _ h))

  pub few_coils : length coils < base_limits.coils → ScansSheet base_limits s inputs coils coils (Err (record { fault = ShortWorkspace; place = 0 }))
  few_coils h = refused_short (rw (lt-ltb _ _ h) (or-true (ltb (length inputs) base_limits.inputs)))
