-- A sheet's reader looks at each record's own bytes alone, so every proper prefix of a good sheet is refused with 2.
-- Assumes nothing.
use Prim.Native.Nat.{ℕ, ◌<◌}
use mathlib.Core.Path.{◌≡◌, refl}
use mathlib.Core.List.{List}
use mathlib.Core.Logic.{⊎_elim}
use native.Mathlib.Omega.{arith}
use lib.ListN.{length, take}
use lib.Dec.{eqb}
use Rattle.rules.specs.declared.Limits.{Limits}
use Rattle.rules.specs.Kind
use Rattle.rules.specs.Record.{rows, body_length, record_length}
use Rattle.rules.specs.Walk.{◌at◌, Reading, Reading.stopped, Reading.marked, Reading.closed}
use Rattle.rules.specs.Sheet.{Sheet}
use Rattle.rules.specs.ReadFormula.{sheet_faults}
use Rattle.rules.specs.ReadSheet.{blank, sheet_bounds, read_head, read_start, read_entry, read_rung, sheet_move, sheet_reader, SheetRead.good, SheetRead.bad, judge_sheet, read_sheet}
use Rattle.reading.specs.Readings.{final}
use Rattle.reading.proofs.AlikeLaws.{pick_same, alike_at, number_alike, formula_alike}
use Rattle.reading.proofs.ClipLaws.{Local, clip}
use Rattle.reading.proofs.SheetKept.{good_read}

pub sheet_local : (l : Limits) → Local (sheet_reader l)
unfolding rows body_length record_length sheet_reader sheet_move read_head read_start read_entry read_rung
sheet_local l t k bs cs a =
    pick_same (eqb k Kind.HEAD) _ _ _ _
    (λ e.
    let b = alike_at k bs cs a Kind.HEAD e in
    rw (number_alike 7 bs cs b 1 (omega arith), number_alike 7 bs cs b 3 (omega arith), number_alike 7 bs cs b 5 (omega arith)))
    (λ e₁. pick_same (eqb k Kind.START) _ _ _ _
    (λ e.
    let b = alike_at k bs cs a Kind.START e in
    rw (number_alike 4 bs cs b 1 (omega arith), b 3 (omega arith)))
    (λ e₂. pick_same (eqb k Kind.RUNG) _ _ _ _ (λ e. rw (number_alike 3 bs cs (alike_at k bs cs a Kind.RUNG e) 1 (omega arith)))
    (λ e₃. pick_same (eqb k Kind.CONDITION) _ _ _ _ (λ e. refl)
    (λ e₄. pick_same (eqb k Kind.END) _ _ _ _ (λ e. refl)
    (λ e₅. rw (formula_alike k bs cs a sheet_faults (sheet_bounds l t.sheet) t.stack, read_entry))))))

-- a reading that is refused makes a bad sheet
stopped_bad : (bs : List ℕ) (w : Reading ⊥ Sheet) (n p : ℕ) → final w ≡ stopped (n at p) → judge_sheet bs w ≡ bad (n at p)
unfolding final judge_sheet
stopped_bad bs (stopped y) n p e = cc
stopped_bad bs (marked q m w) n p e = absurd m
stopped_bad bs (closed q x) n p e = let z : ◌≡◌ {A = ℕ} 0 1 = cc in absurd (omega arith)

pub sheet_clipped : (l : Limits) (bs : List ℕ) (t : Sheet) → read_sheet l bs ≡ good t → (m : ℕ) → m < length bs
    → (p : ℕ) × (read_sheet l (take m bs) ≡ bad (2 at p))
unfolding read_sheet final sheet_reader
sheet_clipped l bs t e m h =
    let g = good_read l bs t e in
    ⊎_elim (λ x. absurd (omega (arith, g.last)))
    (λ x. (x.place, stopped_bad (take m bs) _ 2 x.place x.refused))
    (clip (sheet_reader l) (sheet_local l) g.place t m blank bs 0 (rw g.read))
