-- A good sheet is within the limits, and its bytes are those that it writes.
-- Assumes nothing.
use Prim.Native.Nat.{ℕ, ◌+◌, ◌≤◌}
use mathlib.Core.Path.{◌≡◌, refl, sym, ap, ◌∙◌}
use mathlib.Core.Bool.{Bool, true, false, ◌&&◌}
use mathlib.Core.List.{List, [], ◌∷◌, ◌++◌, append_assoc}
use native.Mathlib.Omega.{arith}
use lib.ListN.{length, get_or, length-append}
use lib.Dec.{ltb, leb}
use borrow.Author.Tests.{ltb-false}
use Rattle.base.specs.Pick.{pick}
use Rattle.base.specs.Lists.{All}
use Rattle.rules.specs.declared.Limits.{Limits}
use Rattle.rules.specs.Head.{head_fits}
use Rattle.rules.specs.Kind
use Rattle.rules.specs.Record.{number}
use Rattle.rules.specs.Walk.{◌at◌, Move.go, Move.mark, Move.no, Move.done, Reading, Reading.stopped, Reading.marked, Reading.closed, reading}
use Rattle.rules.specs.Sheet.{Sheet}
use Rattle.rules.specs.ReadFormula.{sheet_faults, Pushed, Pushed.fine, Pushed.fault, formula_record}
use Rattle.rules.specs.ReadSheet.{Spot, Spot.at_head, Spot.at_starts, Spot.at_rungs, Spot.at_end, Draft, SheetMove, blank, spot_kinds, sheet_bounds, driven, one, read_head, read_start, read_entry, read_rung, read_condition, sheet_move, sheet_reader, SheetRead.good, SheetRead.bad, judge_sheet, read_sheet}
use Rattle.rules.specs.WriteSheet.{Bytes, write_sheet, WithinSheet}
use Rattle.reading.specs.Readings.{marks, final}
use Rattle.reading.proofs.FrontLaws.{Whole}
use Rattle.reading.proofs.WalkLaws.{Took}
use Rattle.reading.proofs.WholeLaws.{record_at, last_record, Arrived, arrives}
use Rattle.reading.proofs.ByteLaws.{one_of_all}
use Rattle.reading.proofs.EntryLaws.{FormulaKind, FormulaKind.an_input, FormulaKind.a_coil, FormulaKind.a_constant, FormulaKind.a_not, FormulaKind.an_and, FormulaKind.an_or}
use Rattle.reading.proofs.DraftLaws.{Opened, Finished, At, DraftIs, entry_moves, stack_move, head_kept, start_kept, entry_kept, rung_kept, condition_kept}

-- each record that goes on keeps the draft
module _ (l : Limits) (t u : Draft) (ws bs : List ℕ) (h : Bytes bs) where
  Keeps : ℕ → Type 0
  Keeps k = Whole k bs → sheet_move l t k bs ≡ go u → DraftIs l u (ws ++ record_at bs)

  entry_keeps : (k : ℕ) → FormulaKind k → Opened l t ws → Keeps k
  unfolding Keeps
  entry_keeps k f o w e = entry_kept l bs h u t ws k f w o (sym (entry_moves l t k bs f) ∙ e)

  entries_keep : Opened l t ws → All Keeps (0x10 ∷ 0x11 ∷ 0x12 ∷ 0x13 ∷ 0x14 ∷ 0x15 ∷ [])
  entries_keep o = (entry_keeps _ an_input o, (entry_keeps _ a_coil o, (entry_keeps _ a_constant o, (entry_keeps _ a_not o, (entry_keeps _ an_and o, (entry_keeps _ an_or o, tt))))))

  closings_keep : Opened l t ws → All Keeps (spot_kinds at_rungs)
  unfolding Keeps sheet_move spot_kinds
  closings_keep o = (λ w e. rung_kept l bs h u t ws w o e, (λ w e. condition_kept l bs h u t ws w o e, entries_keep o))

  spot_keeps : (s : Spot) → At l s t ws → All Keeps (spot_kinds s)
  unfolding Keeps sheet_move spot_kinds
  spot_keeps at_head i = (λ w e. rw i (head_kept l bs h u w e), tt)
  spot_keeps at_starts i = (λ w e. start_kept l bs h u t ws w i e, closings_keep i.opened)
  spot_keeps at_rungs i = closings_keep i
  spot_keeps at_end i = (λ w e. let z : ◌≡◌ {A = ℕ} 0 1 = cc in absurd (omega arith), tt)

  pub draft_kept : DraftIs l t ws → Took (sheet_reader l) t bs (go u) → DraftIs l u (ws ++ record_at bs)
  unfolding Keeps sheet_reader
  draft_kept i k = one_of_all Keeps (spot_kinds t.spot) (get_or bs 0 0) (spot_keeps t.spot i) k.allowed_kind k.whole_kind k.moved

-- a move that does not close the reading
abbrev GoesOn : SheetMove → Type 0
GoesOn (go u) = Unit {0}
GoesOn (mark m u) = Unit {0}
GoesOn (no n) = Unit {0}
GoesOn (done x) = ⊥

either_on : (x : Bool) (a b : SheetMove) → GoesOn a → GoesOn b → GoesOn (pick x a b)
either_on true a b h i = h
either_on false a b h i = i

-- only END closes
module _ (l : Limits) (t : Draft) (bs : List ℕ) (x : Sheet) where
  Closes : ℕ → Type 0
  Closes k = Whole k bs → sheet_move l t k bs ≡ done x → (t.spot ≡ at_end) × (t.sheet ≡ x) × Whole Kind.END bs

  on : (k : ℕ) → GoesOn (sheet_move l t k bs) → Closes k
  unfolding Closes
  on k h w e = absurd (rw e at h)

  entry_on : (k : ℕ) → GoesOn (read_entry l t k bs)
  unfolding read_entry
  entry_on k = by (formula_record sheet_faults (sheet_bounds l t.sheet) t.stack k bs)
    where
      by : (y : Pushed) → GoesOn (stack_move t y)
      by (fault n) = tt
      by (fine st) = tt

  midway : All Closes (spot_kinds at_rungs)
  unfolding sheet_move spot_kinds read_rung read_condition
  midway = (
    on 0x20
        (either_on (ltb (number bs 1) t.sheet.coils) _ _
        (either_on (one t.stack) _ _
        (either_on (driven t.sheet.rungs (number bs 1)) _ _ tt (either_on (leb t.promised (length t.sheet.rungs)) _ _ tt tt)) tt) tt),
    (
      on 0x21 (either_on (one t.stack) _ _ (either_on (ltb (length t.sheet.rungs) t.promised) _ _ tt tt) tt),
      (on 0x10 (entry_on 0x10), (on 0x11 (entry_on 0x11), (on 0x12 (entry_on 0x12), (on 0x13 (entry_on 0x13), (on 0x14 (entry_on 0x14), (on 0x15 (entry_on 0x15), tt)))))),
    ),
  )

  spot_closes : (s : Spot) → t.spot ≡ s → All Closes (spot_kinds s)
  unfolding Closes sheet_move spot_kinds read_head read_start
  spot_closes at_head i = (on 0x01 (either_on (head_fits l (number bs 1) (number bs 3) (number bs 5)) _ _ tt tt), tt)
  spot_closes at_starts i = (
    on 0x02
        (either_on (ltb (number bs 1) t.sheet.coils && ltb (get_or bs 3 0) 2) _ _
        (either_on (ltb (number bs 1) t.least) _ _ tt tt) tt),
    midway,
  )
  spot_closes at_rungs i = midway
  spot_closes at_end i = (λ w e. let z : t.sheet ≡ x = cc in (i, z, w), tt)

  pub end_closes : Took (sheet_reader l) t bs (done x) → (t.spot ≡ at_end) × (t.sheet ≡ x) × Whole Kind.END bs
  unfolding Closes sheet_reader
  end_closes k = one_of_all Closes (spot_kinds t.spot) (get_or bs 0 0) (spot_closes t.spot refl) k.allowed_kind k.whole_kind k.moved

-- a good sheet's reading: closed by its last byte
pub record Good (l : Limits) (bs : List ℕ) (t : Sheet) : Type 0 where
  pub place : ℕ
  pub read : reading (sheet_reader l) bs 0 blank ≡ closed place t
  pub last : length bs ≤ place + 1

pub good_read : (l : Limits) (bs : List ℕ) (t : Sheet) → read_sheet l bs ≡ good t → Good l bs t
unfolding read_sheet judge_sheet
good_read l bs t e = by (reading (sheet_reader l) bs 0 blank) refl e
  where
    by : (w : Reading ⊥ Sheet) → reading (sheet_reader l) bs 0 blank ≡ w → judge_sheet bs w ≡ good t → Good l bs t
    by (stopped y) f g = let z : ◌≡◌ {A = ℕ} 0 1 = cc in absurd (omega arith)
    by (marked p m w) f g = absurd m
    by (closed p s) f g = end (ltb (p + 1) (length bs)) refl g
      where
        end : (x : Bool) → ltb (p + 1) (length bs) ≡ x → pick x (bad (sheet_faults.after at p + 1)) (good s) ≡ good t → Good l bs t
        end true y v = let z : ◌≡◌ {A = ℕ} 0 1 = cc in absurd (omega arith)
        end false y v = let z : s ≡ t = cc in record { place = p; read = rw z at f; last = ltb-false (p + 1) (length bs) y }

-- where its reading arrives
arrived : (l : Limits) (bs : List ℕ) (t : Sheet) → Bytes bs → (g : Good l bs t)
    → Arrived (sheet_reader l) (λ (d : Draft) (ms : List ⊥) (ws : List ℕ). DraftIs l d ws) (marks (reading (sheet_reader l) bs 0 blank)) [] bs 0 g.place t
unfolding final
arrived l bs t b g =
    arrives (sheet_reader l) (λ (d : Draft) (ms : List ⊥) (ws : List ℕ). DraftIs l d ws)
    (λ d u ms ws cs h i k. draft_kept l d u ws cs h i k)
    (λ d u m ms ws cs h i k. absurd m)
    blank [] [] bs 0 g.place t b refl (rw g.read)

-- END's byte makes it whole
finished_bytes : (l : Limits) (d : Draft) (ws : List ℕ) → Finished l d ws → write_sheet d.sheet ≡ ws ++ (Kind.END ∷ [])
unfolding write_sheet
finished_bytes l d ws f = rw (f.written, f.rungs_all) (simp append_assoc)

pub sheet_written : (l : Limits) (bs : List ℕ) (t : Sheet) → Bytes bs → read_sheet l bs ≡ good t → WithinSheet l t × (write_sheet t ≡ bs)
sheet_written l bs t b e =
    let g = good_read l bs t e in
    let a = arrived l bs t b g in
    let c = end_closes l a.state a.left t a.closes in
    let f : Finished l a.state a.passed = rw c.0 at a.held in
    let n : length a.left ≤ 1 = omega (arith, simp length-append at (ap length a.split), a.place, g.last) in
    let z : a.left ≡ Kind.END ∷ [] = last_record Kind.END a.left c.2 n in (
      rw c.1 at f.within,
      ap write_sheet (sym c.1)
          ∙ finished_bytes l a.state a.passed f
          ∙ ap (λ (r : List ℕ). a.passed ++ r) (sym z)
          ∙ sym a.split,
    )
