-- What a caller learns from the scan's contract.
-- Assumes nothing.
use Prim.Native.Nat.{ℕ, ◌≤◌}
use mathlib.Core.Path.{◌≡◌, refl, sym, ap, ◌∙◌}
use mathlib.Core.Bool.{Bool, true, false}
use mathlib.Core.List.{List}
use native.Mathlib.Omega.{arith}
use lib.ListN.{length, replicate, length-replicate}
use lib.Dec.{ltb}
use borrow.Author.Tests.{ltb-false}
use Rattle.rules.specs.declared.Limits.{Limits}
use Rattle.std.specs.Prelude.{Result, Ok, Err}
use Rattle.rules.specs.declared.refusals.Refusal.{Refusal as Told}
use Rattle.rules.specs.Walk.{Refusal, ◌at◌}
use Rattle.rules.specs.Sheet.{Sheet, scan, holds_after}
use Rattle.rules.specs.ReadSheet.{SheetRead, SheetRead.good, SheetRead.bad, read_sheet}
use Rattle.rules.specs.WriteSheet.{WithinSheet, Bytes}
use Rattle.reading.proofs.SheetKept.{sheet_written}
use Rattle.ladder.specs.Values.{on}
use Rattle.ladder.specs.Evaluate.{bounds_for}
use Rattle.ladder.specs.Scan.{run_places}
use Rattle.ladder.specs.Scanned.{ScanAnswer.done, ScanAnswer.refused, short, answer_for, coils_for, scan_of, coils_after, scanned_of, ScansSheet, Meant}
use Rattle.ladder.proofs.ScanLaws.{run_places_lem, places_length}
use Rattle.ladder.proofs.SheetBytes.{runnables}
use Rattle.ladder.proofs.ScannedLaws.{answers_for, leaves_for}

-- as many places as before
pub coils_length : (l : Limits) (s inputs coils : List ℕ) → length (coils_after l s inputs coils) ≡ length coils
unfolding coils_after coils_for
coils_length l s inputs coils = go (short l inputs coils) refl (read_sheet l s) refl
  where
    go : (x : Bool) → short l inputs coils ≡ x → (y : SheetRead) → read_sheet l s ≡ y → length (coils_after l s inputs coils) ≡ length coils
    go true e y f = rw e
    go false e (bad y) f = rw (e, f, coils_for)
    go false e (good t) f = rw (e, f, coils_for) (places_length inputs coils t.rungs)

-- a good sheet, on enough places
module _ (l : Limits) (s inputs coils : List ℕ) (t : Sheet) (e : read_sheet l s ≡ good t) (ri : l.inputs ≤ length inputs) (rc : l.coils ≤ length coils) where
  pub coils_are : coils_after l s inputs coils ≡ run_places inputs coils t.rungs
  unfolding coils_for
  coils_are = leaves_for l s inputs coils ri rc ∙ ap (coils_for inputs coils) e

  pub answer_is : scan_of l s inputs coils ≡ done (holds_after t (on inputs) (on coils))
  unfolding answer_for
  answer_is = answers_for l s inputs coils ri rc ∙ ap (answer_for inputs coils) e

  -- the places after it are the coils after it
  pub coils_mean : Bytes s → on (coils_after l s inputs coils) ≡ scan t (on inputs) (on coils)
  unfolding scan
  coils_mean b =
      let w : WithinSheet l t = (sheet_written l s t b e).0 in
      let deep : List ℕ = replicate l.depth 0 in
      let d : length deep ≡ l.depth = length-replicate l.depth 0 in
      ap on coils_are
      ∙ run_places_lem (bounds_for inputs coils deep) inputs coils t.rungs refl
      (runnables l t w inputs coils deep ri rc (omega arith) t.rungs w.rungs_within w.coils_named)

  -- it is not refused
  pub scan_done : (coils' : List ℕ) (r : Result Bool Told) → ScansSheet l s inputs coils coils' r → r ≡ Ok (holds_after t (on inputs) (on coils))
  unfolding scanned_of
  scan_done coils' (Ok b) z = let q = z.answered ∙ answer_is in cc
  scan_done coils' (Err x) z = let q = z.answered ∙ answer_is in let y : ◌≡◌ {A = ℕ} 0 1 = cc in absurd (omega arith)

-- it was done: so the places were enough, and the sheet is good
module _ (l : Limits) (s inputs coils coils' : List ℕ) (b : Bool) (h : Bytes s) (z : ScansSheet l s inputs coils coils' (Ok b)) where
  says : scan_of l s inputs coils ≡ done b
  unfolding scanned_of
  says = sym z.answered

  not_refused : (x : Refusal) → scan_of l s inputs coils ≡ refused x → ⊥
  not_refused x e = let q = says in let y : ◌≡◌ {A = ℕ} 0 1 = cc in omega arith

  pub was_meant : Meant l s inputs coils coils' b
  unfolding scan_of answer_for
  was_meant = go (ltb (length inputs) l.inputs) refl (ltb (length coils) l.coils) refl (read_sheet l s) refl
    where
      go : (x : Bool) → ltb (length inputs) l.inputs ≡ x → (y : Bool) → ltb (length coils) l.coils ≡ y
          → (r : SheetRead) → read_sheet l s ≡ r → Meant l s inputs coils coils' b
      go true e y f r g = absurd (not_refused (1 at 0) (rw e))
      go false e true f r g = absurd (not_refused (1 at 0) (rw (e, f)))
      go false e false f (bad x) g = absurd (not_refused x (rw (e, f, g, answer_for)))
      go false e false f (good t) g =
          let ri : l.inputs ≤ length inputs = ltb-false _ _ e in
          let rc : l.coils ≤ length coils = ltb-false _ _ f in
          let q = says in
          let d = answer_is l s inputs coils t g ri rc in
          record {
            sheet = t;
            reads = g;
            holds = cc;
            after = ap on z.left ∙ coils_mean l s inputs coils t g ri rc h;
          }
