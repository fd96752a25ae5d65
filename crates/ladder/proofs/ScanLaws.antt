-- One scan over places is one scan over values.
-- Assumes nothing.
use Prim.Native.Nat.{ℕ, ◌<◌}
use mathlib.Core.Path.{◌≡◌, refl, sym, ap, ◌∙◌, fun_ext}
use mathlib.Core.Bool.{Bool, true, false, not}
use mathlib.Core.List.{List, [], ◌∷◌, ◌++◌}
use native.Mathlib.Omega.{arith}
use lib.ListN.{length, drop, set}
use lib.Seq.{get_or-set_same, get_or-set_other}
use lib.Dec.{eqb}
use borrow.Author.Tests.{eqb-true, eqb-false}
use Rattle.base.specs.Pick.{pick}
use Rattle.base.specs.Lists.{All, each}
use Rattle.rules.specs.Formula.{value}
use Rattle.rules.specs.Sheet.{Rung, with, run, scan, holds_after}
use Rattle.rules.specs.ReadFormula.{Bounds}
use Rattle.rules.specs.WriteSheet.{write_rung, write_formula}
use Rattle.ladder.specs.declared.Evaluated.{Evaluated}
use Rattle.ladder.specs.Values.{on, bit_of}
use Rattle.ladder.specs.Evaluate.{bounds_for, FormulaAt, Evaluates}
use Rattle.ladder.specs.Scan.{closed_rung, run_places, Runnable, RungsAt, RanRungs, RunsRungs, LadderAt, ScansOnce}
use Rattle.ladder.proofs.RungLaws.{drop_front, closed_length}

bit_on : (b : Bool) → not (eqb (bit_of b) 0) ≡ b
bit_on true = refl
bit_on false = refl

-- a stored value is read back there, and the other values stay
pub on_set : (w : List ℕ) (c : ℕ) (b : Bool) → c < length w → on (set w c (bit_of b)) ≡ with (on w) c b
unfolding with
on_set w c b h = fun_ext (λ n. go n (eqb n c) refl)
  where
    go : (n : ℕ) (x : Bool) → eqb n c ≡ x → on (set w c (bit_of b)) n ≡ pick (eqb n c) b (on w n)
    go n true e =
        let q : n ≡ c = eqb-true n c e in
        rw (e, q, get_or-set_same w c (bit_of b) 0 h) (bit_on b)
    go n false e = rw (e, get_or-set_other w c n (bit_of b) 0 (eqb-false n c e))

pub run_places_lem : (b : Bounds) (inputs w : List ℕ) (rs : List Rung) → b.coils ≡ length w → All (Runnable b) rs
    → on (run_places inputs w rs) ≡ run (on inputs) (on w) rs
unfolding run_places run closed_rung
run_places_lem b inputs w [] e a = refl
run_places_lem b inputs w (r ∷ rs) e a =
    let v : Bool = value (on inputs) (on w) r.formula in
    run_places_lem b inputs (closed_rung inputs w r) rs (e ∙ sym (closed_length inputs w r)) a.1
    ∙ ap (λ (k : ℕ → Bool). run (on inputs) k rs) (on_set w r.coil v (let n = a.0.named in omega arith))

pub places_length : (inputs w : List ℕ) (rs : List Rung) → length (run_places inputs w rs) ≡ length w
unfolding run_places
places_length inputs w [] = refl
places_length inputs w (r ∷ rs) = places_length inputs (closed_rung inputs w r) rs ∙ closed_length inputs w r

module _ (s : List ℕ) (p n : ℕ) (inputs k w : List ℕ) where
  pub rungs_first : LadderAt s p n (bounds_for inputs k w) → RungsAt s p n (bounds_for inputs k w)
  rungs_first h = record {
    rungs = h.sheet.rungs;
    rest = write_formula h.sheet.condition ++ h.rest;
    bytes = h.bytes;
    count = h.count;
    runnable = h.runnable;
  }

  module _ (k' w' : List ℕ) (at : ℕ) (f : RunsRungs s p n inputs k k' w w' at) (h : LadderAt s p n (bounds_for inputs k w)) where
    ran : RanRungs h.sheet.rungs p inputs k k' w w' at
    unfolding rungs_first
    ran = f (rungs_first h)

    pub condition_next : FormulaAt s at (bounds_for inputs k' w')
    condition_next = record {
      formula = h.sheet.condition;
      rest = h.rest;
      bytes = ap (λ (x : ℕ). drop x s) ran.ends ∙ drop_front s p (each write_rung h.sheet.rungs) (write_formula h.sheet.condition ++ h.rest) h.bytes;
      closes = h.closes;
      fits = rw (ap length ran.coils ∙ places_length inputs k h.sheet.rungs, ran.long) h.fits;
    }

  pub scanned_once : (k' w' w'' : List ℕ) (at : ℕ) (e : Evaluated) → RunsRungs s p n inputs k k' w w' at → Evaluates s at inputs k' w' w'' e
      → ScansOnce s p n inputs k k' w w'' e.on
  unfolding condition_next holds_after scan
  scanned_once k' w' w'' at e f v h =
      let r = ran k' w' at f h in
      let i = v (condition_next k' w' at f h) in
      let c : on k' ≡ run (on inputs) (on k) h.sheet.rungs = ap on r.coils ∙ run_places_lem (bounds_for inputs k w) inputs k h.sheet.rungs refl h.runnable in
      record {
        holds = i.is ∙ ap (λ (x : ℕ → Bool). value (on inputs) x h.sheet.condition) c;
        coils = r.coils;
        long = i.long ∙ r.long;
      }

pub ruleset scan_once_cases = (rungs_first, condition_next, scanned_once)
