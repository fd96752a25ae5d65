-- What running the rungs' bytes promises: every place of the coils after a scan.
use Rattle.std.specs.Prelude.{ℕ, ◌+◌, ◌<◌, ◌≡◌, Bool, false, List, [], ◌∷◌, ◌++◌, length, drop, set, get_or}
use Rattle.base.specs.Lists.{All, each}
use Rattle.rules.specs.Formula.{value}
use Rattle.rules.specs.Sheet.{Rung, Sheet, holds_after}
use Rattle.rules.specs.Record.{one_of}
use Rattle.rules.specs.ReadFormula.{Bounds, formula_kinds}
use Rattle.rules.specs.WriteSheet.{write_rung, write_formula, Fits}
use Rattle.ladder.specs.Values.{on, bit_of}
use Rattle.ladder.specs.Evaluate.{bounds_for}

-- the place of a rung's coil takes its formula's value, 0 or 1
unfoldable pub closed_rung : List ℕ → List ℕ → Rung → List ℕ
closed_rung inputs w r = set w r.coil (bit_of (value (on inputs) (on w) r.formula))

-- the coils' places after the rungs in order; a place without a rung stays as it is
unfoldable pub run_places : List ℕ → List ℕ → List Rung → List ℕ
run_places inputs w [] = w
run_places inputs w (r ∷ rs) = run_places inputs (closed_rung inputs w r) rs

-- a rung that can be run on the lent places
pub record Runnable (b : Bounds) (r : Rung) : Type 0 where
  pub fits : Fits b r.formula
  pub named : r.coil < b.coils

-- a rung's bytes stand at place p
pub record RungAt (s : List ℕ) (p : ℕ) (b : Bounds) : Type 0 where
  pub rung : Rung
  pub rest : List ℕ
  pub bytes : drop p s ≡ write_rung rung ++ rest
  pub runnable : Runnable b rung

pub record RanRung (r : Rung) (p : ℕ) (inputs k k' w w' : List ℕ) (q : ℕ) : Type 0 where
  pub ends : q ≡ p + length (write_rung r)
  pub coils : k' ≡ closed_rung inputs k r
  pub long : length w' ≡ length w

abbrev pub RunsRung : List ℕ → ℕ → List ℕ → List ℕ → List ℕ → List ℕ → List ℕ → ℕ → Type 0
RunsRung s p inputs k k' w w' q = (h : RungAt s p (bounds_for inputs k w)) → RanRung h.rung p inputs k k' w w' q

-- the bytes of n rungs stand at place p
pub record RungsAt (s : List ℕ) (p n : ℕ) (b : Bounds) : Type 0 where
  pub rungs : List Rung
  pub rest : List ℕ
  pub bytes : drop p s ≡ each write_rung rungs ++ rest
  pub count : length rungs ≡ n
  pub runnable : All (Runnable b) rungs

pub record RanRungs (rs : List Rung) (p : ℕ) (inputs k k' w w' : List ℕ) (q : ℕ) : Type 0 where
  pub ends : q ≡ p + length (each write_rung rs)
  pub coils : k' ≡ run_places inputs k rs
  pub long : length w' ≡ length w

abbrev pub RunsRungs : List ℕ → ℕ → ℕ → List ℕ → List ℕ → List ℕ → List ℕ → List ℕ → ℕ → Type 0
RunsRungs s p n inputs k k' w w' q = (h : RungsAt s p n (bounds_for inputs k w)) → RanRungs h.rungs p inputs k k' w w' q

-- the bytes of a sheet's rungs, n of them, and of its condition stand at place p
pub record LadderAt (s : List ℕ) (p n : ℕ) (b : Bounds) : Type 0 where
  pub sheet : Sheet
  pub rest : List ℕ
  pub bytes : drop p s ≡ each write_rung sheet.rungs ++ (write_formula sheet.condition ++ rest)
  pub closes : one_of formula_kinds (get_or rest 0 0) ≡ false
  pub count : length sheet.rungs ≡ n
  pub runnable : All (Runnable b) sheet.rungs
  pub fits : Fits b sheet.condition

-- the answer is the condition after the scan, and the coils' places are those after it
pub record ScannedOnce (t : Sheet) (inputs k k' w w' : List ℕ) (r : Bool) : Type 0 where
  pub holds : r ≡ holds_after t (on inputs) (on k)
  pub coils : k' ≡ run_places inputs k t.rungs
  pub long : length w' ≡ length w

abbrev pub ScansOnce : List ℕ → ℕ → ℕ → List ℕ → List ℕ → List ℕ → List ℕ → List ℕ → Bool → Type 0
ScansOnce s p n inputs k k' w w' r = (h : LadderAt s p n (bounds_for inputs k w)) → ScannedOnce h.sheet inputs k k' w w' r
