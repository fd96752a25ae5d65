-- Every clause of every set has one to three literals, whose variables count from 1 to the last one.
-- Assumes nothing.
use Prim.Native.Nat.{ℕ, zero, suc, ◌+◌, ◌≤◌, ◌<◌}
use native.Mathlib.Omega.{arith}
use mathlib.Core.Bool.{Bool, true, false}
use mathlib.Core.List.{List, [], ◌∷◌, ◌++◌}
use lib.Dec.{eqb}
use Rattle.base.specs.Pick.{pick}
use Rattle.base.specs.Lists.{All}
use Rattle.rules.specs.declared.Limits.{Limits}
use Rattle.rules.specs.Formula.{Leaf.input, Leaf.coil, Leaf.constant, Formula, Formula.leaf, Formula.inverse, Formula.both, Formula.either, size}
use Rattle.rules.specs.Sheet.{Start, Rung, Sheet, with, start_of}
use Rattle.rules.specs.ReadFormula.{Bounds}
use Rattle.rules.specs.ReadSheet.{sheet_bounds}
use Rattle.rules.specs.WriteSheet.{Names, Fits, sizes, WithinSheet}
use Rattle.rules.specs.WriteCertificate.{WithinInvariant}
use Rattle.rules.specs.Certificate.{Which, Which.start, Which.keep, Which.safe, invariant_bounds}
use Rattle.rules.specs.Clauses.{Lit, Lit.plain, Lit.negated, Clause, Vars, before, after, top, contact_clauses, leaf_clauses, defining, closing, rung_clauses, after_rungs, rungs_at, condition_at, before_at, after_at, variables, start_units, ladder, condition, invariant_before, invariant_after, clause_set}
use Rattle.solving.specs.Places.{variable, Placeable}
use Rattle.solving.specs.Statements.{SetsPlaceable}
use Rattle.solving.proofs.Gates.{all_append}
use Rattle.solving.proofs.Records.{size_pos}
use Rattle.solving.proofs.Settled.{all_map}

-- v counts from 1 to n
abbrev Counts : ℕ → ℕ → Type 0
Counts n v = (1 ≤ v) × (v ≤ n)

-- so do the variables of the inputs and coils that are there
record Numbered (n : ℕ) (bounds : Bounds) (vs : Vars) : Type 0 where
  inputs : (j : ℕ) → j < bounds.inputs → Counts n (vs.input j)
  coils : (c : ℕ) → c < bounds.coils → Counts n (vs.coil c)

module _ (n : ℕ) where
  one : (x : Lit) → Counts n (variable x) → Placeable n (x ∷ [])
  one x p = record { some = omega arith; few = omega arith; counted = (p, tt) }

  two : (x y : Lit) → Counts n (variable x) → Counts n (variable y) → Placeable n (x ∷ y ∷ [])
  two x y p q = record { some = omega arith; few = omega arith; counted = (p, (q, tt)) }

  three : (x y z : Lit) → Counts n (variable x) → Counts n (variable y) → Counts n (variable z) → Placeable n (x ∷ y ∷ z ∷ [])
  three x y z p q r = record { some = omega arith; few = omega arith; counted = (p, (q, (r, tt))) }

  appended : (xs ys : List Clause) → All (Placeable n) xs → All (Placeable n) ys → All (Placeable n) (xs ++ ys)
  appended xs ys p q = (all_append (Placeable n) xs ys).1 (p, q)

  top_counts : (g : ℕ) (f : Formula) → 1 ≤ g → g + size f ≤ n + 1 → Counts n (top g f)
  top_counts g f p q = let s = size_pos f in omega arith

  module _ (bounds : Bounds) where
    contacts : (g v : ℕ) → Counts n g → Counts n v → All (Placeable n) (contact_clauses g v)
    contacts g v p q = (two (negated g) (plain v) p q, (two (plain g) (negated v) p q, tt))

    formula : (vs : Vars) → Numbered n bounds vs → (g : ℕ) (f : Formula) → Names bounds f → 1 ≤ g → g + size f ≤ n + 1 → All (Placeable n) (defining vs g f)
    unfolding defining leaf_clauses Names size
    formula vs m g (leaf (input j)) h p q = contacts g (vs.input j) (p, omega arith) (m.inputs j h)
    formula vs m g (leaf (coil c)) h p q = contacts g (vs.coil c) (p, omega arith) (m.coils c h)
    formula vs m g (leaf (constant true)) h p q = (one (plain g) (p, omega arith), tt)
    formula vs m g (leaf (constant false)) h p q = (one (negated g) (p, omega arith), tt)
    formula vs m g (inverse f) h p q =
        let x = top_counts g f p (omega arith) in
        let o : Counts n (g + size f) = (omega arith, omega arith) in
        appended (defining vs g f) _ (formula vs m g f h p (omega arith)) (two (negated _) (negated _) o x, (two (plain _) (plain _) o x, tt))
    formula vs m g (both f k) h p q =
        let x = top_counts g f p (omega arith) in
        let y = top_counts (g + size f) k (omega arith) (omega arith) in
        let o : Counts n (g + size f + size k) = (omega arith, omega arith) in
        appended (defining vs g f) _ (formula vs m g f h.0 p (omega arith))
        (appended (defining vs (g + size f) k) _ (formula vs m (g + size f) k h.1 (omega arith) (omega arith))
        (two (negated _) (plain _) o x, (two (negated _) (plain _) o y, (three (plain _) (negated _) (negated _) o x y, tt))))
    formula vs m g (either f k) h p q =
        let x = top_counts g f p (omega arith) in
        let y = top_counts (g + size f) k (omega arith) (omega arith) in
        let o : Counts n (g + size f + size k) = (omega arith, omega arith) in
        appended (defining vs g f) _ (formula vs m g f h.0 p (omega arith))
        (appended (defining vs (g + size f) k) _ (formula vs m (g + size f) k h.1 (omega arith) (omega arith))
        (two (plain _) (negated _) o x, (two (plain _) (negated _) o y, (three (negated _) (plain _) (plain _) o x y, tt))))

    closed : (vs : Vars) (g : ℕ) (r : Rung) → Numbered n bounds vs → 1 ≤ g → g + size r.formula ≤ n + 1 → Numbered n bounds (closing vs g r)
    unfolding with
    closed vs g r m p q = record { inputs = m.inputs; coils = λ c l. go c l (eqb c r.coil) }
      where
        go : (c : ℕ) → c < bounds.coils → (x : Bool) → Counts n (pick x (top g r.formula) (vs.coil c))
        go c l true = top_counts g r.formula p q
        go c l false = m.coils c l

    rungs : (vs : Vars) (g : ℕ) (rs : List Rung) → Numbered n bounds vs → All (λ (r : Rung). Names bounds r.formula) rs
        → 1 ≤ g → g + sizes rs ≤ n + 1 → All (Placeable n) (rung_clauses vs g rs)
    unfolding rung_clauses sizes
    rungs vs g [] m h p q = tt
    rungs vs g (r ∷ rs) m h p q =
        appended (defining vs g r.formula) _ (formula vs m g r.formula h.0 p (omega arith))
        (rungs (closing vs g r) (g + size r.formula) rs (closed vs g r m p (omega arith)) h.1 (omega arith) (omega arith))

    scanned : (vs : Vars) (g : ℕ) (rs : List Rung) → Numbered n bounds vs → 1 ≤ g → g + sizes rs ≤ n + 1 → Numbered n bounds (after_rungs vs g rs)
    unfolding after_rungs sizes
    scanned vs g [] m p q = m
    scanned vs g (r ∷ rs) m p q =
        scanned (closing vs g r) (g + size r.formula) rs (closed vs g r m p (omega arith)) (omega arith) (omega arith)

  starts : (ss : List Start) (c m : ℕ) → c + m ≤ n → All (Placeable n) (start_units ss c m)
  unfolding start_units
  starts ss c zero h = tt
  starts ss c (suc m) h = (either_sign (start_of ss c), starts ss (suc c) m (omega arith))
    where
      either_sign : (x : Bool) → Placeable n (pick x (plain (1 + c)) (negated (1 + c)) ∷ [])
      either_sign true = one (plain (1 + c)) (omega arith, omega arith)
      either_sign false = one (negated (1 + c)) (omega arith, omega arith)

module _ (l : Limits) (t : Sheet) (inv : Formula) (sheet : WithinSheet l t) (invariant : WithinInvariant l t inv) where
  before_numbered : Numbered (variables t inv) (sheet_bounds l t) (before t)
  before_numbered =
      let s = size_pos inv in
      record { inputs = λ j h. (omega arith, omega arith); coils = λ c h. (omega arith, omega arith) }

  after_numbered : Numbered (variables t inv) (sheet_bounds l t) (after t)
  after_numbered =
      let s = size_pos inv in
      scanned (variables t inv) (sheet_bounds l t) (before t) (rungs_at t) t.rungs before_numbered (omega arith) (omega arith)

  over_coils : (vs : Vars) → Numbered (variables t inv) (sheet_bounds l t) vs → Numbered (variables t inv) (invariant_bounds l t) vs
  over_coils vs m = record { inputs = λ j h. absurd (omega arith); coils = m.coils }

  ladder_fine : All (Placeable (variables t inv)) (ladder t)
  ladder_fine =
      let s = size_pos inv in
      rungs (variables t inv) (sheet_bounds l t) (before t) (rungs_at t) t.rungs before_numbered
      (all_map (λ (r : Rung). Fits (sheet_bounds l t) r.formula) (λ (r : Rung). Names (sheet_bounds l t) r.formula) t.rungs (λ r f. f.names) sheet.rungs_within)
      (omega arith) (omega arith)

  condition_fine : All (Placeable (variables t inv)) (condition t)
  condition_fine =
      let s = size_pos inv in
      formula (variables t inv) (sheet_bounds l t) (after t) after_numbered (condition_at t) t.condition sheet.condition_within.names (omega arith) (omega arith)

  before_fine : All (Placeable (variables t inv)) (invariant_before t inv)
  before_fine =
      let s = size_pos inv in
      formula (variables t inv) (invariant_bounds l t) (before t) (over_coils (before t) before_numbered) (before_at t) inv invariant.fits.names (omega arith) (omega arith)

  after_fine : All (Placeable (variables t inv)) (invariant_after t inv)
  after_fine =
      let s = size_pos inv in
      formula (variables t inv) (invariant_bounds l t) (after t) (over_coils (after t) after_numbered) (after_at t inv) inv invariant.fits.names (omega arith) (omega arith)

  -- a unit clause on a formula's top
  top_fine : (g : ℕ) (f : Formula) → 1 ≤ g → g + size f ≤ variables t inv + 1
      → Placeable (variables t inv) (plain (top g f) ∷ []) × Placeable (variables t inv) (negated (top g f) ∷ [])
  top_fine g f p q =
      let c = top_counts (variables t inv) g f p q in
      (one (variables t inv) (plain (top g f)) c, one (variables t inv) (negated (top g f)) c)

  set_fine : (w : Which) → All (Placeable (variables t inv)) (clause_set t inv w)
  unfolding clause_set
  set_fine start =
      let s = size_pos inv in
      appended (variables t inv) (start_units t.starts 0 t.coils) _ (starts (variables t inv) t.starts 0 t.coils (omega arith))
      (appended (variables t inv) (invariant_before t inv) _ before_fine ((top_fine (before_at t) inv (omega arith) (omega arith)).1, tt))
  set_fine keep =
      let s = size_pos inv in
      appended (variables t inv) (ladder t) _ ladder_fine
      (appended (variables t inv) (invariant_before t inv) _ before_fine (
        (top_fine (before_at t) inv (omega arith) (omega arith)).0,
        appended (variables t inv) (invariant_after t inv) _ after_fine ((top_fine (after_at t inv) inv (omega arith) (omega arith)).1, tt),
      ))
  set_fine safe =
      let s = size_pos inv in
      appended (variables t inv) (ladder t) _ ladder_fine
      (appended (variables t inv) (condition t) _ condition_fine
      (appended (variables t inv) (invariant_before t inv) _ before_fine
      ((top_fine (before_at t) inv (omega arith) (omega arith)).0, ((top_fine (condition_at t) t.condition (omega arith) (omega arith)).1, tt))))

pub sets_placeable : SetsPlaceable
sets_placeable l t inv sheet invariant w = set_fine l t inv sheet invariant w
