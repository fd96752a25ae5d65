-- Where the parts of a good sheet stand in its bytes, and that the lent places are enough for them.
-- Assumes nothing.
use Prim.Native.Nat.{ℕ, ◌+◌, ◌*◌, ◌≤◌, ◌<◌}
use mathlib.Core.Path.{◌≡◌, refl, sym, ap, ◌∙◌}
use mathlib.Core.List.{List, [], ◌∷◌, ◌++◌}
use native.Mathlib.Omega.{arith}
use lib.ListN.{length, drop, length-append}
use Rattle.base.specs.Lists.{All, each}
use Rattle.rules.specs.Kind
use Rattle.rules.specs.declared.Limits.{Limits}
use Rattle.rules.specs.Formula.{Leaf.input, Leaf.coil, Leaf.constant, Formula, Formula.leaf, Formula.inverse, Formula.both, Formula.either}
use Rattle.rules.specs.Sheet.{Start, Rung, Sheet}
use Rattle.rules.specs.ReadFormula.{Bounds}
use Rattle.rules.specs.ReadSheet.{sheet_bounds}
use Rattle.rules.specs.WriteSheet.{write_start, write_rung, write_formula, write_sheet, Names, Fits, WithinSheet}
use Rattle.ladder.specs.Evaluate.{bounds_for}
use Rattle.ladder.specs.Starts.{StartsAt}
use Rattle.ladder.specs.Scan.{Runnable, LadderAt}
use Rattle.ladder.proofs.RungLaws.{drop_front}

pub starts_length : (xs : List Start) → length (each write_start xs) ≡ 4 * length xs
unfolding write_start
starts_length [] = refl
starts_length (x ∷ xs) = let i = starts_length xs in omega (arith, length-append (write_start x) (each write_start xs))

-- what follows the head
abbrev pub tail_of : Sheet → List ℕ
tail_of t = each write_rung t.rungs ++ (write_formula t.condition ++ (Kind.CONDITION ∷ Kind.END ∷ []))

pub past_head : (t : Sheet) → drop 7 (write_sheet t) ≡ each write_start t.starts ++ tail_of t
unfolding write_sheet
past_head t = refl

pub past_starts : (t : Sheet) → drop (7 + 4 * length t.starts) (write_sheet t) ≡ tail_of t
past_starts t = ap (λ (n : ℕ). drop (7 + n) (write_sheet t)) (sym (starts_length t.starts)) ∙ drop_front (write_sheet t) 7 (each write_start t.starts) (tail_of t) (past_head t)

-- a formula within some bounds is within wider ones
pub names_wider : (a b : Bounds) → a.inputs ≤ b.inputs → a.coils ≤ b.coils → (f : Formula) → Names a f → Names b f
unfolding Names
names_wider a b i c (leaf (input n)) h = omega arith
names_wider a b i c (leaf (coil n)) h = omega arith
names_wider a b i c (leaf (constant x)) h = tt
names_wider a b i c (inverse f) h = names_wider a b i c f h
names_wider a b i c (both f g) h = (names_wider a b i c f h.0, names_wider a b i c g h.1)
names_wider a b i c (either f g) h = (names_wider a b i c f h.0, names_wider a b i c g h.1)

pub fits_wider : (a b : Bounds) → a.inputs ≤ b.inputs → a.coils ≤ b.coils → a.depth ≤ b.depth → (f : Formula) → Fits a f → Fits b f
fits_wider a b i c d f h = record { names = names_wider a b i c f h.names; low = let k = h.low in omega arith }

module _ (l : Limits) (t : Sheet) (k : WithinSheet l t) (inputs coils w : List ℕ)
    (ri : l.inputs ≤ length inputs) (rc : l.coils ≤ length coils) (rw' : l.depth ≤ length w) where
  pub wider : (f : Formula) → Fits (sheet_bounds l t) f → Fits (bounds_for inputs coils w) f
  wider f h =
      let a = k.inputs_fit in
      let b = k.coils_fit in
      fits_wider (sheet_bounds l t) (bounds_for inputs coils w) (omega arith) (omega arith) rw' f h

  pub runnables : (rs : List Rung) → All (λ (r : Rung). Fits (sheet_bounds l t) r.formula) rs → All (λ (r : Rung). r.coil < t.coils) rs → All (Runnable (bounds_for inputs coils w)) rs
  runnables [] a b = tt
  runnables (r ∷ rs) a b =
      let n = b.0 in
      let c = k.coils_fit in
      (record { fits = wider r.formula a.0; named = omega arith }, runnables rs a.1 b.1)

  module _ (s : List ℕ) (e : write_sheet t ≡ s) where
    unfoldable pub ladder_at : (p n : ℕ) → p ≡ 7 + 4 * length t.starts → n ≡ length t.rungs → LadderAt s p n (bounds_for inputs coils w)
    ladder_at p n ep en = record {
      sheet = t;
      rest = Kind.CONDITION ∷ Kind.END ∷ [];
      bytes = rw (ep, ← e) (past_starts t);
      closes = refl;
      count = sym en;
      runnable = runnables t.rungs k.rungs_within k.coils_named;
      fits = wider t.condition k.condition_within;
    }

    pub nameds : (xs : List Start) → All (λ (x : Start). x.coil < t.coils) xs → All (λ (x : Start). x.coil < length coils) xs
    nameds [] a = tt
    nameds (x ∷ xs) a = let n = a.0 in let c = k.coils_fit in (omega arith, nameds xs a.1)

    unfoldable pub starts_at : (n : ℕ) → n ≡ length t.starts → StartsAt s 7 n (length coils)
    starts_at n en = record {
      starts = t.starts;
      rest = tail_of t;
      bytes = rw (← e) (past_head t);
      count = sym en;
      named = nameds t.starts k.starts_named;
    }

    pub starts_named_here : All (λ (x : Start). x.coil < length coils) t.starts
    starts_named_here = nameds t.starts k.starts_named
