-- A set on lent places: only how many places there are matters.
-- Assumes nothing.
use Prim.Native.Nat.{ℕ}
use mathlib.Core.Path.{◌≡◌, refl, sym, ap, ◌∙◌, subst}
use mathlib.Core.List.{List}
use native.Mathlib.Omega.{arith}
use lib.ListN.{length}
use Rattle.rules.specs.declared.Limits.{Limits}
use Rattle.rules.specs.Formula.{Formula}
use Rattle.rules.specs.Sheet.{Sheet}
use Rattle.rules.specs.Certificate.{Which}
use Rattle.rules.specs.declared.Set.{Set}
use Rattle.rules.specs.declared.Set.TheVariants.{Start, Keep, Safe}
use Rattle.rules.specs.declared.refusals.Fault.{Fault}
use Rattle.rules.specs.Verdict.{which_of, number_of_set, NamesSet}
use Rattle.base.specs.Pick.{pick}
use lib.Dec.{eqb}
use Rattle.std.specs.Prelude.{Result, Ok, Err}
use Rattle.std.specs.Result.{result_unwrap_or}
use Rattle.clauses.specs.declared.Layout.{Layout}
use Rattle.clauses.specs.Sets.{Given, Held, SetThere, ClauseSetAt, SetWritten, ClauseSetWritten, SetOfNumber}

module _ (s c : List ℕ) (h : Layout) (before after stack before' after' : List ℕ) (b : length before' ≡ length before) (a : length after' ≡ length after) where
  over : (l : Limits) (t : Sheet) (inv : Formula) (rest : List ℕ) → Held l s c h before after stack t inv rest → Held l s c h before' after' stack t inv rest
  over l t inv rest v = record {
    sheet_bytes = v.sheet_bytes;
    inputs_are = v.inputs_are;
    coils_are = v.coils_are;
    rungs_are = v.rungs_are;
    rungs_at = v.rungs_at;
    within = v.within;
    invariant_bytes = v.invariant_bytes;
    closes = v.closes;
    invariant_within = v.invariant_within;
    narrow = v.narrow;
    deep = v.deep;
    before_wide = omega (arith, v.before_wide);
    after_wide = omega (arith, v.after_wide);
  }

  pub numbered_at : ClauseSetAt s c h before after stack → ClauseSetAt s c h before' after' stack
  numbered_at q = record {
    limits = q.limits;
    sheet = q.sheet;
    invariant = q.invariant;
    rest = q.rest;
    given = over q.limits q.sheet q.invariant q.rest q.given;
    before_narrow = omega (arith, q.before_narrow);
    after_narrow = omega (arith, q.after_narrow);
  }

  pub numbered_written : (w : Which) (out out' : List ℕ) (r : ℕ) → ClauseSetWritten w s c h before' after' stack out out' r
      → ClauseSetWritten w s c h before after stack out out' r
  numbered_written w out out' r d = record { of = λ l t inv rest v. d.of l t inv rest (over l t inv rest v) }

module _ (s c : List ℕ) (h : Layout) (before after stack : List ℕ) (b : length before ≡ 256) (a : length after ≡ 256) (d : length stack ≡ 32) where
  held : (l : Limits) (t : Sheet) (inv : Formula) (rest : List ℕ) → Given l s c h t inv rest → Held l s c h before after stack t inv rest
  held l t inv rest v = record {
    sheet_bytes = v.sheet_bytes;
    inputs_are = v.inputs_are;
    coils_are = v.coils_are;
    rungs_are = v.rungs_are;
    rungs_at = v.rungs_at;
    within = v.within;
    invariant_bytes = v.invariant_bytes;
    closes = v.closes;
    invariant_within = v.invariant_within;
    narrow = v.slight.narrow;
    deep = omega (arith, v.slight.depth_fits);
    before_wide = omega (arith, v.slight.coils_fit);
    after_wide = omega (arith, v.slight.coils_fit);
  }

  pub own_at : SetThere s c h → ClauseSetAt s c h before after stack
  own_at q = record {
    limits = q.limits;
    sheet = q.sheet;
    invariant = q.invariant;
    rest = q.rest;
    given = held q.limits q.sheet q.invariant q.rest q.given;
    before_narrow = omega arith;
    after_narrow = omega arith;
  }

  pub own_written : (w : Which) (out out' : List ℕ) (r : ℕ) → ClauseSetWritten w s c h before after stack out out' r → SetWritten w s c h out out' r
  own_written w out out' r x = record { of = λ l t inv rest v. x.of l t inv rest (held l t inv rest v) }

-- a number names one set
set_of : ℕ → Set
set_of n = pick (eqb n 1) Start (pick (eqb n 2) Keep Safe)

back : (w : Set) → set_of (number_of_set w) ≡ w
unfolding set_of
back Start = refl
back Keep = refl
back Safe = refl

named : (n : ℕ) (r : Result Set Fault) → NamesSet n r → (d w : Set) → n ≡ number_of_set w → result_unwrap_or r d ≡ w
named n (Ok v) e d w k = sym (back v) ∙ ap set_of (sym e ∙ k) ∙ back w
named n (Err f) e d w k = absurd (e.1 w k)

pub by_number : (n k : ℕ) (r : Result Set Fault) (d v : Set) → k ≡ n → NamesSet k r → v ≡ result_unwrap_or r d → (s c : List ℕ) (h : Layout) (before after stack out out' : List ℕ) (m : ℕ)
    → ClauseSetWritten (which_of v) s c h before after stack out out' m → SetOfNumber n s c h before after stack out out' m
by_number n k r d v q e u s c h before after stack out out' m x = record {
  of = λ w i. subst (λ z. ClauseSetWritten (which_of z) s c h before after stack out out' m) (u ∙ named k r e d w (q ∙ i)) x;
}
