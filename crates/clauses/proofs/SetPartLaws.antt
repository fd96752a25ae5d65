-- The parts of the sets, from a good sheet and an invariant in bytes.
-- Assumes nothing.
use Prim.Native.Nat.{ℕ, ◌+◌, ◌≤◌, ◌<◌}
use mathlib.Core.Path.{◌≡◌, refl, sym, ap, ◌∙◌, subst}
use mathlib.Core.Bool.{Bool, true, false}
use mathlib.Core.List.{List}
use native.Mathlib.Omega.{arith}
use lib.ListN.{length, get_or, drop, get_or-eq_default}
use lib.Dec.{ltb}
use borrow.Author.Tests.{ltb-true, ltb-false}
use Rattle.base.specs.Lists.{each}
use Rattle.rules.specs.declared.Limits.{Limits}
use Rattle.rules.specs.Formula.{Formula, size}
use Rattle.rules.specs.Sheet.{Sheet}
use Rattle.rules.specs.ReadSheet.{sheet_bounds}
use Rattle.rules.specs.WriteSheet.{write_start, write_rung, sizes}
use Rattle.rules.specs.Certificate.{invariant_bounds}
use Rattle.rules.specs.Clauses.{Vars, before as before_vars, after as after_vars, rungs_at, condition_at, before_at, ladder, condition, defining, rung_clauses, after_rungs}
use Rattle.clauses.specs.declared.Layout.{Layout}
use Rattle.clauses.specs.declared.Wrote.{Wrote}
use Rattle.clauses.specs.Stack.{vars_of}
use Rattle.clauses.specs.Formed.{Formed, Written}
use Rattle.clauses.specs.Runged.{Runged, Closed, RungsWritten}
use Rattle.clauses.specs.Started.{Started}
use Rattle.clauses.specs.Sets.{Numbered, Held}
use Rattle.clauses.proofs.AgreeLaws.{Agree, same_defining, same_rung_clauses, agree_after}
use Rattle.clauses.proofs.SheetLaws.{after_condition, after_rung_bytes, after_starts, head_there, starts_there, starts_end, rungs_there, condition_there}

pub small_numbered : (map : List ℕ) → Numbered map → (j : ℕ) → get_or map j 0 < 32768
small_numbered map q j = go (ltb j (length map)) refl
  where
    go : (b : Bool) → ltb j (length map) ≡ b → get_or map j 0 < 32768
    go true e = let h : j < length map = ltb-true j (length map) e in rw (q.at j h) (omega (arith, q.few))
    go false e = let h : length map ≤ j = ltb-false j (length map) e in rw (get_or-eq_default map 0 h) (omega arith)

module _ (l : Limits) (s c : List ℕ) (h : Layout) (before after stack : List ℕ) (t : Sheet) (inv : Formula) (rest : List ℕ)
    (v : Held l s c h before after stack t inv rest) where
  pub agree_numbered : (map : List ℕ) → Numbered map → l.coils ≤ length map → Agree t.coils (vars_of map (h.coils + 1)) (before_vars t)
  agree_numbered map q w = record {
    inputs = λ j. let e : h.coils ≡ t.coils = v.coils_are in omega arith;
    coils = λ k m. q.at k (omega (arith, v.within.coils_fit));
  }

  pub started : Started s h.coils t.starts (after_starts t)
  started = record {
    headed = head_there s t v.sheet_bytes;
    bytes = starts_there s t v.sheet_bytes;
    ends = starts_end s t v.sheet_bytes;
    rises = v.within.starts_rise;
    few = omega (arith, v.coils_are, v.within.coils_fit, v.narrow);
  }

  pub runged : Numbered after → (n : ℕ) → n < 9000000000000000000
      → Runged s h.at h.rungs after (h.coils + 1) (h.coils + 1 + h.inputs) stack n (sheet_bounds l t) t.rungs (after_rung_bytes t)
  runged q n m = record {
    bytes = rw v.rungs_at (rungs_there s t v.sheet_bytes);
    counted = sym v.rungs_are;
    fits = v.within.rungs_within;
    named = v.within.coils_named;
    mapped = record {
      inputs_fit = omega (arith, v.coils_are, v.within.coils_fit, v.within.inputs_fit, v.narrow);
      coils_fit = omega (arith, v.within.coils_fit, v.after_wide);
      deep = v.deep;
      small = small_numbered after q;
    };
    numbered = omega (arith, v.coils_are, v.inputs_are, v.within.coils_fit, v.within.inputs_fit, v.within.records_fit, v.narrow);
    few = omega (arith, v.within.records_fit, v.narrow);
  }

  first_is : h.coils + 1 + h.inputs ≡ rungs_at t
  first_is = omega (arith, v.coils_are, v.inputs_are)

  -- the rungs' clauses were written
  module _ (q : Numbered after) (n : ℕ) (few : n < 9000000000000000000) (out after' out₁ : List ℕ) (r : Wrote)
      (x : RungsWritten s h.at h.rungs after (h.coils + 1) (h.coils + 1 + h.inputs) stack out n after' out₁ r) where
    closed : Closed h.at after (h.coils + 1) (h.coils + 1 + h.inputs) n t.rungs out after' out₁ r
    closed = x.of (sheet_bounds l t) t.rungs (after_rung_bytes t) (runged q n few)

    same_ladder : rung_clauses (vars_of after (h.coils + 1)) (h.coils + 1 + h.inputs) t.rungs ≡ ladder t
    same_ladder =
        same_rung_clauses (sheet_bounds l t) (vars_of after (h.coils + 1)) (before_vars t) (agree_numbered after q v.after_wide) (h.coils + 1 + h.inputs) t.rungs v.within.rungs_within
        ∙ ap (λ (g : ℕ). rung_clauses (before_vars t) g t.rungs) first_is

    pub ladder_written : Written h.at (h.coils + 1 + h.inputs) n (length (each write_rung t.rungs)) (sizes t.rungs) (ladder t) out out₁ r
    ladder_written = rw same_ladder at closed.written

    pub condition_first : r.g ≡ condition_at t
    condition_first = omega (arith, ladder_written.g_is, first_is)

    pub agree_ladder : Agree t.coils (vars_of after' (h.coils + 1)) (after_vars t)
    agree_ladder =
        let a = agree_after t.coils (vars_of after (h.coils + 1)) (before_vars t) (agree_numbered after q v.after_wide) (h.coils + 1 + h.inputs) t.rungs in
        let b : Agree t.coils (vars_of after' (h.coils + 1)) (after_rungs (before_vars t) (h.coils + 1 + h.inputs) t.rungs) =
        subst (λ (us : Vars). Agree t.coils us (after_rungs (before_vars t) (h.coils + 1 + h.inputs) t.rungs)) (sym closed.after) a in
        subst (λ (g : ℕ). Agree t.coils (vars_of after' (h.coils + 1)) (after_rungs (before_vars t) g t.rungs)) first_is b

    pub after_small : (j : ℕ) → get_or after' j 0 < 32768
    after_small = closed.small

    pub condition_formed : (stack' : List ℕ) → length stack' ≡ length stack → length after' ≡ length after → (m : ℕ) → m < 9000000000000000000
        → Formed s r.at after' (h.coils + 1) r.g stack' m (sheet_bounds l t) t.condition after_condition
    condition_formed stack' e f m k = record {
      bytes =
          let a : r.at ≡ 7 + length (each write_start t.starts) + length (each write_rung t.rungs) = omega (arith, ladder_written.at_is, v.rungs_at) in
          ap (λ (p : ℕ). drop p s) a ∙ condition_there s t v.sheet_bytes;
      closes = refl;
      fits = v.within.condition_within;
      mapped = record {
        inputs_fit = omega (arith, v.coils_are, v.within.coils_fit, v.within.inputs_fit, v.narrow);
        coils_fit = omega (arith, v.within.coils_fit, v.after_wide);
        deep = omega (arith, v.deep);
        small = after_small;
      };
      numbered = omega (arith, condition_first, v.within.coils_fit, v.within.inputs_fit, v.within.records_fit, v.narrow);
      few = omega (arith, v.within.records_fit, v.narrow);
    }

    pub condition_is : defining (vars_of after' (h.coils + 1)) r.g t.condition ≡ condition t
    condition_is =
        same_defining (sheet_bounds l t) (vars_of after' (h.coils + 1)) (after_vars t) agree_ladder r.g t.condition v.within.condition_within.names
        ∙ ap (λ (g : ℕ). defining (after_vars t) g t.condition) condition_first

  -- the invariant, over coils before or after
  pub invariant_formed : (map stack' : List ℕ) → ((j : ℕ) → get_or map j 0 < 32768) → l.coils ≤ length map → length stack' ≡ length stack
      → (g n : ℕ) → g + size inv ≤ 32768 → n < 9000000000000000000
      → Formed c 1 map (h.coils + 1) g stack' n (invariant_bounds l t) inv rest
  invariant_formed map stack' k w e g n m few = record {
    bytes = v.invariant_bytes;
    closes = v.closes;
    fits = v.invariant_within.fits;
    mapped = record {
      inputs_fit = omega (arith, v.coils_are, v.within.coils_fit, v.narrow);
      coils_fit = omega (arith, v.within.coils_fit);
      deep = omega (arith, v.deep);
      small = k;
    };
    numbered = m;
    few = omega (arith, v.invariant_within.records_fit, v.narrow);
  }

  pub invariant_is : (map : List ℕ) (vs : Vars) → Agree t.coils (vars_of map (h.coils + 1)) vs → (g k : ℕ) → g ≡ k
      → defining (vars_of map (h.coils + 1)) g inv ≡ defining vs k inv
  invariant_is map vs a g k e =
      same_defining (invariant_bounds l t) (vars_of map (h.coils + 1)) vs a g inv v.invariant_within.fits.names ∙ ap (λ (z : ℕ). defining vs z inv) e

  pub before_room : before_at t + size inv + size inv ≤ 32768
  before_room = omega (arith, v.within.coils_fit, v.within.inputs_fit, v.within.records_fit, v.invariant_within.records_fit, v.narrow)
