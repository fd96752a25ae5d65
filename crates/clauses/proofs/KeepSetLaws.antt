-- Set 2, by the calls of the code.
-- Assumes nothing.
use Prim.Native.Nat.{ℕ, ◌+◌, ◌/◌, ◌≤◌, ◌<◌}
use mathlib.Core.Path.{◌≡◌, ap₂, subst, ◌∙◌}
use mathlib.Core.Bool.{true, false}
use mathlib.Core.List.{List, ◌++◌, append_assoc}
use native.Mathlib.Omega.{arith}
use lib.ListN.{length, length-append}
use Rattle.base.specs.Lists.{each}
use Rattle.rules.specs.declared.Limits.{Limits}
use Rattle.rules.specs.Formula.{Formula, size}
use Rattle.rules.specs.Sheet.{Sheet}
use Rattle.rules.specs.ReadSheet.{sheet_bounds}
use Rattle.rules.specs.WriteSheet.{write_formula, write_rung, sizes}
use Rattle.rules.specs.Certificate.{Which.keep, invariant_bounds}
use Rattle.rules.specs.Clauses.{Clause, before as before_vars, after as after_vars, top, rungs_at, before_at, after_at, ladder, invariant_before, invariant_after, defining, clause_set}
use Rattle.clauses.specs.declared.Layout.{Layout}
use Rattle.clauses.specs.declared.Wrote.{Wrote}
use Rattle.clauses.specs.Emits.{signed, Emitted}
use Rattle.clauses.specs.Stack.{vars_of}
use Rattle.clauses.specs.Formed.{Formed, FormulaAt, Written, TopWritten, FormulaPassed}
use Rattle.clauses.specs.Runged.{RungsWritten}
use Rattle.clauses.specs.Sets.{Held, ClauseSetAt, Fresh, ClauseSetWritten}
use Rattle.clauses.proofs.FlatLaws.{few_clauses}
use Rattle.clauses.proofs.SheetLaws.{after_condition}
use Rattle.clauses.proofs.SetPartLaws.{small_numbered, agree_numbered, ladder_written, condition_first, agree_ladder, after_small, condition_formed, invariant_formed, invariant_is, before_room}
use Rattle.clauses.proofs.SetLaws.{few_rungs, next, emitted, condition_at_lem}

module _ (s c : List ℕ) (h : Layout) (before after stack : List ℕ) (p : ClauseSetAt s c h before after stack) (lent : Fresh before after)
    (out after₁ out₁ : List ℕ) (long : length out < 18446744073709551616) (r : Wrote)
    (x : RungsWritten s h.at h.rungs after (h.coils + 1) (h.coils + 1 + h.inputs) stack out 0 after₁ out₁ r)
    (stack₁ : List ℕ) (ls : length stack₁ ≡ length stack) (la : length after₁ ≡ length after) (lo : length out₁ ≡ length out) where
  pub keep_passes : FormulaAt s r.at after₁ (h.coils + 1) r.g stack₁ (length out₁ / 3)
  keep_passes = condition_at_lem s c h before after stack p lent 0 (omega arith) out after₁ out₁ r x stack₁ ls la (length out₁ / 3) (omega arith)

  module _ (out₂ : List ℕ) (g : ℕ) (y : FormulaPassed s r.at after₁ (h.coils + 1) r.g stack₁ out₁ out₂ g) (stack₂ : List ℕ) (lt : length stack₂ ≡ length stack₁) where
    -- of any sheet that stands there
    module _ (l : Limits) (t : Sheet) (inv : Formula) (rest : List ℕ) (v : Held l s c h before after stack t inv rest) where
      written : Written h.at (h.coils + 1 + h.inputs) 0 (length (each write_rung t.rungs)) (sizes t.rungs) (ladder t) out out₁ r
      written = ladder_written l s c h before after stack t inv rest v lent.after_numbered 0 (omega arith) out after₁ out₁ r x

      g_is : g ≡ before_at t
      g_is =
          let a = y.of (sheet_bounds l t) t.condition after_condition
          (condition_formed l s c h before after stack t inv rest v lent.after_numbered 0 (omega arith) out after₁ out₁ r x stack₁ ls la (length out₁ / 3) (omega arith)) in
          omega (arith, condition_first l s c h before after stack t inv rest v lent.after_numbered 0 (omega arith) out after₁ out₁ r x)

      few : r.n ≤ 98304
      few = omega (arith, written.n_is, few_rungs (before_vars t) (rungs_at t) t.rungs, v.within.records_fit, v.narrow)

      room : before_at t + size inv + size inv ≤ 32768
      room = before_room l s c h before after stack t inv rest v

      formed₁ : Formed c 1 before (h.coils + 1) g stack₂ r.n (invariant_bounds l t) inv rest
      formed₁ =
          invariant_formed l s c h before after stack t inv rest v before stack₂ (small_numbered before lent.before_numbered) v.before_wide (lt ∙ ls) g r.n
          (omega (arith, g_is, room))
          (omega (arith, few))

      cs : List Clause
      cs = invariant_before t inv ++ signed true (top (before_at t) inv)

      same_before : defining (vars_of before (h.coils + 1)) g inv ++ signed true (top g inv) ≡ cs
      unfolding cs
      same_before =
          ap₂ (λ (x : List Clause) (y : ℕ). x ++ signed true (top y inv))
          (invariant_is l s c h before after stack t inv rest v before (before_vars t) (agree_numbered l s c h before after stack t inv rest v before lent.before_numbered v.before_wide) g (before_at t) g_is)
          g_is

    pub keep_before : FormulaAt c 1 before (h.coils + 1) g stack₂ r.n
    keep_before = record {
      bounds = invariant_bounds p.limits p.sheet;
      formula = p.invariant;
      rest = p.rest;
      formed = formed₁ p.limits p.sheet p.invariant p.rest p.given;
    }

    module _ (out₃ : List ℕ) (w : Wrote) (i : TopWritten true c 1 before (h.coils + 1) g stack₂ out₂ r.n out₃ w) (stack₃ : List ℕ) (lu : length stack₃ ≡ length stack₂) where
      module _ (l : Limits) (t : Sheet) (inv : Formula) (rest : List ℕ) (v : Held l s c h before after stack t inv rest) where
        written₁ : Written 1 g r.n (length (write_formula inv)) (size inv) (cs l t inv rest v) out₂ out₃ w
        written₁ = rw (same_before l t inv rest v) at (i.of (invariant_bounds l t) inv rest (formed₁ l t inv rest v))

        w_is : w.g ≡ after_at t inv
        w_is = omega (arith, written₁.g_is, g_is l t inv rest v)

        formed₂ : Formed c 1 after₁ (h.coils + 1) w.g stack₃ w.n (invariant_bounds l t) inv rest
        unfolding cs
        formed₂ =
            let k : l.coils ≤ length after₁ = omega (arith, v.after_wide) in
            let d = simp length-append at written₁.n_is in
            invariant_formed l s c h before after stack t inv rest v after₁ stack₃
            (after_small l s c h before after stack t inv rest v lent.after_numbered 0 (omega arith) out after₁ out₁ r x)
            k
            (lu ∙ lt ∙ ls)
            w.g
            w.n
            (omega (arith, w_is, room l t inv rest v))
            (omega (arith, few l t inv rest v, few_clauses (before_vars t) (before_at t) inv, room l t inv rest v))

        ds : List Clause
        ds = invariant_after t inv ++ signed false (top (after_at t inv) inv)

        same_after : defining (vars_of after₁ (h.coils + 1)) w.g inv ++ signed false (top w.g inv) ≡ ds
        unfolding ds
        same_after =
            ap₂ (λ (x : List Clause) (y : ℕ). x ++ signed false (top y inv))
            (invariant_is l s c h before after stack t inv rest v after₁ (after_vars t) (agree_ladder l s c h before after stack t inv rest v lent.after_numbered 0 (omega arith) out after₁ out₁ r x) w.g (after_at t inv) w_is)
            w_is

      pub keep_after : FormulaAt c 1 after₁ (h.coils + 1) w.g stack₃ w.n
      keep_after = record {
        bounds = invariant_bounds p.limits p.sheet;
        formula = p.invariant;
        rest = p.rest;
        formed = formed₂ p.limits p.sheet p.invariant p.rest p.given;
      }

      pub keep_written : (out₄ : List ℕ) (u : Wrote) → TopWritten false c 1 after₁ (h.coils + 1) w.g stack₃ out₃ w.n out₄ u
          → ClauseSetWritten keep s c h before after stack out out₄ u.n
      unfolding clause_set cs ds
      keep_written out₄ u j = record { of = λ l t inv rest v. done l t inv rest v }
        where
          done : (l : Limits) (t : Sheet) (inv : Formula) (rest : List ℕ) → Held l s c h before after stack t inv rest
              → Emitted out 0 (clause_set t inv keep) out₄ u.n
          done l t inv rest v =
              let d : Written 1 w.g w.n (length (write_formula inv)) (size inv) (ds l t inv rest v) out₃ out₄ u =
              rw (same_after l t inv rest v) at (j.of (invariant_bounds l t) inv rest (formed₂ l t inv rest v)) in
              let e : Emitted out₁ r.n (cs l t inv rest v) out₃ w.n =
              subst (λ (z : List ℕ). Emitted z r.n (cs l t inv rest v) out₃ w.n) y.same (emitted (written₁ l t inv rest v)) in
              let q = next (ladder t) (cs l t inv rest v ++ ds l t inv rest v) (emitted (written l t inv rest v)) (next (cs l t inv rest v) (ds l t inv rest v) e (emitted d)) in
              subst (λ (z : List Clause). Emitted out 0 (ladder t ++ z) out₄ u.n)
              (append_assoc (invariant_before t inv) (signed true (top (before_at t) inv)) (ds l t inv rest v)) q
