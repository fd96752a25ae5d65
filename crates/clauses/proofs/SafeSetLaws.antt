-- Set 3, by the calls of the code.
-- Assumes nothing.
use Prim.Native.Nat.{ℕ, ◌+◌, ◌-◌, ◌≤◌, ◌<◌}
use mathlib.Core.Path.{◌≡◌, ap, ap₂, subst, ◌∙◌}
use mathlib.Core.Bool.{true, false}
use mathlib.Core.List.{List, ◌++◌, append_assoc}
use native.Mathlib.Omega.{arith}
use lib.ListN.{length, length-append}
use Rattle.base.specs.Lists.{each}
use Rattle.rules.specs.declared.Limits.{Limits}
use Rattle.rules.specs.Formula.{Formula, size}
use Rattle.rules.specs.Sheet.{Sheet}
use Rattle.rules.specs.ReadSheet.{sheet_bounds}
use Rattle.rules.specs.WriteSheet.{write_formula, write_rung, sizes}
use Rattle.rules.specs.Certificate.{Which.safe, invariant_bounds}
use Rattle.rules.specs.Clauses.{Clause, before as before_vars, after as after_vars, top, rungs_at, before_at, condition_at, ladder, condition, invariant_before, defining, clause_set}
use Rattle.clauses.specs.declared.Layout.{Layout}
use Rattle.clauses.specs.declared.Wrote.{Wrote}
use Rattle.clauses.specs.Emits.{signed, Emitted, Small}
use Rattle.clauses.specs.Stack.{vars_of}
use Rattle.clauses.specs.Formed.{Formed, FormulaAt, Written, FormulaWritten, TopWritten}
use Rattle.clauses.specs.Runged.{RungsWritten}
use Rattle.clauses.specs.Sets.{Held, ClauseSetAt, Fresh, ClauseSetWritten}
use Rattle.clauses.proofs.FlatLaws.{few_clauses}
use Rattle.clauses.proofs.SheetLaws.{after_condition}
use Rattle.clauses.proofs.SetPartLaws.{small_numbered, agree_numbered, ladder_written, condition_first, condition_formed, condition_is, invariant_formed, invariant_is, before_room}
use Rattle.clauses.proofs.SetLaws.{few_rungs, next, emitted}

module _ (s c : List ℕ) (h : Layout) (before after stack : List ℕ) (p : ClauseSetAt s c h before after stack) (lent : Fresh before after)
    (out after₁ out₁ : List ℕ) (r : Wrote)
    (x : RungsWritten s h.at h.rungs after (h.coils + 1) (h.coils + 1 + h.inputs) stack out 0 after₁ out₁ r)
    (stack₁ : List ℕ) (ls : length stack₁ ≡ length stack) (la : length after₁ ≡ length after) where
  -- of any sheet that stands there
  module _ (l : Limits) (t : Sheet) (inv : Formula) (rest : List ℕ) (v : Held l s c h before after stack t inv rest) where
    written : Written h.at (h.coils + 1 + h.inputs) 0 (length (each write_rung t.rungs)) (sizes t.rungs) (ladder t) out out₁ r
    written = ladder_written l s c h before after stack t inv rest v lent.after_numbered 0 (omega arith) out after₁ out₁ r x

    few : r.n ≤ 98304
    few = omega (arith, written.n_is, few_rungs (before_vars t) (rungs_at t) t.rungs, v.within.records_fit, v.narrow)

    first : r.g ≡ condition_at t
    first = condition_first l s c h before after stack t inv rest v lent.after_numbered 0 (omega arith) out after₁ out₁ r x

    formed₁ : Formed s r.at after₁ (h.coils + 1) r.g stack₁ r.n (sheet_bounds l t) t.condition after_condition
    formed₁ =
        condition_formed l s c h before after stack t inv rest v lent.after_numbered 0 (omega arith) out after₁ out₁ r x stack₁ ls la r.n
        (omega (arith, few))

  pub safe_condition : FormulaAt s r.at after₁ (h.coils + 1) r.g stack₁ r.n
  safe_condition = record {
    bounds = sheet_bounds p.limits p.sheet;
    formula = p.sheet.condition;
    rest = after_condition;
    formed = formed₁ p.limits p.sheet p.invariant p.rest p.given;
  }

  module _ (out₂ : List ℕ) (q : Wrote) (y : FormulaWritten s r.at after₁ (h.coils + 1) r.g stack₁ out₁ r.n out₂ q) (stack₂ : List ℕ) (lt : length stack₂ ≡ length stack₁) where
    module _ (l : Limits) (t : Sheet) (inv : Formula) (rest : List ℕ) (v : Held l s c h before after stack t inv rest) where
      written₁ : Written r.at r.g r.n (length (write_formula t.condition)) (size t.condition) (condition t) out₁ out₂ q
      written₁ =
          rw (condition_is l s c h before after stack t inv rest v lent.after_numbered 0 (omega arith) out after₁ out₁ r x) at
          (y.of (sheet_bounds l t) t.condition after_condition (formed₁ l t inv rest v))

      q_is : q.g ≡ before_at t
      q_is = omega (arith, written₁.g_is, first l t inv rest v)

      few₁ : q.n ≤ 196608
      few₁ =
          omega (arith, written₁.n_is, few l t inv rest v, few_clauses (after_vars t) (condition_at t) t.condition, v.within.records_fit, v.narrow)

      room : before_at t + size inv + size inv ≤ 32768
      room = before_room l s c h before after stack t inv rest v

      formed₂ : Formed c 1 before (h.coils + 1) q.g stack₂ q.n (invariant_bounds l t) inv rest
      formed₂ =
          invariant_formed l s c h before after stack t inv rest v before stack₂ (small_numbered before lent.before_numbered) v.before_wide (lt ∙ ls) q.g q.n
          (omega (arith, q_is, room))
          (omega (arith, few₁))

      cs : List Clause
      cs = invariant_before t inv ++ signed true (top (before_at t) inv)

      same_before : defining (vars_of before (h.coils + 1)) q.g inv ++ signed true (top q.g inv) ≡ cs
      unfolding cs
      same_before =
          ap₂ (λ (x : List Clause) (y : ℕ). x ++ signed true (top y inv))
          (invariant_is l s c h before after stack t inv rest v before (before_vars t) (agree_numbered l s c h before after stack t inv rest v before lent.before_numbered v.before_wide) q.g (before_at t) q_is)
          q_is

    pub safe_before : FormulaAt c 1 before (h.coils + 1) q.g stack₂ q.n
    safe_before = record {
      bounds = invariant_bounds p.limits p.sheet;
      formula = p.invariant;
      rest = p.rest;
      formed = formed₂ p.limits p.sheet p.invariant p.rest p.given;
    }

    pub safe_top : 1 ≤ q.g
    safe_top = omega (arith, q_is p.limits p.sheet p.invariant p.rest p.given)

    module _ (out₃ : List ℕ) (w : Wrote) (i : TopWritten true c 1 before (h.coils + 1) q.g stack₂ out₂ q.n out₃ w) where
      written₂ : (l : Limits) (t : Sheet) (inv : Formula) (rest : List ℕ) (v : Held l s c h before after stack t inv rest)
          → Written 1 q.g q.n (length (write_formula inv)) (size inv) (cs l t inv rest v) out₂ out₃ w
      written₂ l t inv rest v = rw (same_before l t inv rest v) at (i.of (invariant_bounds l t) inv rest (formed₂ l t inv rest v))

      pub safe_small : Small w.n (q.g - 1) (q.g - 1) (q.g - 1)
      unfolding cs
      safe_small =
          let l = p.limits in
          let t = p.sheet in
          let inv = p.invariant in
          let d = simp length-append at (written₂ l t inv p.rest p.given).n_is in
          let k : q.g - 1 < 32768 = omega (arith, q_is l t inv p.rest p.given, room l t inv p.rest p.given) in
          record {
            few = omega (arith, few₁ l t inv p.rest p.given, few_clauses (before_vars t) (before_at t) inv, room l t inv p.rest p.given);
            g_fits = k;
            x_fits = k;
            y_fits = k;
          }

      pub safe_written : (out₄ : List ℕ) (m : ℕ) → Emitted out₃ w.n (signed false (q.g - 1)) out₄ m → ClauseSetWritten safe s c h before after stack out out₄ m
      unfolding clause_set cs
      safe_written out₄ m d = record { of = λ l t inv rest v. done l t inv rest v }
        where
          done : (l : Limits) (t : Sheet) (inv : Formula) (rest : List ℕ) → Held l s c h before after stack t inv rest
              → Emitted out 0 (clause_set t inv safe) out₄ m
          done l t inv rest v =
              let k : q.g - 1 ≡ top (condition_at t) t.condition = ap (λ (z : ℕ). z - 1) (q_is l t inv rest v) in
              let ds : List Clause = signed false (top (condition_at t) t.condition) in
              let e : Emitted out₃ w.n ds out₄ m = rw k at d in
              let b = next (condition t) (cs l t inv rest v ++ ds) (emitted (written₁ l t inv rest v))
              (next (cs l t inv rest v) ds (emitted (written₂ l t inv rest v)) e) in
              subst (λ (z : List Clause). Emitted out 0 (ladder t ++ (condition t ++ z)) out₄ m)
              (append_assoc (invariant_before t inv) (signed true (top (before_at t) inv)) ds)
              (next (ladder t) (condition t ++ (cs l t inv rest v ++ ds)) (emitted (written l t inv rest v)) b)
