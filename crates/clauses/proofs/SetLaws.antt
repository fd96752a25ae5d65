-- The three sets, by the calls of the code.
-- Assumes nothing.
use Prim.Native.Nat.{ℕ, zero, suc, ◌+◌, ◌*◌, ◌/◌, ◌≤◌, ◌<◌}
use mathlib.Core.Path.{◌≡◌, refl, sym, ap, ap₂, ◌∙◌, subst}
use mathlib.Core.Bool.{false}
use mathlib.Core.List.{List, [], ◌∷◌, ◌++◌}
use native.Mathlib.Omega.{arith}
use lib.ListN.{length, length-append}
use Rattle.rules.specs.declared.Limits.{Limits}
use Rattle.rules.specs.Formula.{Formula, size}
use Rattle.rules.specs.Sheet.{Start, Rung, Sheet}
use Rattle.rules.specs.ReadSheet.{sheet_bounds}
use Rattle.rules.specs.WriteSheet.{write_formula, sizes}
use Rattle.rules.specs.Certificate.{Which.start, invariant_bounds}
use Rattle.rules.specs.Clauses.{Vars, Clause, before as before_vars, top, before_at, ladder, invariant_before, defining, closing, rung_clauses, start_units, clause_set}
use Rattle.clauses.specs.declared.Layout.{Layout}
use Rattle.clauses.specs.declared.Wrote.{Wrote}
use Rattle.clauses.specs.Emits.{emits, signed, Emitted}
use Rattle.clauses.specs.Stack.{vars_of}
use Rattle.clauses.specs.Formed.{Formed, FormulaAt, Written, TopWritten, FormulaPassed}
use Rattle.clauses.specs.Runged.{RungsAt, RungsWritten}
use Rattle.clauses.specs.Started.{StartsAt, StartsWritten}
use Rattle.clauses.specs.Sets.{Held, ClauseSetAt, Fresh, ClauseSetWritten}
use Rattle.clauses.proofs.EmitLaws.{emits_append, emits_none}
use Rattle.clauses.proofs.FlatLaws.{few_clauses}
use Rattle.clauses.proofs.SheetLaws.{after_condition, after_rung_bytes, after_starts}
use Rattle.clauses.proofs.SetPartLaws.{small_numbered, agree_numbered, started, runged, ladder_written, condition_first, condition_formed, invariant_formed, invariant_is, before_room}

pub units_length : (ss : List Start) (c n : ℕ) → length (start_units ss c n) ≡ n
unfolding start_units
units_length ss c zero = refl
units_length ss c (suc n) = ap suc (units_length ss (suc c) n)

pub few_rungs : (vs : Vars) (g : ℕ) (rs : List Rung) → length (rung_clauses vs g rs) ≤ 3 * sizes rs
unfolding rung_clauses sizes
few_rungs vs g [] = omega arith
few_rungs vs g (r ∷ rs) =
    rw length-append (omega (arith, few_clauses vs g r.formula, few_rungs (closing vs g r) (g + size r.formula) rs))

-- clauses, then more
pub next : {w w₁ w₂ : List ℕ} {n m k : ℕ} (cs ds : List Clause) → Emitted w n cs w₁ m → Emitted w₁ m ds w₂ k → Emitted w n (cs ++ ds) w₂ k
next {w} {w₁} {w₂} {n} {m} {k} cs ds a b = record {
  wrote = b.wrote ∙ (λ i. emits (a.wrote i) (a.counted i) ds) ∙ sym (emits_append w n cs ds);
  counted = rw length-append (omega (arith, a.counted, b.counted));
}

pub emitted : {at g n bytes records : ℕ} {cs : List Clause} {out out' : List ℕ} {r : Wrote} → Written at g n bytes records cs out out' r → Emitted out n cs out' r.n
emitted d = record { wrote = d.out_is; counted = d.n_is }

module _ (s c : List ℕ) (h : Layout) (before after stack : List ℕ) (p : ClauseSetAt s c h before after stack) (lent : Fresh before after) where
  rungs_at : (n : ℕ) → n < 9000000000000000000 → RungsAt s h.at h.rungs after (h.coils + 1) (h.coils + 1 + h.inputs) stack n
  rungs_at n m = record {
    bounds = sheet_bounds p.limits p.sheet;
    rungs_are = p.sheet.rungs;
    rest = after_rung_bytes p.sheet;
    runged = runged p.limits s c h before after stack p.sheet p.invariant p.rest p.given lent.after_numbered n m;
  }

  pub start_rungs : (out : List ℕ) → length out < 18446744073709551616
      → RungsAt s h.at h.rungs after (h.coils + 1) (h.coils + 1 + h.inputs) stack (length out / 3)
  start_rungs out m = rungs_at (length out / 3) (omega arith)

  pub set_rungs : RungsAt s h.at h.rungs after (h.coils + 1) (h.coils + 1 + h.inputs) stack 0
  set_rungs = rungs_at 0 (omega arith)

  pub set_starts : StartsAt s h.coils
  set_starts = record {
    starts = p.sheet.starts;
    rest = after_starts p.sheet;
    started = started p.limits s c h before after stack p.sheet p.invariant p.rest p.given;
  }

  -- after the rungs
  module _ (n : ℕ) (few : n < 9000000000000000000) (out after₁ out₁ : List ℕ) (r : Wrote)
      (x : RungsWritten s h.at h.rungs after (h.coils + 1) (h.coils + 1 + h.inputs) stack out n after₁ out₁ r) where
    pub condition_at_lem : (stack₁ : List ℕ) → length stack₁ ≡ length stack → length after₁ ≡ length after → (m : ℕ) → m < 9000000000000000000
        → FormulaAt s r.at after₁ (h.coils + 1) r.g stack₁ m
    condition_at_lem stack₁ e f m k = record {
      bounds = sheet_bounds p.limits p.sheet;
      formula = p.sheet.condition;
      rest = after_condition;
      formed =
          condition_formed p.limits s c h before after stack p.sheet p.invariant p.rest p.given lent.after_numbered n few out after₁ out₁ r x stack₁ e f m k;
    }

  -- set 1
  module _ (out after₁ out₁ : List ℕ) (long : length out < 18446744073709551616) (r : Wrote)
      (x : RungsWritten s h.at h.rungs after (h.coils + 1) (h.coils + 1 + h.inputs) stack out (length out / 3) after₁ out₁ r)
      (stack₁ : List ℕ) (ls : length stack₁ ≡ length stack) (la : length after₁ ≡ length after) (lo : length out₁ ≡ length out) where
    start_few : length out / 3 < 9000000000000000000
    start_few = omega arith

    pub start_passes : FormulaAt s r.at after₁ (h.coils + 1) r.g stack₁ (length out₁ / 3)
    start_passes = condition_at_lem (length out / 3) start_few out after₁ out₁ r x stack₁ ls la (length out₁ / 3) (omega arith)

    module _ (out₂ : List ℕ) (g : ℕ) (y : FormulaPassed s r.at after₁ (h.coils + 1) r.g stack₁ out₁ out₂ g) (stack₂ : List ℕ) (lt : length stack₂ ≡ length stack₁)
        (out₃ : List ℕ) (n : ℕ) (z : StartsWritten s h.coils out₂ out₃ n) where
      -- of any sheet that stands there
      module _ (l : Limits) (t : Sheet) (inv : Formula) (rest : List ℕ) (v : Held l s c h before after stack t inv rest) where
        g_is : g ≡ before_at t
        g_is =
            let a = y.of (sheet_bounds l t) t.condition after_condition
            (condition_formed l s c h before after stack t inv rest v lent.after_numbered (length out / 3) start_few out after₁ out₁ r x stack₁ ls la (length out₁ / 3) (omega arith)) in
            omega (arith, condition_first l s c h before after stack t inv rest v lent.after_numbered (length out / 3) start_few out after₁ out₁ r x)

        units : Emitted out₂ 0 (start_units t.starts 0 h.coils) out₃ n
        units = z.of t.starts (after_starts t) (started l s c h before after stack t inv rest v)

        n_is : n ≡ h.coils
        n_is = omega (arith, units.counted, units_length t.starts 0 h.coils)

        out_is : out₂ ≡ out
        out_is =
            y.same
            ∙ (ladder_written l s c h before after stack t inv rest v lent.after_numbered (length out / 3) start_few out after₁ out₁ r x).out_is
            ∙ emits_none out (length out / 3) (ladder t) (omega arith)

        formed₁ : Formed c 1 before (h.coils + 1) g stack₂ n (invariant_bounds l t) inv rest
        formed₁ =
            invariant_formed l s c h before after stack t inv rest v before stack₂ (small_numbered before lent.before_numbered) v.before_wide (lt ∙ ls) g n
            (omega (arith, g_is, before_room l s c h before after stack t inv rest v))
            (omega (arith, n_is, v.coils_are, v.within.coils_fit, v.narrow))

      pub start_invariant : FormulaAt c 1 before (h.coils + 1) g stack₂ n
      start_invariant = record {
        bounds = invariant_bounds p.limits p.sheet;
        formula = p.invariant;
        rest = p.rest;
        formed = formed₁ p.limits p.sheet p.invariant p.rest p.given;
      }

      pub start_written : (out₄ : List ℕ) (w : Wrote) → TopWritten false c 1 before (h.coils + 1) g stack₂ out₃ n out₄ w
          → ClauseSetWritten start s c h before after stack out out₄ w.n
      unfolding clause_set
      start_written out₄ w i = record { of = λ l t inv rest v. done l t inv rest v }
        where
          done : (l : Limits) (t : Sheet) (inv : Formula) (rest : List ℕ) → Held l s c h before after stack t inv rest
              → Emitted out 0 (clause_set t inv start) out₄ w.n
          done l t inv rest v =
              let e = i.of (invariant_bounds l t) inv rest (formed₁ l t inv rest v) in
              let us : List Clause = start_units t.starts 0 t.coils in
              let cs : List Clause = invariant_before t inv ++ signed false (top (before_at t) inv) in
              let k : h.coils ≡ t.coils = v.coils_are in
              let u : Emitted out₂ 0 us out₃ n = rw k at (units l t inv rest v) in
              let q : defining (vars_of before (h.coils + 1)) g inv ++ signed false (top g inv) ≡ cs =
              ap₂ (λ (x : List Clause) (y : ℕ). x ++ signed false (top y inv))
              (invariant_is l s c h before after stack t inv rest v before (before_vars t) (agree_numbered l s c h before after stack t inv rest v before lent.before_numbered v.before_wide) g (before_at t) (g_is l t inv rest v))
              (g_is l t inv rest v) in
              let f : Written 1 g n (length (write_formula inv)) (size inv) cs out₃ out₄ w = rw q at e in
              let x : Emitted out 0 us out₃ n = subst (λ (z : List ℕ). Emitted z 0 us out₃ n) (out_is l t inv rest v) u in
              next us cs x (emitted f)
