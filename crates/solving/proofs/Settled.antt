-- Over a choice of coils and inputs a set's defining clauses hold exactly when each defined variable has its computed value.
-- Assumes nothing.
use Prim.Native.Nat.{ℕ, ◌+◌, ◌-◌, ◌<◌}
use native.Mathlib.Omega.{arith}
use mathlib.Core.Path.{◌≡◌, sym, ◌∙◌}
use mathlib.Core.Logic.Iff
use mathlib.Core.Logic.{◌↔◌, ◌⊎◌, ◌⊎◌.inl, ◌⊎◌.inr}
use mathlib.Core.Bool.{Bool}
use mathlib.Core.List.{List, [], ◌∷◌}
use borrow.Author.Tests.{lt-ltb, le-ltb}
use Rattle.base.specs.Lists.{All}
use Rattle.rules.specs.declared.Limits.{Limits}
use Rattle.rules.specs.Formula.{Inputs, Coils, Formula, size}
use Rattle.rules.specs.Sheet.{Rung, Sheet, scan}
use Rattle.rules.specs.ReadSheet.{sheet_bounds}
use Rattle.rules.specs.WriteSheet.{Names, Fits, sizes, WithinSheet}
use Rattle.rules.specs.WriteCertificate.{WithinInvariant}
use Rattle.rules.specs.Certificate.{Which, Which.start, Which.keep, Which.safe, invariant_bounds}
use Rattle.rules.specs.Clauses.{Vars, before, after, rungs_at, condition_at, before_at, after_at, ladder, condition, invariant_before, invariant_after}
use Rattle.solving.specs.Solution.{Assignment, Holds}
use Rattle.solving.specs.Parts.{HasScan, Chosen, Within, defining_part, Defined}
use Rattle.solving.specs.Values.{record_value, rung_value, computed}
use Rattle.solving.proofs.Records.{Have, Right, Agree, in_turn, records}
use Rattle.solving.proofs.Rungs.{RungsRight, rungs, scanned}

pub all_map : {A : Type 0} (P Q : A → Type 0) (xs : List A) → ((x : A) → P x → Q x) → All P xs → All Q xs
all_map P Q [] f h = tt
all_map P Q (x ∷ xs) f h = (f x h.0, all_map P Q xs f h.1)

-- the same, said of the records by their variables
spread : (b : Assignment) (g n : ℕ) (f F : ℕ → Bool) → ((m : ℕ) → m < n → F (g + m) ≡ f m)
    → Have b g n f ↔ ((v : ℕ) → Within g n v → b v ≡ F v)
spread b g n f F e = (there, λ r m l. r (g + m) (omega arith) ∙ e m l)
  where
    there : Have b g n f → (v : ℕ) → Within g n v → b v ≡ F v
    there r v w =
        let s : g + (v - g) ≡ v = omega arith in
        rw s at (r (v - g) (omega arith) ∙ sym (e (v - g) (omega arith)))

three : (A B C : ℕ → Type 0) (P : ℕ → Type 0)
    → (((v : ℕ) → A v → P v) × (((v : ℕ) → B v → P v) × ((v : ℕ) → C v → P v))) ↔ ((v : ℕ) → A v ⊎ (B v ⊎ C v) → P v)
three A B C P = (λ h v. each h v, λ h. (λ v x. h v (inl x), (λ v x. h v (inr (inl x)), λ v x. h v (inr (inr x)))))
  where
    each : ((v : ℕ) → A v → P v) × (((v : ℕ) → B v → P v) × ((v : ℕ) → C v → P v)) → (v : ℕ) → A v ⊎ (B v ⊎ C v) → P v
    each h v (inl x) = h.0 v x
    each h v (inr (inl x)) = h.1.0 v x
    each h v (inr (inr x)) = h.1.1 v x

module _ (t : Sheet) (inv : Formula) (k : Coils) (i : Inputs) where
  of_rungs : (m : ℕ) → m < sizes t.rungs → computed t inv k i (rungs_at t + m) ≡ rung_value i k t.rungs m
  unfolding computed
  of_rungs m l =
      let e : rungs_at t + m - rungs_at t ≡ m = omega arith in
      rw (lt-ltb (rungs_at t + m) (condition_at t) (omega arith), e)

  of_condition : (m : ℕ) → m < size t.condition → computed t inv k i (condition_at t + m) ≡ record_value i (scan t i k) t.condition m
  unfolding computed
  of_condition m l =
      let e : condition_at t + m - condition_at t ≡ m = omega arith in
      rw (le-ltb (condition_at t + m) (condition_at t) (omega arith), lt-ltb (condition_at t + m) (before_at t) (omega arith), e)

  of_before : (m : ℕ) → m < size inv → computed t inv k i (before_at t + m) ≡ record_value i k inv m
  unfolding computed
  of_before m l =
      let e : before_at t + m - before_at t ≡ m = omega arith in
      rw (le-ltb (before_at t + m) (condition_at t) (omega arith), le-ltb (before_at t + m) (before_at t) (omega arith), lt-ltb (before_at t + m) (after_at t inv) (omega arith), e)

  of_after : (m : ℕ) → m < size inv → computed t inv k i (after_at t inv + m) ≡ record_value i (scan t i k) inv m
  unfolding computed
  of_after m l =
      let e : after_at t inv + m - after_at t inv ≡ m = omega arith in
      rw (le-ltb (after_at t inv + m) (condition_at t) (omega arith), le-ltb (after_at t inv + m) (before_at t) (omega arith), le-ltb (after_at t inv + m) (after_at t inv) (omega arith), e)

-- an invariant names coils only
narrow : (l : Limits) (t : Sheet) (vs : Vars) (b : Assignment) (i : Inputs) (k : Coils)
    → Agree (sheet_bounds l t) vs b i k → Agree (invariant_bounds l t) vs b i k
narrow l t vs b i k a = record { inputs = λ n h. absurd (omega arith); coils = a.coils }

module _ (l : Limits) (t : Sheet) (inv : Formula) (sheet : WithinSheet l t) (invariant : WithinInvariant l t inv)
    (w : Which) (k : Coils) (i : Inputs) (b : Assignment) (chosen : Chosen t w k i b) where
  pub invariant_before_lem : Holds b (invariant_before t inv) ↔ Right b (before_at t) i k inv
  invariant_before_lem = records b i k (invariant_bounds l t) (before t) agree (before_at t) inv invariant.fits.names
    where
      agree : Agree (invariant_bounds l t) (before t) b i k
      agree = record { inputs = λ n h. absurd (omega arith); coils = chosen.coils }

  module _ (scans : HasScan w) where
    agree_before : Agree (sheet_bounds l t) (before t) b i k
    agree_before = record { inputs = chosen.inputs scans; coils = chosen.coils }

    pub rungs_before : Holds b (ladder t) ↔ RungsRight b (rungs_at t) i k t.rungs
    rungs_before =
        rungs b i (sheet_bounds l t) (before t) (rungs_at t) k t.rungs agree_before
        (all_map (λ (r : Rung). Fits (sheet_bounds l t) r.formula) (λ (r : Rung). Names (sheet_bounds l t) r.formula) t.rungs (λ r f. f.names) sheet.rungs_within)

    module _ (ran : RungsRight b (rungs_at t) i k t.rungs) where
      agree_after : Agree (sheet_bounds l t) (after t) b i (scan t i k)
      unfolding scan
      agree_after = scanned b i (sheet_bounds l t) (before t) (rungs_at t) k t.rungs agree_before ran

      pub condition_after : Holds b (condition t) ↔ Right b (condition_at t) i (scan t i k) t.condition
      condition_after = records b i (scan t i k) (sheet_bounds l t) (after t) agree_after (condition_at t) t.condition sheet.condition_within.names

      pub invariant_after_lem : Holds b (invariant_after t inv) ↔ Right b (after_at t inv) i (scan t i k) inv
      invariant_after_lem = records b i (scan t i k) (invariant_bounds l t) (after t) (narrow l t (after t) b i (scan t i k) agree_after) (after_at t inv) inv invariant.fits.names

-- each defined variable has its computed value
abbrev pub Settled : Sheet → Formula → Which → Coils → Inputs → Assignment → Type 0
Settled t inv w k i b = (v : ℕ) → Defined t inv w v → b v ≡ computed t inv k i v

-- the n variables from g on have their computed values
abbrev pub Part : Sheet → Formula → Coils → Inputs → Assignment → ℕ → ℕ → Type 0
Part t inv k i b g n = (v : ℕ) → Within g n v → b v ≡ computed t inv k i v

module _ (t : Sheet) (inv : Formula) (k : Coils) (i : Inputs) (b : Assignment) where
  pub rungs_part : RungsRight b (rungs_at t) i k t.rungs ↔ Part t inv k i b (rungs_at t) (sizes t.rungs)
  rungs_part = spread b (rungs_at t) (sizes t.rungs) (rung_value i k t.rungs) (computed t inv k i) (of_rungs t inv k i)

  pub condition_part : Right b (condition_at t) i (scan t i k) t.condition ↔ Part t inv k i b (condition_at t) (size t.condition)
  condition_part =
      spread b (condition_at t) (size t.condition) (record_value i (scan t i k) t.condition) (computed t inv k i) (of_condition t inv k i)

  pub before_part : Right b (before_at t) i k inv ↔ Part t inv k i b (before_at t) (size inv)
  before_part = spread b (before_at t) (size inv) (record_value i k inv) (computed t inv k i) (of_before t inv k i)

  pub after_part : Right b (after_at t inv) i (scan t i k) inv ↔ Part t inv k i b (after_at t inv) (size inv)
  after_part = spread b (after_at t inv) (size inv) (record_value i (scan t i k) inv) (computed t inv k i) (of_after t inv k i)

module _ (l : Limits) (t : Sheet) (inv : Formula) (sheet : WithinSheet l t) (invariant : WithinInvariant l t inv)
    (k : Coils) (i : Inputs) (b : Assignment) where
  pub settles : (w : Which) → Chosen t w k i b → Holds b (defining_part t inv w) ↔ Settled t inv w k i b
  unfolding defining_part Defined
  settles start c = Iff.trans (invariant_before_lem l t inv sheet invariant start k i b c) (before_part t inv k i b)
  settles keep c =
      Iff.trans
      (in_turn b (ladder t) _ (rungs_before l t inv sheet invariant keep k i b c tt) (λ ran.
      in_turn b (invariant_before t inv) _ (invariant_before_lem l t inv sheet invariant keep k i b c) (λ x.
      invariant_after_lem l t inv sheet invariant keep k i b c tt ran)))
      (Iff.trans (Iff.and (rungs_part t inv k i b) (Iff.and (before_part t inv k i b) (after_part t inv k i b)))
      (three _ _ _ (λ v. b v ≡ computed t inv k i v)))
  settles safe c =
      Iff.trans
      (in_turn b (ladder t) _ (rungs_before l t inv sheet invariant safe k i b c tt) (λ ran.
      in_turn b (condition t) _ (condition_after l t inv sheet invariant safe k i b c tt ran) (λ x.
      invariant_before_lem l t inv sheet invariant safe k i b c)))
      (Iff.trans (Iff.and (rungs_part t inv k i b) (Iff.and (condition_part t inv k i b) (before_part t inv k i b)))
      (three _ _ _ (λ v. b v ≡ computed t inv k i v)))
