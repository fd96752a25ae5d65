-- Each clause set has a solution exactly when the start, or a single scan from within the invariant, breaks what it stands for;
-- so where a set has none, what it stands for is kept.
-- Assumes nothing.
use Prim.Native.Nat.{◌+◌}
use mathlib.Core.Path.{◌≡◌, refl}
use mathlib.Core.Bool.{Bool, true, false}
use Rattle.rules.specs.declared.Limits.{Limits}
use Rattle.rules.specs.Formula.{Inputs, Coils, Formula}
use Rattle.rules.specs.Sheet.{Sheet, Begins, scan, holds_after}
use Rattle.rules.specs.WriteSheet.{WithinSheet}
use Rattle.rules.specs.WriteCertificate.{WithinInvariant}
use Rattle.rules.specs.Certificate.{Which, Which.start, Which.keep, Which.safe}
use Rattle.rules.specs.Clauses.{clause_set}
use Rattle.solving.specs.Solution.{Assignment, Holds, Solvable}
use Rattle.solving.specs.Parts.{Chosen}
use Rattle.solving.specs.Statements.{inside, StartSet, KeepSet, SafeSet}
use Rattle.solving.proofs.Settled.{settles}
use Rattle.solving.proofs.Extends.{extension, extension_chosen, extension_settled}
use Rattle.solving.proofs.Merged.{parts_hold}
use Rattle.solving.proofs.Units.{Breaks, units_say}

module _ (l : Limits) (t : Sheet) (inv : Formula) (sheet : WithinSheet l t) (invariant : WithinInvariant l t inv) where
  -- over the coils and inputs that an assignment chooses, its set says what it stands for
  says : (w : Which) (k : Coils) (i : Inputs) (a : Assignment) → Chosen t w k i a → Holds a (clause_set t inv w) → Breaks t inv w k i
  says w k i a c h =
      let p = (parts_hold t inv w a).0 h in
      (units_say l t inv invariant k i a w c ((settles l t inv sheet invariant k i a w c).0 p.0)).0 p.1

  broken : (w : Which) → Solvable (clause_set t inv w) → (k : Coils) × (i : Inputs) × Breaks t inv w k i
  broken w s =
      let k : Coils = λ c. s.0 (1 + c) in
      let i : Inputs = λ j. s.0 (1 + t.coils + j) in
      (k, i, says w k i s.0 (record { coils = λ c h. refl; inputs = λ x j h. refl }) s.1)

  solved : (w : Which) (k : Coils) (i : Inputs) → Breaks t inv w k i → Solvable (clause_set t inv w)
  solved w k i x = (
    extension t inv k i,
    (parts_hold t inv w (extension t inv k i)).1 (
      (settles l t inv sheet invariant k i (extension t inv k i) w (extension_chosen t inv w k i)).1 (extension_settled t inv w k i),
      (units_say l t inv invariant k i (extension t inv k i) w (extension_chosen t inv w k i) (extension_settled t inv w k i)).1 x,
    ),
  )

pub start_set : StartSet
start_set l t inv sheet invariant = (
  λ s. let p = broken l t inv sheet invariant start s in (p.0, p.2.0, p.2.1),
  λ p. solved l t inv sheet invariant start p.0 (λ n. false) (p.1, p.2),
)

pub keep_set : KeepSet
keep_set l t inv sheet invariant = (
  λ s. let p = broken l t inv sheet invariant keep s in (p.0, p.1, p.2.0, p.2.1),
  λ p. solved l t inv sheet invariant keep p.0 p.1 (p.2, p.3),
)

pub safe_set : SafeSet
safe_set l t inv sheet invariant = (
  λ s. let p = broken l t inv sheet invariant safe s in (p.0, p.1, p.2.0, p.2.1),
  λ p. solved l t inv sheet invariant safe p.0 p.1 (p.2, p.3),
)

-- what a checker needs: a set without a solution keeps what it stands for
not_false : (x : Bool) → (x ≡ false → ⊥) → x ≡ true
not_false true h = refl
not_false false h = absurd (h refl)

module _ (l : Limits) (t : Sheet) (inv : Formula) (sheet : WithinSheet l t) (invariant : WithinInvariant l t inv) where
  pub starts_inside : (Solvable (clause_set t inv start) → ⊥) → (k : Coils) → Begins t k → inside inv k ≡ true
  starts_inside none k b = not_false (inside inv k) (λ e. none ((start_set l t inv sheet invariant).1 (k, b, e)))

  pub stays_inside : (Solvable (clause_set t inv keep) → ⊥) → (k : Coils) (i : Inputs) → inside inv k ≡ true → inside inv (scan t i k) ≡ true
  stays_inside none k i h = not_false (inside inv (scan t i k)) (λ e. none ((keep_set l t inv sheet invariant).1 (k, i, h, e)))

  pub safe_inside : (Solvable (clause_set t inv safe) → ⊥) → (k : Coils) (i : Inputs) → inside inv k ≡ true → holds_after t i k ≡ true
  safe_inside none k i h = not_false (holds_after t i k) (λ e. none ((safe_set l t inv sheet invariant).1 (k, i, h, e)))
