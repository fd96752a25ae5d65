-- Well formed, without a reader, of certificates and traces: their bytes, and what it is to be within the limits.
use Rattle.std.specs.Prelude.{ℕ, ◌≤◌, ◌<◌, List, [], ◌∷◌, ◌++◌, length}
use Rattle.base.specs.Lists.{All, each}
use Rattle.rules.specs.declared.Limits.{Limits}
use Rattle.rules.specs.Kind
use Rattle.rules.specs.Record.{two_bytes}
use Rattle.rules.specs.Formula.{Formula, size}
use Rattle.rules.specs.Sheet.{Sheet}
use Rattle.rules.specs.WriteSheet.{write_formula, Fits, RisesFrom}
use Rattle.rules.specs.Certificate.{Step, Which, Which.start, Which.keep, Which.safe, Certificate, Trace, invariant_bounds}

unfoldable pub write_step : Step → List ℕ
write_step q = Kind.STEP ∷ (two_bytes q.first ++ (two_bytes q.second ++ two_bytes q.pivot))

unfoldable pub write_refutation : List Step → List ℕ
write_refutation qs = each write_step qs ++ (Kind.QED ∷ [])

unfoldable pub write_certificate : Certificate → List ℕ
write_certificate d =
    (Kind.SAFE ∷ write_formula d.invariant)
    ++ (Kind.INVARIANT ∷ (write_refutation (d.steps start) ++ (write_refutation (d.steps keep) ++ (write_refutation (d.steps safe) ++ (Kind.END ∷ [])))))

pub record WithinInvariant (l : Limits) (t : Sheet) (inv : Formula) : Type 0 where
  pub fits : Fits (invariant_bounds l t) inv
  pub records_fit : size inv ≤ l.invariant

-- a step's numbers have two bytes and no range of their own
pub record WithinStep (q : Step) : Type 0 where
  pub first_fits : q.first < 65536
  pub second_fits : q.second < 65536
  pub pivot_fits : q.pivot < 65536

pub record WithinCertificate (l : Limits) (t : Sheet) (d : Certificate) : Type 0 where
  pub invariant_within : WithinInvariant l t d.invariant
  pub steps_within : (w : Which) → All WithinStep (d.steps w)

unfoldable pub write_input_on : ℕ → List ℕ
write_input_on n = Kind.INPUT_ON ∷ two_bytes n

unfoldable pub write_scan : List ℕ → List ℕ
write_scan on = each write_input_on on ++ (Kind.SCAN ∷ [])

unfoldable pub write_trace : Trace → List ℕ
write_trace tr = (Kind.TRACE ∷ each write_scan tr) ++ (Kind.END ∷ [])

pub record WithinScan (t : Sheet) (on : List ℕ) : Type 0 where
  pub rises : RisesFrom 0 on
  pub there : All (λ (n : ℕ). n < t.inputs) on

pub record WithinTrace (l : Limits) (t : Sheet) (tr : Trace) : Type 0 where
  pub some : 1 ≤ length tr
  pub few : length tr ≤ l.scans
  pub scans_within : All (WithinScan t) tr
