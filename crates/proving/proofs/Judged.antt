-- Steps are accepted exactly when they are three refutations by the rule and END is the last byte.
-- Assumes nothing.
use Prim.Native.Nat.{ℕ, ◌+◌}
use mathlib.Core.Path.{◌≡◌}
use mathlib.Core.List.{List}
use native.Mathlib.Omega.{arith}
use lib.ListN.{length}
use borrow.Author.Tests.{le-ltb}
use Rattle.rules.specs.declared.Limits.{Limits}
use Rattle.rules.specs.Formula.{Formula}
use Rattle.rules.specs.Sheet.{Sheet}
use Rattle.rules.specs.Certificate.{Step, Which, Which.start, Certificate, steps_reader, read_steps}
use Rattle.rules.specs.Verdict.{Verdict.accepted, refuting, judge_steps}
use Rattle.reading.specs.Readings.{marks}
use Rattle.reading.specs.Certificates.{refutations}
use Rattle.proving.specs.Grounds.{Proves, StepsExactly}
use Rattle.proving.proofs.Closed.{closes_last}
use Rattle.proving.proofs.Shaped.{three_refutations}
use Rattle.proving.proofs.Passed.{Passed, judged_passed, passes_judged}
use Rattle.proving.proofs.Refuted.{all_pass}

module _ (l : Limits) (t : Sheet) (inv : Formula) (bs : List ℕ) (p : ℕ) where
  passed_proves : Passed l t inv bs (refuting t inv start) (read_steps bs p) → Proves l t inv bs p
  unfolding read_steps
  passed_proves h = record {
    steps = three.0;
    read = three.1;
    place = h.end;
    closes = h.closes;
    last = closes_last steps_reader bs p 0 h.end tt h.closes h.last;
    refute = (all_pass l t inv (record { invariant = inv; steps = three.0 })).0 (rw three.1 at h.passes);
  }
    where
      three : (qs : Which → List Step) × (marks (read_steps bs p) ≡ refutations (record { invariant = inv; steps = qs }))
      three = three_refutations inv bs p h.end tt h.closes

  proves_accepted : Proves l t inv bs p → judge_steps l t inv bs (refuting t inv start) (read_steps bs p) ≡ accepted
  unfolding judge_steps
  proves_accepted h =
      let d : Certificate = record { invariant = inv; steps = h.steps } in
      let e = h.last in
      passes_judged l t inv bs (read_steps bs p) (refuting t inv start) accepted (rw h.read ((all_pass l t inv d).1 h.refute))
      (λ g. rw (h.closes, le-ltb (h.place + 1) (length bs) (omega arith)))

pub steps_exactly : StepsExactly
steps_exactly l t inv bs p = (λ e. passed_proves l t inv bs p (judged_passed l t inv bs (read_steps bs p) (refuting t inv start) e), proves_accepted l t inv bs p)
