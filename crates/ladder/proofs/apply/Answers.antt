use Rattle.std.proofs.Common.{rules}
use mathlib.Core.Path.{◌≡◌}
use mathlib.Core.Bool.{◌&&◌, ◌||◌}
use Rattle.ladder.proofs.ApplyLaws.{and_on, and_off, or_on, or_off, apply_cases}
use Rattle.ladder.proofs.apply.Goals as goal
use Rattle.ladder.proofs.apply.Goals.{then-x, else-x, then-x-2, else-x-2}

pub bounds-inputs-from : goal.bounds-inputs-from
bounds-inputs-from c = search (rules, apply_cases)

pub bounds-coils-from : goal.bounds-coils-from
bounds-coils-from c = search (rules, apply_cases)

pub returns-in-Input-clause-applied : goal.returns-in-Input-clause-applied
returns-in-Input-clause-applied c = search (rules, apply_cases)

pub returns-in-Coil-clause-applied : goal.returns-in-Coil-clause-applied
returns-in-Coil-clause-applied c = search (rules, apply_cases)

pub returns-in-Constant-clause-applied : goal.returns-in-Constant-clause-applied
returns-in-Constant-clause-applied c = search (rules, apply_cases)

pub returns-in-Not-clause-applied : goal.returns-in-Not-clause-applied
returns-in-Not-clause-applied c = search (rules, apply_cases)

pub returns-after-x-clause-applied : goal.returns-after-x-clause-applied
returns-after-x-clause-applied c =
    let e : c.if-x.push ≡ (c.pop-x-in-And.result && c.pop-y.result) =
    elim c.if-x.branch [ then-x w ↦ and_on c.pop-x-in-And.result c.pop-y.result c.if-x.push w.if-x.true w.push-is | else-x w ↦ and_off c.pop-x-in-And.result c.pop-y.result c.if-x.push w.if-x.false w.push-is ] in
    search (rules, apply_cases)

pub returns-after-x-2-clause-applied : goal.returns-after-x-2-clause-applied
returns-after-x-2-clause-applied c =
    let e : c.if-x-2.push ≡ (c.pop-x-in-Or.result || c.pop-y-in-Or.result) =
    elim c.if-x-2.branch [ then-x-2 w ↦ or_on c.pop-x-in-Or.result c.pop-y-in-Or.result c.if-x-2.push w.if-x-2.true w.push-is | else-x-2 w ↦ or_off c.pop-x-in-Or.result c.pop-y-in-Or.result c.if-x-2.push w.if-x-2.false w.push-is ] in
    search (rules, apply_cases)
