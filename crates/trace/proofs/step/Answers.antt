use Rattle.std.proofs.Common.{rules, refl}
use Rattle.trace.specs.Playing.{play_kinds}
use Rattle.trace.proofs.ReplayLaws.{step_refused, step_input, step_scan, step_end}
use Rattle.trace.proofs.step.Goals as goal

pub returns-in_err-record-clause-steps : goal.returns-in_err-record-clause-steps
returns-in_err-record-clause-steps c =
    let d = c.in_err-record.ensures.by (play_kinds c.args.p) (λ k b h. search rules) in
    search (rules, step_refused c.args.l c.args.t c.args.c.now c.args.places.now c.args.p c.in_err-record.field-0.0 d)

pub returns-in-InputOn-clause-steps : goal.returns-in-InputOn-clause-steps
returns-in-InputOn-clause-steps c =
    let d = c.in_ok-record.ensures.by (play_kinds c.args.p) (λ k b h. search rules) in
    search (rules, step_input)

pub returns-in-Scan-clause-steps : goal.returns-in-Scan-clause-steps
returns-in-Scan-clause-steps c =
    let d = c.in_ok-record.ensures.by (play_kinds c.args.p) (λ k b h. search rules) in
    search (rules, step_scan)

pub returns-in_default : goal.returns-in_default
returns-in_default c =
    let d = c.in_ok-record.ensures.by (play_kinds c.args.p) (λ k b h. search rules) in
    record { long = record { inputs_long = refl; coils_long = refl; stack_long = refl }; steps = search (rules, step_end) }
