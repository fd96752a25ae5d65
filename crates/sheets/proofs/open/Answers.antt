use Rattle.std.proofs.Common.{rules, Err}
use Rattle.records.specs.Found.{DueAt}
use Rattle.sheets.specs.Certificate.{opening_kinds}
use Rattle.sheets.proofs.InvariantLaws.{certificate_common}
use Rattle.sheets.proofs.OpenLaws.{open_refused, open_safe, open_trace}
use Rattle.sheets.proofs.open.Goals as goal

pub returns-in_err-whole : goal.returns-in_err-whole
returns-in_err-whole c =
    let e : DueAt (opening_kinds c.args.traces) c.args.c.now 0 certificate_common (Err c.in_err-whole.field-0.0) = rw (c.new.ensures.0, c.new.ensures.1) at (c.in_err-whole.ensures.by (opening_kinds c.args.traces) (λ k b h. search rules)) in
    search (rules, open_refused c.args.c.now c.args.traces c.in_err-whole.field-0.0 e)

pub returns-in-Safe : goal.returns-in-Safe
returns-in-Safe c = open_safe _ c.args.traces c.in_ok-whole.whole (rw (c.new.ensures.0, c.new.ensures.1) at (c.in_ok-whole.ensures.by (opening_kinds c.args.traces) (λ k b h. search rules))) c.in-Safe.is

pub returns-in_default : goal.returns-in_default
returns-in_default c = open_trace _ c.args.traces c.in_ok-whole.whole (rw (c.new.ensures.0, c.new.ensures.1) at (c.in_ok-whole.ensures.by (opening_kinds c.args.traces) (λ k b h. search rules))) c.in_default.not-Safe
