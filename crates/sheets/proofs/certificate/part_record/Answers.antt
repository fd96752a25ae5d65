use Rattle.std.proofs.Common.{rules, Err}
use Rattle.records.specs.Found.{DueAt}
use Rattle.sheets.specs.Certificate.{invariant_kinds}
use Rattle.sheets.proofs.InvariantLaws.{certificate_common, part_refused, part_whole}
use Rattle.sheets.proofs.certificate.part_record.Goals as goal

pub returns-in_err-whole : goal.returns-in_err-whole
returns-in_err-whole c =
    let e : DueAt invariant_kinds c.args.c.now c.args.p.at certificate_common (Err c.in_err-whole.field-0.0) = c.in_err-whole.ensures.by _ (λ k b h. search rules) in
    search (rules, part_refused c.args.l c.args.coils c.args.c.now c.args.p c.in_err-whole.field-0.0 e)

pub returns : goal.returns
returns c = part_whole _ _ _ _ c.in_ok-whole.whole (c.in_ok-whole.ensures.by _ (λ k b h. search rules)) _ c.read_part.ensures
