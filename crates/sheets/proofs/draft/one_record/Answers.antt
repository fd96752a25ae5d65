use Rattle.std.proofs.Common.{rules, Err}
use Rattle.rules.specs.ReadSheet.{spot_kinds}
use Rattle.records.specs.Found.{DueAt}
use Rattle.sheets.specs.Draft.{spot_of}
use Rattle.sheets.proofs.RecordLaws.{sheet_common, one_refused, one_whole}
use Rattle.sheets.proofs.draft.one_record.Goals as goal

pub returns-in_err-whole : goal.returns-in_err-whole
returns-in_err-whole c =
    let e : DueAt (spot_kinds (spot_of c.args.d.spot)) c.args.s.now c.args.d.at sheet_common (Err c.in_err-whole.field-0.0) = c.in_err-whole.ensures.by _ (λ k b h. search rules) in
    search (rules, one_refused c.args.l c.args.s.now c.args.marks.now c.args.d c.in_err-whole.field-0.0 e)

pub returns : goal.returns
returns c = one_whole _ _ _ _ c.in_ok-whole.whole (c.in_ok-whole.ensures.by _ (λ k b h. search rules)) _ _ c.whole_record.ensures
