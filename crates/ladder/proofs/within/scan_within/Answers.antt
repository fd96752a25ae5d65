use Rattle.std.proofs.Common.{rules}
use Rattle.ladder.proofs.ScannedLaws.{bytes_known, sheet_bad, ladder_here, sheet_good}
use Rattle.ladder.proofs.within.scan_within.Goals as goal

pub returns-in_err-h : goal.returns-in_err-h
returns-in_err-h c =
    search (rules, sheet_bad c.args.l c.args.s.now c.args.inputs.now c.args.coils.now c.args.marks.now c.args.stack.now c.requires c.read_sheet.new.marks c.in_err-h.field-0.0 c.in_err-h.ensures)

pub scan_once-requires : goal.scan_once-requires
scan_once-requires c = ladder_here _ _ _ _ _ _ c.requires _ _ c.in_ok-h.ensures (bytes_known _ c.type_inv.s)

pub returns : goal.returns
returns c = sheet_good _ _ _ _ _ _ c.requires _ _ c.in_ok-h.ensures (bytes_known _ c.type_inv.s) _ _ _ c.scan_once.ensures
