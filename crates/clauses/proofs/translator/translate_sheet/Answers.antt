use Rattle.std.proofs.Common.{refl, rules}
use Rattle.std.specs.Prelude.{Ok, Err}
use Rattle.rules.specs.Verdict.{which_of}
use Rattle.clauses.proofs.TranslateLaws.{no_sheet, sheet_translated}
use Rattle.clauses.proofs.translator.translate_sheet.Goals as goal

pub returns-in_err-h : goal.returns-in_err-h
returns-in_err-h c = search (rules, no_sheet _ c.requires _ _ _ (Err c.in_err-h.field-0.0) c.in_err-h.ensures (which_of c.args.set) c.args.c.now c.args.room.now _ refl)

pub returns : goal.returns
returns c = sheet_translated _ c.requires _ _ _ (Ok _) c.in_ok-h.ensures _ _ _ _ refl _ _ c.translate_certificate.ensures
