use Rattle.std.proofs.Common.{rules, Err, sym}
use Rattle.rules.specs.Head.{base_limits}
use Rattle.files.specs.Files.{base_bounds, Translates}
use Rattle.files.proofs.FilesLaws.{no_set, withheld_27, translated}
use Rattle.files.proofs.translate_files.Goals as goal

pub returns-in_err-try_from : goal.returns-in_err-try_from
returns-in_err-try_from c =
    let f : Translates base_limits base_bounds c.args.set c.args.sheet.now c.args.certificate.now c.args.room.now c.args.room.now (Err (record { fault = c.in_err-try_from.field-0.0; place = 0 })) =
    no_set _ _ _ _ _ (search rules) _ c.in_err-try_from.ensures in
    search (rules, f)

pub returns-then-too_long : goal.returns-then-too_long
returns-then-too_long c =
    rw c.at.ensures (withheld_27 _ _ _ _ _ (search rules) c.in_ok-try_from.field-0 c.in_ok-try_from.ensures (sym c.if-too_long.ensures))

pub returns : goal.returns
returns c =
    translated _ _ _ _ _ (search rules) c.in_ok-try_from.field-0 c.in_ok-try_from.ensures _ _ (sym c.if-too_long.ensures) c.translate.ensures.answered c.translate.ensures.left
