use Rattle.std.proofs.Common.{refl}
use Rattle.std.proofs.lemmas.Result.{err_from_is_err_and}
use Rattle.std.specs.Prelude.{Ok, Err}
use Rattle.clauses.proofs.TranslateLaws.{no_set, translated}
use Rattle.clauses.proofs.translate.Goals as goal

pub returns-in_err-set : goal.returns-in_err-set
returns-in_err-set c =
    let p = err_from_is_err_and c.from_residual.result c.from_residual.ensures.1 in
    rw p.1 (no_set _ _ _ _ (Err _) c.in_err-set.ensures _ refl _ p.2)

pub returns : goal.returns
returns c = translated _ _ _ _ (Ok _) c.in_ok-set.ensures _ refl _ c.limits.ensures _ _ c.translate_sheet.ensures
