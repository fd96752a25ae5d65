use Rattle.std.proofs.Common.{rules}
use Rattle.std.proofs.lemmas.Result.{err_from_is_err_and}
use Rattle.refutation.proofs.MarkLaws.{kinds, mark_refused, mark_qed, mark_step}
use Rattle.refutation.proofs.marks.mark_at.Goals as goal

pub returns-in_err-record : goal.returns-in_err-record
returns-in_err-record c =
    let p = err_from_is_err_and c.from_residual.result c.from_residual.ensures.1 in
    rw (p.1, p.2) (mark_refused _ _ _ (c.in_err-record.ensures.by kinds (λ k b h. search rules)))

pub returns-in-Qed : goal.returns-in-Qed
returns-in-Qed c = mark_qed _ _ _ (c.in_ok-record.ensures.by kinds (λ k b h. search rules)) c.in-Qed.is

pub returns-in_default : goal.returns-in_default
returns-in_default c =
    mark_step _ _ _ (c.in_ok-record.ensures.by kinds (λ k b h. search rules)) c.in_default.not-Qed
    _ _ _ c.number_at.ensures c.number_at-in_default.ensures c.number_at-in_default-2.ensures
