use Rattle.std.proofs.Common.{rules, Err}
use Rattle.rules.specs.Certificate.Which.{start, keep, safe}
use Rattle.checker.specs.Refuted.{Follows}
use Rattle.checker.proofs.RefutedLaws.{start_passed, keep_passed, faulty, ended}
use Rattle.checker.proofs.refuted.judge_refutations.Goals as goal

pub returns-in_err-second : goal.returns-in_err-second
returns-in_err-second c =
    let f : Follows start c.args.l c.args.s.now c.args.c.now c.args.h c.args.at c.args.work.now (Err c.in_err-second.field-0.0) =
    faulty _ _ _ _ _ _ start _ c.in_err-second.ensures in
    search (rules, f)

pub returns-in_err-third : goal.returns-in_err-third
returns-in_err-third c =
    let f : Follows start c.args.l c.args.s.now c.args.c.now c.args.h c.args.at c.args.work.now (Err c.in_err-third.field-0.0) =
    start_passed _ _ _ _ _ _ _ _ _ c.refute.auto.work c.in_ok-second.ensures
    (faulty _ _ _ _ _ _ keep _ c.in_err-third.ensures) in
    search (rules, f)

pub returns-in_err-end : goal.returns-in_err-end
returns-in_err-end c =
    let f : Follows start c.args.l c.args.s.now c.args.c.now c.args.h c.args.at c.args.work.now (Err c.in_err-end.field-0.0) =
    start_passed _ _ _ _ _ _ _ _ _ c.refute.auto.work c.in_ok-second.ensures
    (keep_passed _ _ _ _ _ _ _ _ _ c.refute-2.auto.work c.in_ok-third.ensures
    (faulty _ _ _ _ _ _ safe _ c.in_err-end.ensures)) in
    search (rules, f)

pub returns : goal.returns
returns c =
    start_passed _ _ _ _ _ _ _ _ _ c.refute.auto.work c.in_ok-second.ensures
    (keep_passed _ _ _ _ _ _ _ _ _ c.refute-2.auto.work c.in_ok-third.ensures
    (ended _ _ _ _ _ _ _ _ c.in_ok-end.ensures c.end_at.ensures))
