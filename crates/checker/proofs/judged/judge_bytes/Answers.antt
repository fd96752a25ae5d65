use Rattle.std.proofs.Common.{rules, Err}
use Rattle.checker.specs.Checked.{JudgesBytes}
use Rattle.checker.proofs.CheckedLaws.{sheet_bad, opened_for, sheet_good}
use Rattle.checker.proofs.judged.judge_bytes.Goals as goal

pub returns-in_err-h : goal.returns-in_err-h
returns-in_err-h c =
    let f : JudgesBytes c.args.l c.args.s.now c.args.c.now (Err c.in_err-h.field-0.0) = sheet_bad _ _ _ _ c.in_err-h.ensures in
    search (rules, f)

pub judge_opened-requires : goal.judge_opened-requires
judge_opened-requires c = opened_for _ _ _ c.in_ok-h.h c.in_ok-h.ensures _ c.requires (λ i. (c.type_inv.s i).fits) (λ i. (c.type_inv.c i).fits)

pub returns : goal.returns
returns c = sheet_good _ _ _ c.in_ok-h.h c.in_ok-h.ensures _ c.requires (λ i. (c.type_inv.s i).fits) (λ i. (c.type_inv.c i).fits) _ c.judge_opened.ensures
