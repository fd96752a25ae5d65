use Rattle.std.proofs.Common.{rules, arith}
use Rattle.clauses.proofs.SetLaws.{set_rungs}
use Rattle.clauses.proofs.KeepSetLaws.{keep_passes, keep_before, keep_after, keep_written}
use Rattle.clauses.proofs.sets.keep_set.Goals as goal

pub ladder-r-requires : goal.ladder-r-requires
ladder-r-requires c = search (rules, set_rungs)

pub formula_end-g-requires : goal.formula_end-g-requires
formula_end-g-requires c =
    let r = c.ladder-r in
    keep_passes _ _ _ _ _ _ c.requires.there c.requires.fresh _ _ _ (omega arith) _ r.ensures _ r.auto.stack r.auto.map r.auto.out

pub formula_top-i-requires : goal.formula_top-i-requires
formula_top-i-requires c =
    let r = c.ladder-r in
    let e = c.formula_end-g in
    keep_before _ _ _ _ _ _ c.requires.there c.requires.fresh _ _ _ (omega arith) _ r.ensures _ r.auto.stack r.auto.map r.auto.out _ _ e.ensures _ e.auto.stack

pub formula_top-requires : goal.formula_top-requires
formula_top-requires c =
    let r = c.ladder-r in
    let e = c.formula_end-g in
    let i = c.formula_top-i in
    keep_after _ _ _ _ _ _ c.requires.there c.requires.fresh _ _ _ (omega arith) _ r.ensures _ r.auto.stack r.auto.map r.auto.out _ _ e.ensures _ e.auto.stack
    _ _ i.ensures _ i.auto.stack

pub returns : goal.returns
returns c =
    let r = c.ladder-r in
    let e = c.formula_end-g in
    let i = c.formula_top-i in
    let j = c.formula_top in
    keep_written _ _ _ _ _ _ c.requires.there c.requires.fresh _ _ _ (omega arith) _ r.ensures _ r.auto.stack r.auto.map r.auto.out _ _ e.ensures _ e.auto.stack
    _ _ i.ensures _ i.auto.stack _ _ j.ensures
