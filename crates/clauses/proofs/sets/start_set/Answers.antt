use Rattle.std.proofs.Common.{rules, arith}
use Rattle.clauses.proofs.SetLaws.{start_rungs, start_passes, set_starts, start_invariant, start_written}
use Rattle.clauses.proofs.sets.start_set.Goals as goal

pub ladder-r-requires : goal.ladder-r-requires
ladder-r-requires c = search (rules, start_rungs)

pub formula_end-g-requires : goal.formula_end-g-requires
formula_end-g-requires c =
    let r = c.ladder-r in
    start_passes _ _ _ _ _ _ c.requires.there c.requires.fresh _ _ _ (omega arith) _ r.ensures _ r.auto.stack r.auto.map r.auto.out

pub start_units-n-requires : goal.start_units-n-requires
start_units-n-requires c = search (rules, set_starts)

pub formula_top-requires : goal.formula_top-requires
formula_top-requires c =
    let r = c.ladder-r in
    let e = c.formula_end-g in
    let u = c.start_units-n in
    start_invariant _ _ _ _ _ _ c.requires.there c.requires.fresh _ _ _ (omega arith) _ r.ensures _ r.auto.stack r.auto.map r.auto.out
    _ _ e.ensures _ e.auto.stack _ _ u.ensures

pub returns : goal.returns
returns c =
    let r = c.ladder-r in
    let e = c.formula_end-g in
    let u = c.start_units-n in
    let i = c.formula_top in
    start_written _ _ _ _ _ _ c.requires.there c.requires.fresh _ _ _ (omega arith) _ r.ensures _ r.auto.stack r.auto.map r.auto.out
    _ _ e.ensures _ e.auto.stack _ _ u.ensures _ _ i.ensures
