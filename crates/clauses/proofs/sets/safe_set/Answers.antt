use Rattle.std.proofs.Common.{rules}
use Rattle.clauses.proofs.SetLaws.{set_rungs}
use Rattle.clauses.proofs.SafeSetLaws.{safe_condition, safe_before, safe_top, safe_small, safe_written}
use Rattle.clauses.proofs.sets.safe_set.Goals as goal

pub ladder-r-requires : goal.ladder-r-requires
ladder-r-requires c = search (rules, set_rungs)

pub formula_clauses-q-requires : goal.formula_clauses-q-requires
formula_clauses-q-requires c =
    let r = c.ladder-r in
    safe_condition _ _ _ _ _ _ c.requires.there c.requires.fresh _ _ _ _ r.ensures _ r.auto.stack r.auto.map

pub formula_top-i-requires : goal.formula_top-i-requires
formula_top-i-requires c =
    let r = c.ladder-r in
    let q = c.formula_clauses-q in
    safe_before _ _ _ _ _ _ c.requires.there c.requires.fresh _ _ _ _ r.ensures _ r.auto.stack r.auto.map _ _ q.ensures _ q.auto.stack

pub overflow_sub-q : goal.overflow_sub-q
overflow_sub-q c =
    let r = c.ladder-r in
    let q = c.formula_clauses-q in
    safe_top _ _ _ _ _ _ c.requires.there c.requires.fresh _ _ _ _ r.ensures _ r.auto.stack r.auto.map _ _ q.ensures q.new.stack q.auto.stack

pub unit-requires : goal.unit-requires
unit-requires c =
    let r = c.ladder-r in
    let q = c.formula_clauses-q in
    let i = c.formula_top-i in
    safe_small _ _ _ _ _ _ c.requires.there c.requires.fresh _ _ _ _ r.ensures _ r.auto.stack r.auto.map _ _ q.ensures _ q.auto.stack _ _ i.ensures

pub returns : goal.returns
returns c =
    let r = c.ladder-r in
    let q = c.formula_clauses-q in
    let i = c.formula_top-i in
    safe_written _ _ _ _ _ _ c.requires.there c.requires.fresh _ _ _ _ r.ensures _ r.auto.stack r.auto.map _ _ q.ensures _ q.auto.stack
    _ _ i.ensures _ _ c.unit.ensures
