use Prim.Native.Nat.{◌-◌}
use mathlib.Core.Path.{◌≡◌}
use Rattle.clauses.proofs.FormulaLaws.{Walking}
use lib.ListN.{length}
use Rattle.clauses.proofs.formula.formula_clauses.Given as goal

abbrev pub invariant-loop-n : goal.invariant-loop-n
invariant-loop-n l = record {
  same : l.stack.variables.ghost_name ≡ l.initial.stack.variables.ghost_name;
  walking : Walking l.s l.fn.from.at l.vars.coils.now l.vars.inputs l.fn.from.g l.initial.stack.variables.now l.initial.out l.fn.from.n l.stack.variables.now l.out l.w.at l.w.g l.w.n l.stack.height;
}

abbrev pub decreases-loop-n : goal.decreases-loop-n
decreases-loop-n l =
    length l.s - l.w.at
