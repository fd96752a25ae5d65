use Rattle.std.proofs.Common.{rules}
use Rattle.sheets.proofs.PileLaws.{formula_record_cases}
use Rattle.sheets.proofs.formula.formula_record.Goals as goal

pub returns-then-in_range : goal.returns-then-in_range
returns-then-in_range c = search (rules, formula_record_cases)

pub returns : goal.returns
returns c = search (rules, formula_record_cases)
