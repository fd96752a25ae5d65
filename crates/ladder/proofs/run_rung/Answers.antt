use Rattle.std.proofs.Common.{rules}
use Rattle.ladder.proofs.RungLaws.{run_rung_cases}
use Rattle.ladder.proofs.run_rung.Goals as goal

pub evaluate-on-requires : goal.evaluate-on-requires
evaluate-on-requires c = search (rules, run_rung_cases)

pub bounds-coils-coil : goal.bounds-coils-coil
bounds-coils-coil c = search (rules, run_rung_cases)

pub overflow_add-result : goal.overflow_add-result
overflow_add-result c = search (rules, run_rung_cases)

pub returns : goal.returns
returns c = search (rules, run_rung_cases)
