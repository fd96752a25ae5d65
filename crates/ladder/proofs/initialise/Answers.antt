use Rattle.std.proofs.Common.{rules}
use Rattle.ladder.proofs.StartLaws.{initialise_cases}
use Rattle.ladder.proofs.initialise.Goals as goal

pub loop-init : goal.loop-init
loop-init c = search (rules, initialise_cases)

pub bounds-coils-coil : goal.bounds-coils-coil
bounds-coils-coil c = search (rules, initialise_cases)

pub overflow_add-at : goal.overflow_add-at
overflow_add-at c = search (rules, initialise_cases)

pub loop-preserved : goal.loop-preserved
loop-preserved c = search (rules, initialise_cases)

pub returns : goal.returns
returns c = search (rules, initialise_cases)
