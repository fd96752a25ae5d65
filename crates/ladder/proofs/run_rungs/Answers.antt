use Rattle.std.proofs.Common.{rules}
use Rattle.ladder.proofs.RungLaws.{run_rungs_cases}
use Rattle.ladder.proofs.run_rungs.Goals as goal

pub loop-init : goal.loop-init
loop-init c = search (rules, run_rungs_cases)

pub run_rung-at-requires : goal.run_rung-at-requires
run_rung-at-requires c = search (rules, run_rungs_cases)

pub loop-preserved : goal.loop-preserved
loop-preserved c = search (rules, run_rungs_cases)

pub returns : goal.returns
returns c = search (rules, run_rungs_cases)
