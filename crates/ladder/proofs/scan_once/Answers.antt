use Rattle.std.proofs.Common.{rules}
use Rattle.ladder.proofs.ScanLaws.{scan_once_cases}
use Rattle.ladder.proofs.scan_once.Goals as goal

pub evaluate-requires : goal.evaluate-requires
evaluate-requires c = search (rules, scan_once_cases)

pub returns : goal.returns
returns c = search (rules, scan_once_cases)
