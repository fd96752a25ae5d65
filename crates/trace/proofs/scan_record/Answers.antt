use Rattle.std.proofs.Common.{rules}
use Rattle.trace.proofs.PlayLaws.{scan_record_cases}
use Rattle.trace.proofs.scan_record.Goals as goal

pub returns-then-l-p-clause-scans : goal.returns-then-l-p-clause-scans
returns-then-l-p-clause-scans c = search (rules, scan_record_cases)

pub returns-clause-scans : goal.returns-clause-scans
returns-clause-scans c = let z = c.fill.ensures.after (λ y h. h) in search (rules, scan_record_cases)
