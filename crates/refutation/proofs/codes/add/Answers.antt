use Rattle.std.proofs.Common.{rules}
use Rattle.refutation.proofs.AddLaws.{add_cases}
use Rattle.refutation.proofs.codes.add.Goals.{then-site-k-via-then-site-k, then-site-k-via-else-site-k+then-has, then-k-site, else-k-site}
use Rattle.refutation.proofs.codes.add.Goals as goal

pub returns-then-site-k : goal.returns-then-site-k
returns-then-site-k c =
    elim c.then-site-k.branch [
      | then-site-k-via-then-site-k w ↦ search (rules, add_cases)
      | then-site-k-via-else-site-k+then-has w ↦ search (rules, add_cases)
    ]

pub returns : goal.returns
returns c =
    elim c.if-k-site.branch [ then-k-site w ↦ rw w.work-is (search (rules, add_cases)) | else-k-site w ↦ rw w.work-is (search (rules, add_cases)) ]
