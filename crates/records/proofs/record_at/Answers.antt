use Rattle.std.proofs.Common.{rules, arith, ◌∙◌}
use Rattle.records.proofs.FoundLaws.{at_whole, record_at_cases}
use Rattle.records.proofs.record_at.Goals as goal

pub returns-then-s-at : goal.returns-then-s-at
returns-then-s-at c = search (rules, record_at_cases)

pub returns-in_err-kind : goal.returns-in_err-kind
returns-in_err-kind c = search (rules, record_at_cases)

pub returns-then-s-start : goal.returns-then-s-start
returns-then-s-start c = search (rules, record_at_cases)

pub returns : goal.returns
returns c = at_whole _ _ _ _ (omega arith) (search rules) (c.from-body.ensures ∙ c.body_length.ensures) (omega arith)
