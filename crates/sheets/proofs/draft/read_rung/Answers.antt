use Rattle.std.proofs.Common.{rules, arith, ◌∙◌}
use Rattle.sheets.proofs.RungLaws.{rung_go}
use Rattle.sheets.proofs.draft.read_rung.Goals as goal

pub returns : goal.returns
returns c =
    rung_go _ _ _ _ _ _ (c.from-coil.ensures ∙ c.number_at.ensures) (omega arith) (search rules) (search rules) (omega arith)
