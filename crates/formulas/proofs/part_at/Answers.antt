use Rattle.std.proofs.Common.{◌∙◌}
use Rattle.formulas.proofs.PartLaws.{part_other}
use Rattle.formulas.proofs.part_at.Goals as goal

pub returns-in_default-kind : goal.returns-in_default-kind
returns-in_default-kind c =
    let o = c.in_default-kind in
    part_other _ c.in-Ok.kind (c.in-Ok.ensures ∙ c.byte_at.ensures) o.not-Input o.not-Coil o.not-Constant o.not-Not o.not-And o.not-Or
