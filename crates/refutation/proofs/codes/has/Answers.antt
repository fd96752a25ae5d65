use Rattle.std.proofs.Common.{rules, tests, eqb, ◌∙◌}
use Rattle.std.proofs.lemmas.Iterator.{YieldsList-from_slice}
use Rattle.std.proofs.lemmas.Iterator.Search.{any_from_yields_List}
use Rattle.refutation.specs.Memory.{part}
use Rattle.refutation.proofs.PartLaws.{ranged, any_one}
use Rattle.refutation.proofs.codes.has.Goals as goal

pub returns : goal.returns
returns c =
    any_from_yields_List (eqb c.args.code) _ _ c.any.result c.any.ensures.ran
    (YieldsList-from_slice (part c.args.work.now c.args.spot.start c.args.spot.count) (c.iter.ensures.rest ∙ ranged c.args.work.now c.args.spot.start c.args.spot.count))
    (λ x b q k. search (rules, tests))
    ∙ any_one (part c.args.work.now c.args.spot.start c.args.spot.count) c.args.code
