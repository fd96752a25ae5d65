use Rattle.refutation.proofs.StepLaws.{no_first, no_second, stepped}
use Rattle.refutation.proofs.SlotLaws.{pair_of}
use Rattle.refutation.proofs.step.Goals as goal

pub returns-in_default : goal.returns-in_default
returns-in_default c = no_first _ _ _ _ _ _ c.in_default.ensures

pub returns-in_default-locate : goal.returns-in_default-locate
returns-in_default-locate c = no_second _ _ _ _ _ _ c.in_default-locate.ensures

pub pivoted-requires : goal.pivoted-requires
pivoted-requires c = pair_of _ _ _ _ _ _ _ _ _ _ c.requires c.slot-at.ensures c.in-Some.ensures c.in-Some-locate.ensures

pub returns : goal.returns
returns c = stepped _ _ _ _ _ _ c.requires _ c.slot-at.ensures _ _ c.in-Some.ensures c.in-Some-locate.ensures _ c.pivoted.auto.work _ c.pivoted.ensures
