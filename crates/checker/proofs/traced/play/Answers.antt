use Rattle.checker.proofs.TracedLaws.{starts_stand, replay_here, plays}
use Rattle.checker.proofs.traced.play.Goals as goal

pub initialise-requires : goal.initialise-requires
initialise-requires c =
    starts_stand c.args.l c.args.s c.args.c.now c.args.h c.args.inputs.now c.args.coils.now c.args.stack.now c.requires _ c.clear-2.ensures _ c.starts_of.ensures

pub replay-requires : goal.replay-requires
replay-requires c =
    replay_here c.args.l c.args.s c.args.c.now c.args.h c.args.inputs.now c.args.coils.now c.args.stack.now c.requires _ c.clear-2.ensures _ c.starts_of.ensures
    _ c.initialise.ensures c.initialise.auto.coils _ c.clear.ensures

pub returns : goal.returns
returns c =
    plays c.args.l c.args.s c.args.c.now c.args.h c.args.inputs.now c.args.coils.now c.args.stack.now _ c.clear-2.ensures _ c.starts_of.ensures
    _ c.initialise.ensures c.initialise.auto.coils _ c.clear.ensures _ _ _ _ c.replay.ensures
