use Rattle.std.proofs.Common.{rules}
use Rattle.checker.proofs.RefutedLaws.{refute_cases}
use Rattle.checker.proofs.refuted.refute.Goals as goal

pub steps_until_qed-requires : goal.steps_until_qed-requires
steps_until_qed-requires c = search (rules, refute_cases)
