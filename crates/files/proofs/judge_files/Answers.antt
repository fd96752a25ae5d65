use Rattle.std.proofs.Common.{sym}
use Rattle.files.proofs.FilesLaws.{checked}
use Rattle.files.proofs.judge_files.Goals as goal

pub returns : goal.returns
returns c = checked _ _ _ _ _ (sym c.if-too_long.ensures) c.check.ensures.answered c.check.ensures.left
