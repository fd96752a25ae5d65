use Rattle.ladder.proofs.CallerLaws.{was_meant}
use Rattle.ladder.proofs.scan_means.Goals as goal

pub returns : goal.returns
returns c = was_meant
