-- `solving::places_lose_nothing` meets its contract: the theorem, as PlaceLaws proves it.
-- Assumes nothing.
use Rattle.solving.proofs.PlaceLaws.{places_lose_nothing}
use Rattle.solving.proofs.places_lose_nothing.Goals as goal

pub returns : goal.returns
returns c = places_lose_nothing
