use Rattle.input.proofs.Writes.{latest_shows}
use Rattle.input.proofs.laws.latest_shows.Goals as goal

pub returns : goal.returns
returns c = latest_shows
