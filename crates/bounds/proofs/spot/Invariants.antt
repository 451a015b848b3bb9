-- `bounds::spot`: the units of the track are counted as far as the walk has come. Assumes nothing.
use mathlib.Core.Path.{◌≡◌}
use Rattle.rules.specs.Listing.{in_track}
use Rattle.bounds.proofs.spot.Given as goal

abbrev pub invariant-loop-other : goal.invariant-loop-other
invariant-loop-other l = l.at ≡ in_track l.tracks l.track l.other-index
