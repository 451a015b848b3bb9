-- `lists::unit_at` meets its contract. The loop's invariant: as many units of the track were seen as are among the first j, and position i,
-- unless it is 0, which no unit has, is still to come. Assumes nothing.
use Prim.Native.Nat.{◌<◌}
use mathlib.Core.Path.{◌≡◌}
use mathlib.Core.Logic.{◌⊎◌}
use Rattle.rules.specs.Listing.{in_track}
use Rattle.lists.proofs.unit_at.Given as goal

abbrev pub invariant-loop-j : goal.invariant-loop-j
invariant-loop-j l = (l.seen ≡ in_track l.tracks l.q l.j) × ((l.i ≡ 0) ⊎ (l.seen < l.i))
