-- `tracks::track_lengths` meets its contract. The invariant: entry q is the count of the units so far in track q. Assumes nothing.
use Prim.Native.Nat.{ℕ, ◌<◌}
use mathlib.Core.Path.{◌≡◌}
use lib.ListN.{length, get_or}
use Rattle.rules.specs.Listing.{in_track}
use Rattle.tracks.proofs.track_lengths.Given as goal

abbrev pub invariant-loop-q : goal.invariant-loop-q
invariant-loop-q l = (length l.lens ≡ 32) × ((q : ℕ) → q < 32 → get_or l.lens q 0 ≡ in_track l.tracks q l.q-index)
