-- `listing::first_from` meets its contract. The invariant: the pairs before a begin below u, and those from b on do not; a pair in the middle
-- tells of all before it or of all after it, since the pairs ascend. Assumes nothing.
use Prim.Native.Nat.{ℕ, ◌-◌, ◌/◌, ◌≤◌, ◌<◌}
use lib.ListN.{length}
use Rattle.rules.specs.Listing.{upper}
use Rattle.listing.proofs.first_from.Given as goal

abbrev pub invariant-loop-a : goal.invariant-loop-a
invariant-loop-a l = (l.a ≤ l.b) × (l.b ≤ length l.needs / 2) × ((j : ℕ) → j < l.a → upper l.needs j < l.u) × ((j : ℕ) → l.b ≤ j → j < length l.needs / 2 → l.u ≤ upper l.needs j)

abbrev pub decreases-loop-a : goal.decreases-loop-a
decreases-loop-a l = l.b - l.a
