-- `rows::fill_rows` meets its contract. The loop's invariant: the rows of the units so far hold what a hop to them brings, `seen` counts
-- the units so far of each track, and j is the first pair of a unit past them. Assumes nothing.
use lib.ListN.{length}
use Rattle.rules.specs.Listing.{listing}
use Rattle.rows.proofs.Reaches.{RowsFilled}
use Rattle.rows.proofs.fill_rows.Given as goal

abbrev pub invariant-loop-i : goal.invariant-loop-i
invariant-loop-i l = RowsFilled (listing (length l.tracks) l.k l.tracks l.needs) l.work l.seen l.j l.i
