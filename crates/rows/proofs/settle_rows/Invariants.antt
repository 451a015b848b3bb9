-- `rows::settle_rows` meets its contract. The loop's invariant: the rows of the first i units are as they were filled, those past them are
-- settled, j is the first pair past the first i units, and bad is the first unsound unit from the i-th on. Assumes nothing.
use lib.ListN.{length}
use Rattle.rules.specs.Listing.{listing}
use Rattle.rows.proofs.Lows.{RowsSettled}
use Rattle.rows.proofs.settle_rows.Given as goal

abbrev pub invariant-loop-i : goal.invariant-loop-i
invariant-loop-i l = RowsSettled (listing (length l.tracks) l.k l.tracks l.needs) l.work l.bad l.j l.i
