-- `rows::join_pairs` meets its contract. The loop's invariant: j is among the unit's own pairs or right past them, and the row is the
-- greatest of what the pairs before j bring. A pair goes down, so what it brings stands in an earlier row. Assumes nothing.
use Rattle.rows.proofs.UnitPairs.{RowTo}
use Rattle.rows.proofs.join_pairs.Given as goal

abbrev pub invariant-loop-j : goal.invariant-loop-j
invariant-loop-j l = RowTo l.initial.work l.work l.needs l.k l.i l.j
