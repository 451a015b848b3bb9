-- `rows::own_low` meets its contract. The loop's invariant: j is among the unit's own pairs or right past them, and with what the pairs
-- before j bring, low is what they all bring. Assumes nothing.
use Rattle.rows.proofs.UnitPairs.{LowTo}
use Rattle.rows.proofs.own_low.Given as goal

abbrev pub invariant-loop-j : goal.invariant-loop-j
invariant-loop-j l = LowTo l.work l.needs l.k l.i l.p l.low l.j
