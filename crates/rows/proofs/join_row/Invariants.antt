-- `rows::join_row` meets its contract. The loop's invariant: the first q entries of the row are joined. Row `from` stands before it, and
-- is as it was. Assumes nothing.
use Rattle.rows.specs.Rows.{RowIs}
use Rattle.rows.proofs.RowsWritten.{joined}
use Rattle.rows.proofs.join_row.Given as goal

abbrev pub invariant-loop-q : goal.invariant-loop-q
invariant-loop-q l = RowIs l.initial.work l.work l.to l.q (joined l.initial.work l.to l.from)
