-- `blocks::fill`: only what stands behind the bytes that are there is lent to the read.
-- Assumes nothing.
use Rattle.std.proofs.Common.{rules}
use Rattle.std.proofs.lemmas.Slice.{between-put_mid}
use Rattle.blocks.proofs.Refills.{filled_in, read_taken, read_at_end}
use Rattle.blocks.proofs.fill.Goals as goal

pub returns-clause-filled : goal.returns-clause-filled
returns-clause-filled g c = rw c.after_read.ensures (filled_in _ c.args.have _ (search rules))

pub returns-clause-taken : goal.returns-clause-taken
returns-clause-taken g c =
    let r = c.read-got in
    rw c.after_read.ensures (read_taken c.args.have _ r.new.buf _ _ (search rules) r.result r.ensures.bound r.ensures.bytes _ (search (rules, between-put_mid)))

pub returns-clause-at_end : goal.returns-clause-at_end
returns-clause-at_end g c =
    let r = c.read-got in
    rw c.after_read.ensures (read_at_end c.args.have _ r.new.buf _ _ (search rules) r.result r.ensures.bound r.ensures.bytes)
