-- `rows::fill_rows`: what the check leaves open; why it holds is said with the invariant. Assumes nothing.
use native.Mathlib.Omega.{arith}
use lib.ListN.{get_or}
use Rattle.rules.proofs.Tracks.{in_le}
use Rattle.rows.proofs.Reaches.{rows_filled_start, rows_filled_next, rows_filled_all}
use Rattle.rows.proofs.fill_rows.Goals as goal

pub loop-i-init : goal.loop-i-init
loop-i-init c = rows_filled_start c.requires.accepted c.args.work.now c.requires.work_len

pub overflow_add-seen : goal.overflow_add-seen
overflow_add-seen c =
    let p = get_or c.args.tracks.now c.loop-i.i 0 in
    let a = c.requires.accepted in
    rw c.from-p.ensures (omega (arith, c.loop-i.invariant.seen_are p (omega (arith, a.tracks_below c.loop-i.i (omega arith))), in_le c.args.tracks.now p c.loop-i.i))

pub loop-i-preserved : goal.loop-i-preserved
loop-i-preserved c =
    rw c.from-p.ensures (rows_filled_next c.requires.accepted _ c.loop-i.invariant (omega arith) c.clear_row.ensures c.join_pairs-j.ensures.row_is c.join_pairs-j.ensures.value)

pub returns : goal.returns
returns c = rows_filled_all c.requires.accepted c.loop-i.invariant (omega arith)
