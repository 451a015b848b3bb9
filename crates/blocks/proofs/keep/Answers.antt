-- `blocks::keep`: the next byte to be moved is as it was, and so it is set behind those that were moved.
-- Assumes nothing.
use Rattle.std.proofs.Common.{◌+◌, ◌<◌, length, refl, rules, arith}
use Rattle.rules.proofs.Overs.{over_none}
use Rattle.blocks.proofs.Refills.{moved_next}
use Rattle.blocks.proofs.keep.Goals as goal

pub loop-i-init : goal.loop-i-init
loop-i-init c = (over_none _, refl, search rules, search rules)

pub loop-i-preserved : goal.loop-i-preserved
loop-i-preserved c =
    let l = c.loop-i in
    let inside : c.args.from + l.i < length c.args.bytes.now = omega arith in
    (rw l.invariant.0 (moved_next c.args.bytes.now c.args.from l.i inside), search rules, search rules, search rules)
