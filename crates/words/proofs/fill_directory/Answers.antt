-- `words::fill_directory`: what the check leaves open; why it holds is said with the invariant. Assumes nothing.
use Prim.Native.Nat.{◌+◌}
use mathlib.Core.Path.{sym}
use native.Mathlib.Omega.{arith}
use Rattle.rules.specs.Bits.{ones_before}
use Rattle.rules.proofs.Overs.{over-table_none, over-table-next}
use Rattle.rules.proofs.Bits.{ones_before_none, ones_before-next, ones_before_up}
use Rattle.words.proofs.fill_directory.Goals as goal

pub loop-j-init : goal.loop-j-init
loop-j-init c = (sym (ones_before_none c.args.words.now), over-table_none _ _)

pub overflow_cast-directory : goal.overflow_cast-directory
overflow_cast-directory c = omega (arith, ones_before_up c.args.words.now c.loop-j.j c.args.count (omega arith))

pub overflow_add-before : goal.overflow_add-before
overflow_add-before c =
    let ws = c.args.words.now in
    let j = c.loop-j.j in
    omega (arith, ones_before-next ws j, ones_before_up ws (j + 1) c.args.count (omega arith))

pub loop-j-preserved : goal.loop-j-preserved
loop-j-preserved c =
    let ws = c.args.words.now in
    let inv = c.loop-j.invariant in
    (omega (arith, ones_before-next ws c.loop-j.j), rw (inv.0, inv.1) (over-table-next (ones_before ws) _ _ (omega arith)))
