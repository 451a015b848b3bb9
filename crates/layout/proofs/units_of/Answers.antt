-- `layout::units_of`: what the check leaves open; why it holds is said with the invariant. Assumes nothing.
use mathlib.Core.Path.{sym}
use native.Mathlib.Omega.{arith}
use lib.Seq.{get_or-take}
use Rattle.rules.specs.Index.{lens_of}
use Rattle.rules.proofs.Ranges.{sum_none, sum-next}
use Rattle.layout.proofs.units_of.Goals as goal

pub loop-len-init : goal.loop-len-init
loop-len-init c = (sym (sum_none _), omega arith)

pub loop-len-preserved : goal.loop-len-preserved
loop-len-preserved c =
    let lens = c.args.lens.now in
    let i = c.loop-len.len-index in
    (omega (arith, sum-next (lens_of lens) i, get_or-take c.args.k lens i 0 (omega arith)), omega arith)
