-- `layout::units_of`: after some turns the units of as many tracks are summed. Assumes nothing.
use Prim.Native.Nat.{◌*◌, ◌≤◌}
use mathlib.Core.Path.{◌≡◌}
use Rattle.rules.specs.Ranges.{sum}
use Rattle.rules.specs.Index.{lens_of}
use Rattle.layout.proofs.units_of.Given as goal

abbrev pub invariant-loop-len : goal.invariant-loop-len
invariant-loop-len l = (l.units ≡ sum (lens_of l.lens) l.len-index) × (l.units ≤ 65536 * l.len-index)
