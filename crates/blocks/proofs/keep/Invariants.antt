-- `blocks::keep`: the bytes moved so far stand at the front, and the others are as they were.
-- Assumes nothing.
use Prim.Native.Nat.{◌+◌, ◌-◌, ◌≤◌}
use mathlib.Core.Path.{◌≡◌}
use lib.ListN.{length, take, drop}
use Rattle.rules.specs.Ranges.{over}
use Rattle.blocks.proofs.keep.Given as goal

abbrev pub invariant-loop-i : goal.invariant-loop-i
invariant-loop-i l = (l.bytes ≡ over l.initial.bytes (take l.i (drop l.from l.initial.bytes))) × (length l.bytes ≡ length l.initial.bytes) × (l.end ≤ length l.initial.bytes) × (l.from + l.i ≤ l.end)

abbrev pub decreases-loop-i : goal.decreases-loop-i
decreases-loop-i l = l.end - (l.from + l.i)
