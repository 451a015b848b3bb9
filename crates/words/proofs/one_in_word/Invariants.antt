-- `words::one_in_word`: the bits that are left are halved, from 64 to 1. Assumes nothing.
use Prim.Native.Nat.{◌-◌, ◌^◌}
use Rattle.words.specs.Words.{Seeks}
use Rattle.words.proofs.one_in_word.Given as goal

abbrev pub invariant-loop-width : goal.invariant-loop-width
invariant-loop-width l = Seeks l.w l.i l.part (2 ^ (6 - l.width-index))
