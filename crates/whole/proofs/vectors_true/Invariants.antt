-- `whole::vectors_true`: the rows before p are true, and `before` is the rank at the start of row p. Assumes nothing.
use Prim.Native.Nat.{ℕ, ◌<◌}
use mathlib.Core.Path.{◌≡◌}
use mathlib.Core.Bool.{true}
use Rattle.rules.specs.Ranges.{every}
use Rattle.rules.specs.Layout.{offset}
use Rattle.rules.specs.Bits.{rank}
use Rattle.rules.specs.Index.{lens_of}
use Rattle.whole.proofs.Vectors.{vector_true}
use Rattle.whole.proofs.vectors_true.Given as goal

abbrev pub invariant-loop-p : goal.invariant-loop-p
invariant-loop-p l = (l.before ≡ rank l.words (offset (lens_of l.lens) l.k l.p 0)) × ((p' : ℕ) → p' < l.p → every (vector_true (lens_of l.lens) l.k l.words p') l.k ≡ true)
