-- `whole::row_true`: the vectors before p,q are true, `end` is where p,q starts and `ones` its rank; so the rank at the end of p,q
-- tells whether it is true. Assumes nothing.
use Prim.Native.Nat.{ℕ, ◌<◌}
use mathlib.Core.Path.{◌≡◌}
use mathlib.Core.Bool.{true}
use Rattle.rules.specs.Layout.{offset}
use Rattle.rules.specs.Bits.{rank}
use Rattle.rules.specs.Index.{lens_of}
use Rattle.whole.proofs.Vectors.{vector_true}
use Rattle.whole.proofs.row_true.Given as goal

abbrev pub invariant-loop-q : goal.invariant-loop-q
invariant-loop-q l = (l.end ≡ offset (lens_of l.lens) l.k l.p l.q) × (l.ones ≡ rank l.words l.end) × ((q' : ℕ) → q' < l.q → vector_true (lens_of l.lens) l.k l.words l.p q' ≡ true)
