-- `build::set_ones` meets its contract. After q turns the ones of the first q vectors of the row are set, and off is the first bit of the
-- next. Each place lies in its vector, so within the words. Assumes nothing.
use Prim.Native.Nat.{◌≤◌}
use mathlib.Core.Path.{◌≡◌}
use Rattle.rules.specs.Layout.{offset}
use Rattle.rules.specs.Index.{lens_of}
use Rattle.build.specs.Ones.{OnesSet}
use Rattle.build.proofs.set_ones.Given as goal

abbrev pub invariant-loop-q : goal.invariant-loop-q
invariant-loop-q l = (l.q ≤ l.k) × (l.off ≡ offset (lens_of l.lens) l.k l.p l.q) × OnesSet (lens_of l.lens) l.k l.work l.p l.i l.q l.initial.words l.words
