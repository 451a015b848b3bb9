-- `whole::lengths_true`: after q turns it is known whether the first q lengths are right. Assumes nothing.
use mathlib.Core.Path.{◌≡◌}
use Rattle.rules.specs.Ranges.{every}
use Rattle.whole.proofs.Lengths.{length_true}
use Rattle.whole.proofs.lengths_true.Given as goal

abbrev pub invariant-loop-q : goal.invariant-loop-q
invariant-loop-q l = l.right ≡ every (length_true l.lens l.k l.tracks) l.q
