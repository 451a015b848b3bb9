-- `whole::directory_true`: as long as the entries before j are true, entry j is true exactly when it is the one before it and the ones of the
-- word between. Assumes nothing.
use mathlib.Core.Path.{◌≡◌}
use lib.ListN.{get_or}
use lib.Dec.{eqb}
use Rattle.rules.specs.Ranges.{every}
use Rattle.rules.specs.Bits.{ones_before}
use Rattle.whole.proofs.directory_true.Given as goal

abbrev pub invariant-loop-j : goal.invariant-loop-j
invariant-loop-j l = l.right ≡ every (λ j. eqb (get_or l.directory j 0) (ones_before l.words j)) l.j
