-- `pairs::bad_pair`: no pair before i is bad. Assumes nothing.
use Rattle.std.proofs.Common.{◌≡◌, ℕ, ◌<◌, false}
use Rattle.rules.specs.Listing.{bad_pair}
use Rattle.pairs.proofs.bad_pair.Given as goal

abbrev pub invariant-loop-i : goal.invariant-loop-i
invariant-loop-i l = (j : ℕ) → j < l.i → bad_pair l.n l.needs j ≡ false
