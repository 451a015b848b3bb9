-- `pairs::pair_out_of_order`: no pair before i is out of order. Assumes nothing.
use Rattle.std.proofs.Common.{◌≡◌, ℕ, ◌<◌, false}
use Rattle.rules.specs.Listing.{out_of_order}
use Rattle.pairs.proofs.pair_out_of_order.Given as goal

abbrev pub invariant-loop-i : goal.invariant-loop-i
invariant-loop-i l = (j : ℕ) → j < l.i → out_of_order l.needs j ≡ false
