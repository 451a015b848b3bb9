-- `build::fill_words` meets its contract. After i turns the words have the ones of the first i units and no other. Assumes nothing.
use lib.ListN.{length}
use Rattle.rules.specs.Listing.{listing}
use Rattle.build.proofs.Ones.{Filled}
use Rattle.build.proofs.fill_words.Given as goal

abbrev pub invariant-loop-i : goal.invariant-loop-i
invariant-loop-i l = Filled (listing (length l.tracks) l.k l.tracks l.needs) l.words l.i
