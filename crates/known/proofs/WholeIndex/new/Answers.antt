-- What is known of the vectors of an index that is whole. Assumes nothing.
use Rattle.known.proofs.Asking.{known_of}
use Rattle.known.proofs.WholeIndex.new.Goals as goal

pub invariant_of-result : goal.invariant_of-result
invariant_of-result c = record { known = known_of c.requires.sure }
