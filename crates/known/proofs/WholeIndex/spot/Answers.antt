-- A unit of the index stands in its track. Assumes nothing.
use Rattle.known.proofs.Asking.{standing_of}
use Rattle.known.proofs.WholeIndex.spot.Goals as goal

pub returns-clause-stands : goal.returns-clause-stands
returns-clause-stands c = rw c.spot.ensures (standing_of c.args.self.now.sure c.requires.unit_of)
