-- The track list is one of at most 32 tracks. Assumes nothing.
use Rattle.lists.proofs.Units.{tracks_wide}
use Rattle.known.proofs.Asking.{tracks_of}
use Rattle.known.proofs.WholeIndex.highest_step.Goals as goal

pub last_unit-requires-clause-tracks : goal.last_unit-requires-clause-tracks
last_unit-requires-clause-tracks c = tracks_wide (tracks_of c.args.self.now.sure)
