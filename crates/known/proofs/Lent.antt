-- What is known of the track list of a whole index that is lent. Assumes nothing.
use Rattle.lists.specs.Spans.{Tracks}
use Rattle.known.specs.declared.WholeIndex.{WholeIndex}
use Rattle.known.proofs.Asking.{tracks_of}

pub lent_tracks : (w : WholeIndex) → Tracks w.tracks.now w.vectors.k
lent_tracks w = tracks_of w.sure
