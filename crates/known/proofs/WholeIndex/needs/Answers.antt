-- `known::WholeIndex::needs`: low of u in the track of v is what kind 10 reads. Assumes nothing.
use Rattle.rules.specs.Questions.{kind10_by}
use Rattle.known.proofs.WholeIndex.needs.Goals as goal

pub returns : goal.returns
unfolding kind10_by
returns c = rw (c.spot.ensures.place, c.spot-2.ensures.place) at c.reaches.ensures
