-- `feeding::has_line_feed`: the search from the first byte on finds what the definition says.
-- Assumes nothing.
use mathlib.Core.Path.{◌∙◌}
use Rattle.feeding.proofs.LineFeeds.{line_feed_found}
use Rattle.feeding.proofs.has_line_feed.Goals as goal

pub returns : goal.returns
returns c = c.contains.ensures.value ∙ line_feed_found c.args.bytes.now
