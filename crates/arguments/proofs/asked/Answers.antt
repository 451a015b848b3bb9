-- `arguments::asked`: an index judged whole is its parts. Assumes nothing.
use mathlib.Core.Path.{◌∙◌}
use Rattle.rules.specs.Lent.{lent_index}
use Rattle.arguments.proofs.Granted.{judged_sure, judged_parts}
use Rattle.arguments.proofs.asked.Goals as goal

pub new-requires : goal.new-requires
new-requires c = record { sure = rw c.from.ensures (judged_sure (lent_index c.args.index.now) _ c.requires) }

pub returns-clause-index : goal.returns-clause-index
returns-clause-index c = rw c.from.ensures at c.new.ensures.index ∙ judged_parts (lent_index c.args.index.now) _ c.requires
