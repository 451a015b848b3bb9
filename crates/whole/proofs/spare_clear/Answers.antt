-- `whole::spare_clear`: the spare bits are the top of the last word, by `spare_last`. Assumes nothing.
use mathlib.Core.Path.{sym, ◌∙◌}
use borrow.Author.Tests.{eq-eqb}
use Rattle.whole.proofs.SpareBits.{spare_none, spare_last}
use Rattle.whole.proofs.spare_clear.Goals as goal

pub returns-then-bits-eq0 : goal.returns-then-bits-eq0
returns-then-bits-eq0 c = eq-eqb _ 0 c.if-bits-eq0.true ∙ sym (spare_none _ _ c.if-bits-eq0.true)

pub returns-else-bits-eq0 : goal.returns-else-bits-eq0
returns-else-bits-eq0 c = spare_last _ _ (λ j. (c.type_inv.words j).fits) c.if-bits-eq0.false
