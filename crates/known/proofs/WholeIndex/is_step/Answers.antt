-- `known::WholeIndex::is_step`: a unit that u needs is a direct step where no unit at a low of u needs it. Assumes nothing.
use mathlib.Core.Path.{◌≡◌, sym, ◌∙◌}
use Rattle.rules.specs.Questions.{kind10_by, kind10}
use Rattle.known.specs.Lent.{index_of}
use Rattle.known.proofs.Asking.{step_yes, step_no}
use Rattle.known.proofs.WholeIndex.is_step.Goals as goal
use Rattle.known.proofs.WholeIndex.is_step.Goals.{After-reaches}

-- whether u needs v
reached : (c : After-reaches) → c.reaches.result ≡ kind10 (index_of c.args.self.now) c.args.u c.args.v
unfolding kind10_by
reached c = rw (c.spot-a.ensures.place, c.spot-b.ensures.place) at c.reaches.ensures

pub returns-else-reaches : goal.returns-else-reaches
returns-else-reaches c =
    let no = c.if-reaches.false in
    no ∙ sym (step_no (index_of c.args.self.now) c.args.u c.args.v (sym (reached (goal.at.returns-else-reaches c).After-reaches) ∙ no))

pub returns-then-reaches : goal.returns-then-reaches
returns-then-reaches c =
    let none = rw (c.spot-a.ensures.place, c.spot-b.ensures.place) at c.none_between.ensures in
    none ∙ sym (step_yes c.args.self.now.sure c.requires.unit_of c.requires.unit_of_2 (sym (reached (goal.at.returns-then-reaches c).After-reaches) ∙ c.if-reaches.true))
