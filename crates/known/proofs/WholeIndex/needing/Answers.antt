-- `known::WholeIndex::needing`: in each track the units from high up to the last are the needing ones. Assumes nothing.
use mathlib.Core.Path.{◌≡◌, ap, ◌∙◌}
use Rattle.rules.specs.Outcomes.{list_room, list_answer}
use Rattle.known.specs.Lent.{index_of}
use Rattle.known.proofs.Asking.{highs_of, highs_held, highs_spanned}
use Rattle.known.proofs.WholeIndex.needing.Goals as goal
use Rattle.known.proofs.WholeIndex.needing.Goals.{After-highs}

highs_are : (c : After-highs) → c.highs.result ≡ highs_of (index_of c.args.self.now) c.args.u
highs_are c = rw c.spot.ensures.place at c.highs.ensures

pub answer_list-requires-clause-held : goal.answer_list-requires-clause-held
answer_list-requires-clause-held c =
    rw (highs_are (goal.at.answer_list-requires-clause-held c).After-highs) (highs_held c.args.self.now.sure c.requires.unit_of)

pub returns : goal.returns
returns c =
    c.answer_list.ensures
    ∙ ap (λ units. list_answer (list_room units c.args.list.now c.args.place) units c.args.list.now c.args.place)
    (rw (highs_are (goal.at.returns c).After-highs) (highs_spanned c.args.self.now.sure c.requires.unit_of))
