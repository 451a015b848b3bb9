-- `known::WholeIndex::needed`: in each track the units from the first up to low are the needed ones. Assumes nothing.
use mathlib.Core.Path.{◌≡◌, ap, ◌∙◌}
use Rattle.rules.specs.Outcomes.{list_room, list_answer}
use Rattle.known.specs.Lent.{index_of}
use Rattle.known.proofs.Asking.{lows_of, lows_held, lows_spanned}
use Rattle.known.proofs.WholeIndex.needed.Goals as goal
use Rattle.known.proofs.WholeIndex.needed.Goals.{After-lows}

lows_are : (c : After-lows) → c.lows.result ≡ lows_of (index_of c.args.self.now) c.args.u
lows_are c = rw c.spot.ensures.place at c.lows.ensures

pub answer_list-requires-clause-held : goal.answer_list-requires-clause-held
answer_list-requires-clause-held c =
    rw (lows_are (goal.at.answer_list-requires-clause-held c).After-lows) (lows_held c.args.self.now.sure c.requires.unit_of)

pub returns : goal.returns
returns c =
    c.answer_list.ensures
    ∙ ap (λ units. list_answer (list_room units c.args.list.now c.args.place) units c.args.list.now c.args.place)
    (rw (lows_are (goal.at.returns c).After-lows) (lows_spanned c.args.self.now.sure c.requires.unit_of))
