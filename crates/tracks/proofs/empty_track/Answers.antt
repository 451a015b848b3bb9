-- `tracks::empty_track`: the first length of 0 among the first k. Assumes nothing.
use Rattle.std.proofs.Common.{rules, ◌∙◌, eqb, arith, take}
use Rattle.std.proofs.lemmas.Iterator.{YieldsList-from_slice}
use Rattle.std.proofs.lemmas.Iterator.Search.{position_from_yields_List}
use borrow.Author.Tests.{tests}
use Rattle.tracks.proofs.Positions.{position_found}
use Rattle.tracks.proofs.empty_track.Goals as goal

pub returns : goal.returns
returns c =
    position_from_yields_List (λ len. eqb len 0) _ _ _ c.position.ensures.ran (YieldsList-from_slice (take c.args.k c.args.lens.now) cc) (λ x b q k. search (rules, tests))
    ∙ position_found (λ len. eqb len 0) c.args.lens.now c.args.k (omega arith)
