-- `tracks::bad_track`: where the greatest entry is below k, there is no first of k or more. Assumes nothing.
use Rattle.std.proofs.Common.{rules, ℕ, ◌≤◌, ◌<◌, ◌∙◌, length, get_or, leb, arith}
use Rattle.std.proofs.lemmas.Iterator.{YieldsList-from_slice}
use Rattle.std.proofs.lemmas.Iterator.Search.{position_from_yields_List}
use borrow.Author.Tests.{lt-leb, tests}
use Rattle.rules.proofs.Found.{none_found}
use Rattle.tracks.proofs.Positions.{position_found_all}
use Rattle.tracks.proofs.bad_track.Goals as goal

pub returns-then-greatest-k : goal.returns-then-greatest-k
returns-then-greatest-k c =
    let most : (i : ℕ) → i < length c.args.tracks.now → get_or c.args.tracks.now i 0 ≤ c.in_ok-greatest.greatest = search rules in
    none_found _ _ (λ i l. lt-leb _ _ (omega (arith, most i l)))

pub returns : goal.returns
returns c =
    position_from_yields_List (λ q. leb c.args.k q) _ _ _ c.position.ensures.ran (YieldsList-from_slice c.args.tracks.now cc) (λ x b q k. search (rules, tests))
    ∙ position_found_all (λ q. leb c.args.k q) c.args.tracks.now
