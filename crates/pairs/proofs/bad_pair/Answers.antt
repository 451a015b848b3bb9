-- `pairs::bad_pair`: the call tells of pair i. Assumes nothing.
use Rattle.std.proofs.Common.{◌∙◌, sym, arith, below_more}
use Rattle.rules.specs.Listing.{bad_pair}
use Rattle.rules.proofs.Found.{found_at, none_found}
use Rattle.pairs.proofs.bad_pair.Goals as goal

pub returns-then-is_bad_pair : goal.returns-then-is_bad_pair
unfolding bad_pair
returns-then-is_bad_pair c =
    found_at (bad_pair c.args.n c.args.needs.now) _ _ (omega arith) c.loop-i.invariant (sym c.is_bad_pair.ensures ∙ c.if-is_bad_pair.true)

pub loop-i-preserved : goal.loop-i-preserved
unfolding bad_pair
loop-i-preserved c = below_more _ _ c.loop-i.invariant (sym c.is_bad_pair.ensures ∙ c.if-is_bad_pair.false)

pub returns : goal.returns
returns c = none_found (bad_pair c.args.n c.args.needs.now) _ (λ j h. c.loop-i.invariant j (omega arith))
