-- `pairs::pairs_verdict`: refusal 4 over all pairs stands before refusal 5 over all pairs, as in the definition. Assumes nothing.
use Rattle.std.proofs.Common.{sym, ◌∙◌}
use Rattle.rules.specs.declared.Refusal.TheVariants.{BadPair, PairOrder}
use Rattle.rules.specs.Listing.{bad_pair, out_of_order, pairs_verdict}
use Rattle.rules.proofs.Verdicts.{fine_then, refused_then}
use Rattle.rules.proofs.Found.{refuse_found, refuse_not_found}
use Rattle.pairs.proofs.pairs_verdict.Goals as goal

pub returns-in-Some : goal.returns-in-Some
unfolding pairs_verdict
returns-in-Some c = sym (refused_then _ (refuse_found (bad_pair c.args.n c.args.needs.now) _ BadPair c.in-Some.ensures))

pub returns-in-Some-pair_out_of_order : goal.returns-in-Some-pair_out_of_order
unfolding pairs_verdict
returns-in-Some-pair_out_of_order c =
    sym (fine_then _ (refuse_not_found (bad_pair c.args.n c.args.needs.now) _ BadPair c.in_default.ensures)
    ∙ refuse_found (out_of_order c.args.needs.now) _ PairOrder c.in-Some-pair_out_of_order.ensures)

pub returns : goal.returns
unfolding pairs_verdict
returns c =
    sym (fine_then _ (refuse_not_found (bad_pair c.args.n c.args.needs.now) _ BadPair c.in_default.ensures)
    ∙ refuse_not_found (out_of_order c.args.needs.now) _ PairOrder c.in_default-pair_out_of_order.ensures)
