-- `listing::part_verdict` meets its contract: the three checks stand in the order of the definition. Assumes nothing.
use mathlib.Core.Path.{sym, ◌∙◌}
use native.Mathlib.Omega.{arith}
use Rattle.rules.specs.declared.Refusal.TheVariants.{OutOfLimits, BadArgument}
use Rattle.rules.specs.Listing.{counted_needs}
use Rattle.rules.specs.Outcomes.{part_verdict}
use Rattle.rules.proofs.Verdicts.{is_within, not_within, fine_then, refused_then, fine_unless, refused-unless}
use Rattle.rules.proofs.Accepted.{counted_is}
use Rattle.listing.proofs.part_verdict.Goals as goal

pub returns-then-unit-eq0 : goal.returns-then-unit-eq0
unfolding part_verdict
returns-then-unit-eq0 c =
    sym (refused_then _ (refused-unless (BadArgument 1) (not_within 1 1024 c.args.unit (grind arith))))

pub returns-then-not-counted : goal.returns-then-not-counted
unfolding part_verdict
returns-then-not-counted c =
    sym (fine_then _ (fine_unless (BadArgument 1) (is_within {a = 1} {b = 1024} {x = c.args.unit} (omega arith) (omega arith)))
    ∙ refused_then _ (refused-unless {b = counted_needs c.args.needs.now} OutOfLimits (cc)))

pub pairs_verdict-requires : goal.pairs_verdict-requires
pairs_verdict-requires c = (counted_is c.args.needs.now (cc)).1

pub returns : goal.returns
unfolding part_verdict
returns c =
    c.pairs_verdict.ensures
    ∙ sym (fine_then _ (fine_unless (BadArgument 1) (is_within {a = 1} {b = 1024} {x = c.args.unit} (omega arith) (omega arith)))
    ∙ fine_then _ (fine_unless OutOfLimits (cc)))
