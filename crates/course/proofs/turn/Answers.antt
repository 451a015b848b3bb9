-- `course::turn`: what waits is refilled, and what the card is fed with is that. Where the read failed nothing was fed.
-- Assumes nothing.
use Rattle.std.proofs.Common.{◌≡◌, ◌≤◌, ◌-◌, Bool, List, ℕ, length, arith}
use Rattle.reading.specs.Card.{Reading}
use Rattle.reading.specs.Held.{Areas, held, reading_of}
use Rattle.feeding.specs.declared.Fed.{Fed}
use Rattle.feeding.specs.Feeding.{FedTo}
use Rattle.feeding.proofs.Feeds.{over_in}
use Rattle.course.proofs.Betweens.{used_in, turned_fed, moved_fed, moved_failed}
use Rattle.course.proofs.turn.Goals as goal

-- what was printed lies in the output area
wrote_in : {r : Reading} {bytes out out' : List ℕ} {ended : Bool} {given : Fed} {a' : Areas}
    → FedTo r bytes ended out given a' out' → length out' ≡ length out → given.wrote ≤ length out'
wrote_in took same = omega (arith, took.wrote_is, over_in _ _ took.out_is same, same)

pub print-written-requires : goal.print-written-requires
print-written-requires g c = omega (arith, wrote_in c.feed-fed.ensures.fed c.feed-fed.auto.out)

pub overflow_add-result : goal.overflow_add-result
overflow_add-result g c =
    let r = reading_of c.args.feeding.card (held c.args.areas.now) in
    let w = c.in-Ok in
    record {
      fits = omega (
        arith,
        used_in r c.refill.new.bytes w.waiting.from (length c.args.out.now - 20) w.ensures.refilled.end_in c.feed-fed.ensures.fed.used_is,
        w.ensures.refilled.start_in,
        w.ensures.refilled.end_in,
        c.refill.auto.bytes,
      );
    }

pub returns-clause-turned : goal.returns-clause-turned
returns-clause-turned g c =
    let a = held c.args.areas.now in
    turned_fed c.args.feeding a c.in-Ok.ensures.refilled c.feed-fed.ensures.fed c.feed-fed.auto.out c.print-written.result _ (grind arith)

pub returns-clause-moved : goal.returns-clause-moved
returns-clause-moved g c =
    let a = held c.args.areas.now in
    let w = c.in-Ok in
    moved_fed c.args.feeding a w.ensures.refilled c.feed-fed.ensures.fed c.feed-fed.auto.out c.print-written.result _ (grind arith)
    c.requires.from_le_end.1 w.ensures.taken w.ensures.at_end c.print-written.ensures

pub returns-in_default-clause-moved : goal.returns-in_default-clause-moved
returns-in_default-clause-moved g c =
    let a = held c.args.areas.now in
    moved_failed c.args.feeding a c.args.out.now c.in_default.ensures.refilled c.requires.fit c.in_default.ensures.taken
