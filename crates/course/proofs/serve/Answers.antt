-- `course::serve`: the first turn comes before any byte was read, and a turn goes on from there only where more is to be read.
-- Assumes nothing.
use Rattle.std.proofs.Common.{arith, rules}
use Rattle.course.proofs.Betweens.{carrying_fresh, carrying_next, nearer}
use Rattle.course.proofs.Served.{served_writes}
use Rattle.course.proofs.serve.Goals as goal

pub loop-feeding-init : goal.loop-feeding-init
loop-feeding-init g c =
    record { carrying = rw c.start.ensures (carrying_fresh _ _ c.requires.room); same = search rules; lengths = search rules; block = c.requires.in_bounds.0; room = c.requires.in_bounds.1 }

pub loop-feeding-smaller : goal.loop-feeding-smaller
loop-feeding-smaller g c =
    let i = c.loop-feeding.invariant in
    nearer i.carrying.serving c.loop-feeding-test.true c.turn-feeding.ensures.turned i.room c.turn-feeding.auto.bytes

pub loop-feeding-preserved : goal.loop-feeding-preserved
loop-feeding-preserved g c =
    let i = c.loop-feeding.invariant in
    let t = c.turn-feeding in
    record {
      carrying = carrying_next i.carrying c.loop-feeding-test.true t.ensures.moved i.room;
      same = search rules;
      lengths = search rules;
      block = omega (arith, i.block, t.auto.bytes);
      room = omega (arith, i.room, t.auto.out);
    }

pub returns-clause-led_to : goal.returns-clause-led_to
returns-clause-led_to g c = c.loop-feeding.invariant.carrying.serving.reached

pub returns-clause-written : goal.returns-clause-written
returns-clause-written g c = served_writes _ _ _ _ c.loop-feeding.invariant.carrying c.loop-feeding-test.false
