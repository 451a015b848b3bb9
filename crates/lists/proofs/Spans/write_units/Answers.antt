-- As long as the count falls short, a unit is to come, its track is one of 32, and what was seen of that tells whether the unit is in the
-- spans; the list has room for as many as the count.
use Prim.Native.Nat.{◌+◌, ◌<◌}
use mathlib.Core.Path.{◌≡◌, refl, sym, ◌∙◌}
use native.Mathlib.Omega.{arith}
use lib.ListN.{length, get_or}
use Rattle.lists.specs.Spans.{in_spans}
use Rattle.lists.proofs.Units.{seen_none, seen_le, seen_next, spans_seen, written_none, written_more, written_all, written_yes, written_no}
use Rattle.lists.proofs.Spans.write_units.Goals as goal
use Rattle.lists.proofs.Spans.write_units.Goals.{then-holds, else-holds}

pub loop-done-init : goal.loop-done-init
loop-done-init c = (omega arith, seen_none _, written_none _ _ _ _)

pub next-at-requires : goal.next-at-requires
next-at-requires c =
    let i = c.loop-done.invariant in
    let more : c.loop-done.i < length c.args.tracks.now = written_more _ _ _ _ i.2 (length c.args.tracks.now) i.0 (omega arith) in
    let few : get_or c.args.tracks.now c.loop-done.i 0 < 32 = c.requires.tracks.each c.loop-done.i more in
    (omega arith, omega (arith, seen_le i.1 c.from-q.result (omega arith)))

pub loop-done-preserved : goal.loop-done-preserved
loop-done-preserved c =
    let a = c.args in
    let i = c.loop-done.invariant in
    let more : c.loop-done.i < length a.tracks.now = written_more _ _ _ _ i.2 (length a.tracks.now) i.0 (omega arith) in
    let few : get_or a.tracks.now c.loop-done.i 0 < 32 = c.requires.tracks.each c.loop-done.i more in
    let test : in_spans a.self.now.from a.self.now.to a.tracks.now (c.loop-done.i + 1) ≡ c.holds.result =
    spans_seen i.1 few a.self.now.from a.self.now.to (c.loop-done.i + 1) refl ∙ sym (rw (c.next-at.ensures.position, c.from-q.ensures) at c.holds.ensures) in (
      omega arith,
      rw (c.next-at.ensures.counts, c.next-at.ensures.position, c.from-q.ensures) (seen_next i.1 few (c.loop-done.i + 1) refl),
      elim c.if-holds.branch [
        | then-holds w ↦ rw (w.list-is, w.done-is) (written_yes _ _ _ _ i.2 (omega arith) (test ∙ w.if-holds.true))
        | else-holds w ↦ rw (w.list-is, w.done-is) (written_no _ _ _ _ i.2 (test ∙ w.if-holds.false))
      ],
    )

pub returns : goal.returns
returns c =
    written_all _ _ _ _ c.loop-done.invariant.2 (length c.args.tracks.now) c.loop-done.invariant.0 (omega (arith, c.requires.count_value.0, c.loop-done-test.false))
