-- The track of unit v is one of 32, so what was seen of it tells whether v is in the spans, and so which unit is the highest below v + 1.
use Prim.Native.Nat.{◌+◌, ◌-◌, ◌<◌}
use mathlib.Core.Path.{◌≡◌, sym, ◌∙◌}
use native.Mathlib.Omega.{arith}
use lib.ListN.{get_or}
use Rattle.lists.specs.Spans.{in_spans}
use Rattle.lists.proofs.Units.{seen_none, seen_le, seen_next, spans_seen, last_none, last_yes, last_no}
use Rattle.lists.proofs.Spans.last_unit.Goals as goal
use Rattle.lists.proofs.Spans.last_unit.Goals.{then-holds, else-holds}

pub loop-v-init : goal.loop-v-init
loop-v-init c = (seen_none _, sym (last_none _ _ _))

pub next-at-requires : goal.next-at-requires
next-at-requires c =
    let few : get_or c.args.tracks.now (c.loop-v.v - 1) 0 < 32 = c.requires.tracks.each (c.loop-v.v - 1) (omega arith) in
    (omega arith, omega (arith, seen_le c.loop-v.invariant.0 c.from-q.result (omega arith)))

pub loop-v-preserved : goal.loop-v-preserved
loop-v-preserved c =
    let a = c.args in
    let few : get_or a.tracks.now (c.loop-v.v - 1) 0 < 32 = c.requires.tracks.each (c.loop-v.v - 1) (omega arith) in
    let test : in_spans a.self.now.from a.self.now.to a.tracks.now c.loop-v.v ≡ c.holds.result =
    spans_seen c.loop-v.invariant.0 few a.self.now.from a.self.now.to c.loop-v.v (omega arith)
    ∙ sym (rw (c.next-at.ensures.position, c.from-q.ensures, c.from.ensures) at c.holds.ensures) in (
      rw (c.next-at.ensures.counts, c.next-at.ensures.position, c.from-q.ensures, c.from.ensures) (seen_next c.loop-v.invariant.0 few (c.loop-v.v + 1 - 1) (omega arith)),
      elim c.if-holds.branch [
        | then-holds w ↦ w.last-is ∙ sym (last_yes _ _ _ c.loop-v.v (omega arith) (test ∙ w.if-holds.true))
        | else-holds w ↦ w.last-is ∙ c.loop-v.invariant.1 ∙ sym (last_no _ _ _ c.loop-v.v (test ∙ w.if-holds.false))
      ],
    )
