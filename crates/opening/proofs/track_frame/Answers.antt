-- `opening::track_frame`: the track is stored after those held, and the last unit's brings the needs.
-- Assumes nothing.
use Rattle.std.proofs.Common.{arith}
use Rattle.opening.proofs.Opening.{track-misplaced, took_track}
use Rattle.opening.proofs.track_frame.Goals as goal

pub returns-then-from-units : goal.returns-then-from-units
returns-then-from-units c = λ rules words directory work list h.
    let s = c.args in
    rw (track-misplaced s.unit s.track h (λ e. omega arith)) (c.misplaced.ensures _ h.room)

pub returns : goal.returns
returns c = λ rules words directory work list h.
    took_track c.args.unit c.args.track h c.if-unit-card.phase c.args.out.now c.requires.0 (omega arith) (grind arith)
