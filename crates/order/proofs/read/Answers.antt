-- `order::read`: a card that has stopped reads nothing; a line that is no frame, or comes too late, is refused; a frame goes to its phase.
-- Assumes nothing.
use Prim.Native.Nat.{◌+◌, ◌≤◌}
use mathlib.Core.Path.{◌≡◌, sym, ◌∙◌}
use mathlib.Core.Bool.{true}
use native.Mathlib.Omega.{arith}
use Rattle.reading.specs.Card.{reads}
use Rattle.reading.specs.Held.{held, reading_of}
use Rattle.reading.proofs.Taking.{took_nothing}
use Rattle.order.proofs.Turns.{stopped_line, no_frame_line}
use Rattle.reading.proofs.Phases.{next_room, next_fit}
use Rattle.order.proofs.Turns.{late_line, frame_line}
use Rattle.order.proofs.read.Goals as goal
use Rattle.order.proofs.read.Goals.{Else-not-is_reading}

reads_on : (c : Else-not-is_reading) → reads c.args.card.phase ≡ true
reads_on c = sym c.is_reading.ensures ∙ c.if-not-is_reading.false

lines_left : (c : Else-not-is_reading) → c.args.card.lines + 1 ≤ 65536
lines_left c = omega (arith, c.requires.fit.lines_left (reads_on c))

pub returns-then-not-is_reading-clause-taken : goal.returns-then-not-is_reading-clause-taken
returns-then-not-is_reading-clause-taken c =
    let a = c.args in
    let r = reading_of a.card (held a.areas.now) in
    rw (stopped_line r a.line.now (sym c.is_reading.ensures ∙ c.if-not-is_reading.true)) (took_nothing c.args.out.now c.requires.fit)

pub returns-in_default-clause-taken : goal.returns-in_default-clause-taken
returns-in_default-clause-taken c =
    let a = c.args in
    let r = reading_of a.card (held a.areas.now) in
    rw (no_frame_line r a.line.now (reads_on (goal.at.returns-in_default-clause-taken c).Else-not-is_reading) (sym c.read_line.ensures ∙ c.in_default.is))
    (c.refuse.ensures _ (next_room c.requires.fit _ (lines_left (goal.at.returns-in_default-clause-taken c).Else-not-is_reading)))

pub returns-then-next-gt-MAX_LINES-clause-taken : goal.returns-then-next-gt-MAX_LINES-clause-taken
returns-then-next-gt-MAX_LINES-clause-taken c =
    let a = c.args in
    let r = reading_of a.card (held a.areas.now) in
    rw (late_line r a.line.now (reads_on (goal.at.returns-then-next-gt-MAX_LINES-clause-taken c).Else-not-is_reading) (sym c.read_line.ensures ∙ c.in-Some.is) (omega arith))
    (c.misplaced.ensures _ (next_room c.requires.fit _ (lines_left (goal.at.returns-then-next-gt-MAX_LINES-clause-taken c).Else-not-is_reading)))

pub frame_in_phase-requires : goal.frame_in_phase-requires
frame_in_phase-requires c = record {
  fit = next_fit c.requires.fit _ (omega arith);
  in_bounds = c.requires.in_bounds;
}

pub returns-clause-taken : goal.returns-clause-taken
returns-clause-taken c =
    let a = c.args in
    let r = reading_of a.card (held a.areas.now) in
    rw (frame_line r a.line.now (reads_on (goal.at.returns-clause-taken c).Else-not-is_reading) (sym c.read_line.ensures ∙ c.in-Some.is) (omega arith))
    c.frame_in_phase.ensures
