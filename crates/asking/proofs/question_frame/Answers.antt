-- `asking::question_frame`: a frame that asks nothing is out of order.
-- Assumes nothing.
use Rattle.reading.specs.Held.{areas, reading_of}
use Rattle.asking.proofs.question_frame.Goals as goal

pub returns-in_default : goal.returns-in_default
returns-in_default c = λ ts rules ws ds work h x.
    rw (c.in_default.ensures.next (reading_of c.args.card (areas ts rules ws ds work c.args.list.now)))
    (c.misplaced.ensures _ h.room)
