-- `filing::need_frame`: the pair is stored after those held, and the one past 8,192 is refusal 1.
-- Assumes nothing.
use Rattle.std.proofs.Common.{arith}
use Rattle.filing.proofs.Needing.{need_refused, took_need}
use Rattle.filing.proofs.need_frame.Goals as goal

pub returns-then-pairs-eq-MAX_NEEDS : goal.returns-then-pairs-eq-MAX_NEEDS
returns-then-pairs-eq-MAX_NEEDS c = λ tracks words directory work list h.
    rw (need_refused c.args.u c.args.v h (omega arith)) (c.refuse.ensures _ h.room)

pub returns : goal.returns
returns c = λ tracks words directory work list h.
    took_need c.args.u c.args.v h c.args.out.now c.requires.0 (omega arith)
