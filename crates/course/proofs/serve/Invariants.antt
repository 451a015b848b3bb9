-- `course::serve`: every turn leads on from what the turns before it left, and after it less is to go.
-- Assumes nothing.
use Rattle.std.proofs.Common.{◌≤◌, length}
use Rattle.reading.specs.Held.{held, AsLong, SameAreas}
use Rattle.course.specs.Turns.{between, fresh}
use Rattle.course.proofs.Betweens.{Carrying, to_go}
use Rattle.course.proofs.serve.Given as goal

abbrev pub invariant-loop-feeding : goal.invariant-loop-feeding
invariant-loop-feeding g l =
    record {
      carrying : Carrying (between fresh l.initial.bytes (held l.initial.areas) l.initial.out)
          (between l.feeding l.bytes (held l.areas) l.out)
          (g.R.Read.remaining l.initial.input) (g.R.Read.remaining l.input) (g.W.Write.contents l.initial.output) (g.W.Write.contents l.output);
      same : SameAreas l.initial.areas l.areas;
      lengths : AsLong (held l.initial.areas) (held l.areas);
      block : 11 ≤ length l.bytes;
      room : 5145 ≤ length l.out;
    }

abbrev pub decreases-loop-feeding : goal.decreases-loop-feeding
decreases-loop-feeding g l = to_go (between l.feeding l.bytes (held l.areas) l.out)
