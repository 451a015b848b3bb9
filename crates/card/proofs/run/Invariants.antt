-- `card::run`: what was fed is what the pieces so far say. The measure is the bytes that are left.
-- Assumes nothing.
use Prim.Native.Nat.{◌-◌}
use mathlib.Core.Path.{◌≡◌}
use lib.ListN.{length}
use Rattle.reading.specs.Held.{held, reading_of, AsLong, SameAreas}
use Rattle.card.proofs.Runs.{Running}
use Rattle.card.proofs.run.Given as goal

abbrev pub invariant-loop-areas : goal.invariant-loop-areas
invariant-loop-areas l =
    record {
      run : Running (reading_of l.initial.reached (held l.initial.areas)) l.bytes l.initial.out l.reached (held l.areas) l.out l.used l.wrote;
      same : SameAreas l.initial.areas l.areas;
      lengths : AsLong (held l.initial.areas) (held l.areas);
      out_long : length l.out ≡ length l.initial.out;
    }

abbrev pub decreases-loop-areas : goal.decreases-loop-areas
decreases-loop-areas l = length l.bytes - l.used
