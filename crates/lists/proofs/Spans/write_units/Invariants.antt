-- `Spans::write_units` meets its contract. The loop's invariant: the units up to i were seen, and those of them in the spans are written.
-- Assumes nothing.
use Prim.Native.Nat.{◌-◌, ◌≤◌}
use lib.ListN.{length}
use Rattle.lists.proofs.Units.{Walked, Written}
use Rattle.lists.proofs.Spans.write_units.Given as goal

abbrev pub invariant-loop-done : goal.invariant-loop-done
invariant-loop-done l = (l.i ≤ length l.tracks) × Walked l.tracks l.i l.seen.counts × Written l.self.from l.self.to l.tracks l.initial.list l.i l.list l.done

abbrev pub decreases-loop-done : goal.decreases-loop-done
decreases-loop-done l = length l.tracks - l.i
