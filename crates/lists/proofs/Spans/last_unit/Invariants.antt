-- `Spans::last_unit` meets its contract. The loop's invariant: the units below v were seen, and the highest of them in the spans is known.
-- Assumes nothing.
use Prim.Native.Nat.{◌-◌}
use mathlib.Core.Path.{◌≡◌}
use Rattle.lists.specs.Spans.{last_spanned}
use Rattle.lists.proofs.Units.{Walked}
use Rattle.lists.proofs.Spans.last_unit.Given as goal

abbrev pub invariant-loop-v : goal.invariant-loop-v
invariant-loop-v l = Walked l.tracks (l.v - 1) l.seen.counts × (l.last ≡ last_spanned l.self.from l.self.to l.tracks l.v)
