-- `Spans::count` meets its contract. The loop's invariant: the count is the sum over the tracks passed, at most 65,536 for each.
-- Assumes nothing.
use Prim.Native.Nat.{◌+◌, ◌-◌, ◌*◌, ◌≤◌}
use mathlib.Core.Path.{◌≡◌}
use lib.ListN.{get_or}
use Rattle.rules.specs.Ranges.{sum}
use Rattle.lists.proofs.Spans.count.Given as goal

abbrev pub invariant-loop-q : goal.invariant-loop-q
invariant-loop-q l = (l.count ≤ 65536 * l.q) × (l.count ≡ sum (λ p. get_or l.self.to p 0 + 1 - get_or l.self.from p 0) l.q)
