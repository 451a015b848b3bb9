-- The track passed adds what its span holds; at the end all k tracks are passed.
use Prim.Native.Nat.{ℕ, ◌+◌, ◌-◌}
use mathlib.Core.Path.{sym}
use native.Mathlib.Omega.{arith}
use lib.ListN.{get_or}
use Rattle.rules.proofs.Ranges.{sum_none, sum-next}
use Rattle.lists.proofs.Spans.count.Goals as goal

pub loop-q-init : goal.loop-q-init
loop-q-init c = (omega arith, sym (sum_none _))

pub loop-q-preserved : goal.loop-q-preserved
loop-q-preserved c =
    let f : ℕ → ℕ = λ p. get_or c.args.self.now.to p 0 + 1 - get_or c.args.self.now.from p 0 in
    (omega arith, omega (arith, sum-next f c.loop-q.q, c.positions-count.ensures))
