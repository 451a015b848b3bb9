-- A turn writes the bound in one more track, and the table is then that of one more. Assumes nothing.
use mathlib.Core.Path.{◌≡◌, ◌∙◌}
use native.Mathlib.Omega.{arith}
use Rattle.rules.proofs.Ranges.{table_to_none, table_to_next}
use Rattle.bounds.proofs.Vectors.in_each.Goals as goal

pub loop-q-init : goal.loop-q-init
loop-q-init g c = λ f is. table_to_none _ 32

pub loop-q-preserved : goal.loop-q-preserved
loop-q-preserved g c = λ f is.
    let here : c.bound.result ≡ f c.loop-q.q = is _ _ c.loop-q-test.true c.bound.ensures in
    rw (here, c.loop-q.invariant f is) (table_to_next _ 32 c.loop-q.q (omega arith))

pub returns : goal.returns
returns g c = λ f is.
    let e : c.loop-q.q ≡ c.args.self.now.k = omega arith in
    c.loop-q.invariant f is ∙ rw e
