-- `layout::vector_ones`: the table has the units before track p, each of which has a 1 in k - 1 vectors. Assumes nothing.
use Prim.Native.Nat.{◌-◌, ◌*◌}
use mathlib.Core.Path.{◌≡◌, ap}
use native.Mathlib.Omega.{arith}
use borrow.Author.Tests.{lt-ltb, le-ltb}
use Rattle.rules.specs.Index.{lens_of}
use Rattle.layout.proofs.Rows.{row_units}
use Rattle.layout.proofs.vector_ones.Goals as goal

pub returns-then-p-q : goal.returns-then-p-q
returns-then-p-q c =
    let units = row_units (lens_of c.args.lens.now) c.args.k c.requires.3 c.requires.0 c.args.p (omega arith) in
    rw (lt-ltb c.args.p c.args.q (omega arith))
    (omega (arith, ap (λ x. (c.args.k - 1) * x) units, ap (λ x. (c.args.q - 1) * x) c.from-own.ensures))

pub returns-else-p-q : goal.returns-else-p-q
returns-else-p-q c =
    let units = row_units (lens_of c.args.lens.now) c.args.k c.requires.3 c.requires.0 c.args.p (omega arith) in
    let e : c.args.q - 0 ≡ c.args.q = omega arith in
    rw (le-ltb c.args.p c.args.q (omega arith), e)
    (omega (arith, ap (λ x. (c.args.k - 1) * x) units, ap (λ x. c.args.q * x) c.from-own.ensures))
