-- `layout::vector_start`: the row starts where the table says, and the vectors p,q' before p,q stand between: each has the units of p, and
-- together those of the tracks before q. Assumes nothing.
use Prim.Native.Nat.{◌+◌, ◌*◌}
use mathlib.Core.Path.{◌≡◌, ap}
use native.Mathlib.Omega.{arith}
use lib.ListN.{get_or}
use Rattle.rules.specs.Ranges.{sum}
use Rattle.rules.specs.Layout.{offset}
use Rattle.rules.specs.Index.{lens_of}
use Rattle.rules.proofs.Layouts.{offset_add, room_past, room_before}
use Rattle.layout.proofs.Rows.{row_start, row_units}
use Rattle.layout.proofs.vector_start.Goals as goal
use Rattle.layout.proofs.vector_start.Goals.{After-times, Then-p-q}

-- the bit before what is counted twice is taken off
bit : (c : After-times)
    → (let l = lens_of c.args.lens.now in
    (get_or c.args.row.now c.args.p 0 + get_or c.args.row.now (c.args.q + 33) 0 + c.times.result
    ≡ offset l c.args.k c.args.p 0 + sum l c.args.q + c.args.q * l c.args.p) × (c.from-own.result ≡ l c.args.p))
bit c =
    let l = lens_of c.args.lens.now in
    let start = row_start l c.args.k c.requires.3 c.requires.0 c.args.p (omega arith) in
    let units = row_units l c.args.k c.requires.3 c.requires.0 c.args.q (omega arith) in
    omega (arith, start, units, ap (λ x. c.args.q * x) c.from-own.ensures)

-- and the vectors p,q' before p,q
between : (c : Then-p-q) → (let l = lens_of c.args.lens.now in
    offset l c.args.k c.args.p c.args.q + 2 * l c.args.p
    ≡ offset l c.args.k c.args.p 0 + sum l c.args.q + c.args.q * l c.args.p)
between c =
    let l = lens_of c.args.lens.now in
    omega (arith, offset_add l c.args.k c.args.p c.args.q, room_past l c.args.p c.args.q (omega arith))

pub overflow_sub-result : goal.overflow_sub-result
overflow_sub-result c = omega (arith, bit (goal.at.overflow_sub-result c).After-times, between c)

pub returns-then-p-q : goal.returns-then-p-q
returns-then-p-q c = omega (arith, bit (goal.at.returns-then-p-q c).After-times, between c)

pub returns-else-p-q : goal.returns-else-p-q
returns-else-p-q c =
    let l = lens_of c.args.lens.now in
    omega (arith, bit (goal.at.returns-else-p-q c).After-times, offset_add l c.args.k c.args.p c.args.q, room_before l c.args.p c.args.q (omega arith))
