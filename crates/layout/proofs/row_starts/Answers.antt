-- `layout::row_starts`: what the check leaves open; why it holds is said with the invariant. Assumes nothing.
use Prim.Native.Nat.{◌+◌, ◌-◌, ◌*◌}
use mathlib.Core.Path.{◌≡◌, ap, ◌∙◌}
use native.Mathlib.Omega.{arith}
use lib.ListN.{get_or, set}
use Rattle.rules.specs.Ranges.{sum}
use Rattle.rules.specs.Layout.{vector_room, offset}
use Rattle.rules.specs.Index.{lens_of}
use Rattle.rules.proofs.Ranges.{sum_none, sum-next}
use Rattle.rules.proofs.Layouts.{offset-start, offset_row, offset_add, room_past}
use Rattle.layout.proofs.Rows.{starts_in, units_in, starts_none, starts_next, starts_all}
use Rattle.layout.proofs.row_starts.Goals as goal
use Rattle.layout.proofs.row_starts.Goals.{After-times}

-- what a turn reads and sums
record Turn (c : After-times) : Type 0 where
  bit : get_or c.loop-p.row c.loop-p.p 0 ≡ offset (lens_of c.args.lens.now) c.args.k c.loop-p.p 0
  before : get_or c.loop-p.row (c.loop-p.p + 33) 0 ≡ sum (lens_of c.args.lens.now) c.loop-p.p
  bits : c.times.result + c.units_of-units.result ≡ sum (vector_room (lens_of c.args.lens.now) c.loop-p.p) c.args.k + 2 * c.from-own.result

turn : (c : After-times) → Turn c
turn c =
    let e = c.loop-p.invariant.0 in
    record {
      bit = ap (λ l. get_or l c.loop-p.p 0) e ∙ starts_in (lens_of c.args.lens.now) c.args.k c.loop-p.p c.loop-p.p (omega arith) (omega arith);
      before = ap (λ l. get_or l (c.loop-p.p + 33) 0) e ∙ units_in (lens_of c.args.lens.now) c.args.k c.loop-p.p c.loop-p.p (omega arith) (omega arith);
      bits = omega (arith, room_past (lens_of c.args.lens.now) c.loop-p.p c.args.k (omega arith), ap (λ x. c.args.k * x) c.from-own.ensures);
    }

pub loop-p-init : goal.loop-p-init
loop-p-init c =
    let a = c.args in
    (starts_none _ _, omega (arith, offset-start (lens_of a.lens.now) a.k), omega (arith, sum_none (lens_of a.lens.now)))

pub overflow_sub-row : goal.overflow_sub-row
overflow_sub-row c = omega (arith, turn c)

pub overflow_add-row-in-loop-p : goal.overflow_add-row-in-loop-p
overflow_add-row-in-loop-p c = omega (arith, turn c)

pub overflow_add-row-in-loop-p-3 : goal.overflow_add-row-in-loop-p-3
overflow_add-row-in-loop-p-3 c = omega (arith, turn (goal.at.overflow_add-row-in-loop-p-3 c).After-times)

pub loop-p-preserved : goal.loop-p-preserved
loop-p-preserved c =
    let t = turn (goal.at.loop-p-preserved c).After-times in
    let next : offset (lens_of c.args.lens.now) c.args.k (c.loop-p.p + 1) 0 ≡ offset (lens_of c.args.lens.now) c.args.k c.loop-p.p 0 + sum (vector_room (lens_of c.args.lens.now) c.loop-p.p) c.args.k =
    omega (arith, offset_row (lens_of c.args.lens.now) c.args.k c.loop-p.p, offset_add (lens_of c.args.lens.now) c.args.k c.loop-p.p c.args.k) in
    let more : sum (lens_of c.args.lens.now) (c.loop-p.p + 1) ≡ sum (lens_of c.args.lens.now) c.loop-p.p + c.from-own.result = omega (arith, sum-next (lens_of c.args.lens.now) c.loop-p.p) in
    let row = c.loop-p.row in
    let bit = get_or row c.loop-p.p 0 + (c.times.result + c.units_of-units.result - 2 * c.from-own.result) in
    let before = get_or row (c.loop-p.p + 33) 0 + c.from.result in
    let filled = starts_next (lens_of c.args.lens.now) c.args.k c.loop-p.p bit before (omega arith) (omega (arith, t, next)) (omega (arith, t, more)) in
    let entries = c.loop-p.invariant.0 in
    (ap (λ l. set (set l (c.loop-p.p + 1) bit) (c.loop-p.p + 34) before) entries ∙ filled, omega (arith, t, next), omega (arith, more))

pub returns : goal.returns
returns c =
    let a = c.args in
    let e : c.loop-p.p ≡ a.k = omega arith in
    c.loop-p.invariant.0 ∙ rw e (starts_all (lens_of a.lens.now) a.k)
