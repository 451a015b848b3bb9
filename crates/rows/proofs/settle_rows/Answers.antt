-- `rows::settle_rows`: what the check leaves open; why it holds is said with the invariant. Assumes nothing.
use Prim.Native.Nat.{◌+◌, ◌-◌}
use mathlib.Core.Path.{◌≡◌}
use native.Mathlib.Omega.{arith}
use lib.ListN.{length}
use Rattle.rules.specs.Listing.{listing}
use Rattle.rows.proofs.Lows.{RowsSettled, settled_start, own_under, refused_here, refused_past, settled_next, settled_all}
use Rattle.rows.proofs.settle_rows.Goals as goal
use Rattle.rows.proofs.settle_rows.Goals.{After-own_low-low, then-low-position, else-low-position}

-- in a turn: the invariant, of the unit below i
above : (c : After-own_low-low)
    → RowsSettled (listing (length c.args.tracks.now) c.args.k c.args.tracks.now c.args.needs.now) c.loop-i.work c.loop-i.bad c.loop-i.j (c.loop-i.i - 1 + 1)
above c = let e : c.loop-i.i ≡ c.loop-i.i - 1 + 1 = omega arith in rw e at c.loop-i.invariant

pub loop-i-init : goal.loop-i-init
loop-i-init c = settled_start c.requires.accepted c.args.work.now c.requires.work_value

pub overflow_add-low : goal.overflow_add-low
overflow_add-low c =
    let t = above (goal.at.overflow_add-low c).After-own_low-low in
    omega (arith, own_under c.requires.accepted _ _ t (rw c.from-p.ensures at c.own_low-low.ensures.low_value), c.requires.accepted.n_in.1)

pub loop-i-preserved : goal.loop-i-preserved
loop-i-preserved c =
    let a = c.requires.accepted in
    let s = above (goal.at.loop-i-preserved c).After-own_low-low in
    let is = rw c.from-p.ensures at c.own_low-low.ensures.low_value in
    rw c.from-p.ensures
    (settled_next a _ _ s is _ _
    (elim c.if-low-position.branch [
      | then-low-position w ↦ rw w.bad-is (refused_here a _ _ s is (rw c.from-p.ensures at w.if-low-position.true))
      | else-low-position w ↦ rw w.bad-is (refused_past a _ _ s is (rw c.from-p.ensures at w.if-low-position.false))
    ])
    c.own_low-low.ensures.pair_value)

pub returns : goal.returns
returns c =
    let e = settled_all c.requires.accepted c.loop-i.invariant (omega arith) in record { value = e.0; work_after = e.1 }
