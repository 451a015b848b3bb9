-- A turn counts the unit where its track is u's, and at the end the units up to u are counted. Assumes nothing.
use Prim.Native.Nat.{ℕ, ◌-◌}
use mathlib.Core.Path.{◌≡◌, sym}
use native.Mathlib.Omega.{arith}
use lib.ListN.{get_or}
use borrow.Author.Tests.{eq-eqb, ne_eqb}
use Rattle.std.proofs.lemmas.List.{get_or-take, length-take-le}
use Rattle.rules.specs.Listing.{track}
use Rattle.rules.proofs.Tracks.{in_none, in_next, in_le}
use Rattle.bounds.proofs.spot.Goals as goal

pub loop-other-init : goal.loop-other-init
loop-other-init c = sym (in_none _ _)

pub overflow_add-at : goal.overflow_add-at
overflow_add-at c =
    omega (arith, in_le c.args.tracks.now (get_or c.args.tracks.now (c.from-last.result - 1) 0) c.loop-other.other-index, length-take-le {A = ℕ})

pub loop-other-preserved : goal.loop-other-preserved
loop-other-preserved c =
    let ts = c.args.tracks.now in
    let i = c.loop-other.other-index in
    let q = get_or ts (c.args.u - 1) 0 in
    grind (arith, in_next ts q i, get_or-take {A = ℕ}, length-take-le {A = ℕ}, eq-eqb (get_or ts i 0) q, ne_eqb (get_or ts i 0) q)

pub returns : goal.returns
unfolding track
returns c =
    let e : c.loop-other.other-index ≡ c.args.u = omega (arith, length-take-le {A = ℕ}) in
    rw (c.from.ensures, c.from-2.ensures, c.loop-other.invariant, e, c.from-last.ensures)
