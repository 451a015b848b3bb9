-- A pair in the middle tells of all pairs before it or of all after it, since the pairs ascend; where the two ends meet is the first pair.
-- Assumes nothing.
use Prim.Native.Nat.{◌+◌, ◌-◌, ◌/◌}
use mathlib.Core.Path.{sym}
use native.Mathlib.Omega.{arith}
use lib.ListN.{length}
use lib.Dec.{leb}
use borrow.Author.Rules.{rules}
use borrow.Author.Tests.{le-leb, lt-leb}
use Rattle.rules.specs.Listing.{upper}
use Rattle.rules.proofs.Ranges.{first_at}
use Rattle.listing.proofs.first_from.Goals as goal

pub loop-a-preserved-then-needs-mid : goal.loop-a-preserved-then-needs-mid
loop-a-preserved-then-needs-mid c =
    let a = c.loop-a.a in
    let b = c.loop-a.b in
    let inv = c.loop-a.invariant in
    let rising = c.requires in
    (search rules, search rules, (λ j l. omega (arith, rising j (a + (b - a) / 2) (omega arith) (omega arith))), inv.3)

pub loop-a-preserved : goal.loop-a-preserved
loop-a-preserved c =
    let a = c.loop-a.a in
    let b = c.loop-a.b in
    let inv = c.loop-a.invariant in
    let rising = c.requires in
    (search rules, search rules, inv.2, λ j l r. omega (arith, rising (a + (b - a) / 2) j (omega arith) r))

pub returns : goal.returns
returns c =
    let rules = c.args.needs.now in
    let u = c.args.u in
    let inv = c.loop-a.invariant in
    sym (first_at (λ i. leb u (upper rules i)) (length rules / 2) c.loop-a.a (omega arith) (λ j l. lt-leb u (upper rules j) (inv.2 j l)) (λ l. le-leb u _ (inv.3 c.loop-a.a (omega arith) l)))
