-- `pairs::pair_out_of_order`: what the check leaves open; why it holds is said with the invariant. Assumes nothing.
use Prim.Native.Nat.{ℕ, ◌+◌, ◌-◌, ◌*◌, ◌≤◌, ◌<◌}
use mathlib.Core.Path.{◌≡◌, sym, ap, ◌∙◌}
use mathlib.Core.Bool.{false, not}
use mathlib.Core.List.{List}
use native.Mathlib.Omega.{arith}
use lib.ListN.{get_or}
use borrow.Author.Count.{below_more}
use borrow.Author.Tests.{lt-ltb, le-ltb}
use Rattle.rules.specs.Listing.{units_above, out_of_order}
use Rattle.rules.proofs.Found.{found_at, none_found}
use Rattle.pairs.proofs.pair_out_of_order.Goals as goal
use Rattle.pairs.proofs.pair_out_of_order.Goals.{After-is_above}

-- the first pair has none before it
order_first : (l : List ℕ) (i : ℕ) → i < 1 → out_of_order l i ≡ false
unfolding out_of_order
order_first l i h = rw (le-ltb 0 i (omega arith))

-- pair i against the one before it
order_at : (l : List ℕ) (i : ℕ) → 1 ≤ i
    → out_of_order l i ≡ not (units_above (get_or l (2 * i) 0) (get_or l (2 * i + 1) 0) (get_or l (2 * i - 2) 0) (get_or l (2 * i - 1) 0))
unfolding out_of_order
order_at l i h =
    let e : 2 * (i - 1) ≡ 2 * i - 2 = omega arith in
    let f : 2 * i - 2 + 1 ≡ 2 * i - 1 = omega arith in
    rw (lt-ltb 0 i h, e, f)

-- the call tells of pair i
told : (c : After-is_above) → out_of_order c.args.needs.now c.loop-i.i ≡ not c.is_above.result
told c = order_at c.args.needs.now c.loop-i.i (omega arith) ∙ ap not (sym c.is_above.ensures)

pub loop-i-init : goal.loop-i-init
loop-i-init c = order_first c.args.needs.now

pub returns-then-not-is_above : goal.returns-then-not-is_above
returns-then-not-is_above c =
    found_at (out_of_order c.args.needs.now) _ _ (omega arith) c.loop-i.invariant (told (goal.at.returns-then-not-is_above c).After-is_above ∙ ap not c.if-not-is_above.true)

pub loop-i-preserved : goal.loop-i-preserved
loop-i-preserved c = below_more _ _ c.loop-i.invariant (told (goal.at.loop-i-preserved c).After-is_above ∙ ap not c.if-not-is_above.false)

pub returns : goal.returns
returns c = none_found (out_of_order c.args.needs.now) _ (λ j h. c.loop-i.invariant j (omega arith))
