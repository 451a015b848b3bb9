-- `rows::own_low`: what the check leaves open; why it holds is said with the invariant. Assumes nothing.
use Prim.Native.Nat.{◌+◌, ◌-◌}
use mathlib.Core.Path.{◌≡◌, sym, ◌∙◌}
use native.Mathlib.Omega.{arith}
use Rattle.rows.proofs.UnitPairs.{low_to_start, low_to_more, low_to_end}
use Rattle.rows.proofs.own_low.Goals as goal

pub loop-j-init : goal.loop-j-init
loop-j-init c = rw c.requires.end_value (low_to_start c.requires.pairs _ _ _ _)

pub returns-then-u-i : goal.returns-then-u-i
returns-then-u-i c =
    let e = low_to_end c.requires.pairs c.loop-j.invariant (λ z h. c.if-u-i.true (c.from-u.ensures ∙ h)) in
    let here : c.loop-j.j - 1 + 1 ≡ c.loop-j.j = omega arith in
    record { low_value = e.0; pair_value = here ∙ e.1 }

pub loop-j-preserved : goal.loop-j-preserved
loop-j-preserved c =
    low_to_more c.requires.pairs _ c.loop-j.invariant (omega arith) (sym c.from-u.ensures ∙ c.if-u-i.false) (omega (arith, rw c.from-v.ensures at c.max-low.ensures))

pub returns : goal.returns
returns c =
    let e = low_to_end c.requires.pairs c.loop-j.invariant (λ z h. omega arith) in
    record { low_value = e.0; pair_value = omega (arith, e.1) }
