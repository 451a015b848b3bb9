-- `rows::join_pairs`: what the check leaves open; why it holds is said with the invariant. Assumes nothing.
use mathlib.Core.Path.{◌≡◌, sym, ◌∙◌}
use native.Mathlib.Omega.{arith}
use Rattle.rules.specs.Listing.{pairs}
use Rattle.rows.proofs.UnitPairs.{to_within, row_to_start, row_to_more, row_to_end}
use Rattle.rows.proofs.join_pairs.Goals as goal

pub loop-j-init : goal.loop-j-init
loop-j-init c = rw c.requires.from_value (row_to_start c.requires.pairs _ _ _ c.requires.by_index)

pub returns-then-u-i : goal.returns-then-u-i
returns-then-u-i c =
    let e = row_to_end c.requires.pairs c.loop-j.invariant (λ b h. c.if-u-i.true (c.from-u.ensures ∙ h)) in record { value = e.0; row_is = e.1 }

pub loop-j-preserved : goal.loop-j-preserved
loop-j-preserved c =
    row_to_more c.requires.pairs c.loop-j.invariant (omega arith) (sym c.from-u.ensures ∙ c.if-u-i.false) (rw c.from-v.ensures at c.join_row.ensures)

pub returns : goal.returns
returns c =
    let e = row_to_end c.requires.pairs c.loop-j.invariant (λ b h. omega arith) in
    let last : c.loop-j.j ≡ pairs c.args.needs.now = omega (arith, to_within c.requires.pairs c.args.i) in
    record { value = sym last ∙ e.0; row_is = e.1 }
