-- `answers::put_units`: what the check leaves open; why it holds is said with the invariant. Assumes nothing.
use Prim.Native.Nat.{◌+◌, ◌*◌}
use mathlib.Core.Path.{◌≡◌, sym, ap, ◌∙◌}
use mathlib.Core.List.{[], ◌∷◌, ◌++◌}
use native.Mathlib.Omega.{arith}
use lib.ListN.{length, get_or, set, take, length-append}
use Rattle.rules.specs.Ranges.{over}
use Rattle.rules.proofs.Overs.{over_none, part_back}
use Rattle.answers.specs.Printed.{units_of, hex_of}
use Rattle.answers.proofs.Digits.{text_none, text_next, text_space, length_before}
use Rattle.answers.proofs.put_units.Goals as goal

pub loop-i-init : goal.loop-i-init
loop-i-init c = rw text_none (over_none _)

pub loop-i-preserved : goal.loop-i-preserved
loop-i-preserved c =
    let area = c.args.out.now in
    let us = c.args.units.now in
    let at = c.loop-i in
    let xs = units_of (take at.i us) ++ (32 ∷ []) in
    let space : set at.out (5 * at.i) 32 ≡ over area xs = rw at.invariant (text_space us at.i (omega arith) area (omega arith)) in
    let n : length xs ≡ 5 * at.i + 1 = rw length-append (omega (arith, length_before us at.i (omega arith))) in
    part_back area xs (hex_of 4 (get_or us at.i 0)) _ _ (5 * at.i + 1) space n (c.put_hex.ensures ∙ rw c.from.ensures)
    ∙ ap (over area) (sym (text_next us at.i (omega arith)))
