-- `answers::put_hex`: what the check leaves open; why it holds is said with the invariant. Assumes nothing.
use Prim.Native.Nat.{◌-◌, suc}
use mathlib.Core.Path.{◌≡◌, sym, ◌∙◌}
use native.Mathlib.Omega.{arith}
use Rattle.rules.specs.Ranges.{over}
use Rattle.rules.proofs.Overs.{length_over, get_d_over}
use Rattle.answers.specs.Printed.{hex_of}
use Rattle.answers.proofs.Lengths.{length_hex}
use Rattle.answers.proofs.Digits.{hex_last, hex_before, hex_whole, back_none, back_next}
use Rattle.answers.proofs.put_hex.Goals as goal

pub loop-i-init : goal.loop-i-init
loop-i-init c =
    let w = c.args.w in
    let x = c.args.x in
    (hex_whole w x, back_none _ (hex_of w x) w (length_hex w x))

pub loop-i-preserved : goal.loop-i-preserved
loop-i-preserved c =
    let area = c.args.out.now in
    let xs = hex_of c.args.w c.args.x in
    let i = c.loop-i.i in
    let inv = c.loop-i.invariant in
    let e : i ≡ suc (i - 1) = omega arith in
    let n = length_hex c.args.w c.args.x in
    let long = length_over area xs (omega arith) in
    let last = hex_last xs i (i - 1) c.loop-i.y e inv.0 in (
      hex_before xs i (i - 1) c.loop-i.y e inv.0,
      rw inv.1 (back_next area (over area xs) i (i - 1) c.hex_digit.result e (omega arith) (omega arith) (get_d_over area xs (i - 1) (omega arith) ∙ last ∙ sym c.hex_digit.ensures)),
    )
