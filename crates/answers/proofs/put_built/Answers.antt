-- `answers::put_built`: the text, the digits after it, and a line feed.
-- Assumes nothing.
use mathlib.Core.Path.{refl}
use native.Mathlib.Omega.{arith}
use Rattle.rules.proofs.Overs.{part_back_next}
use Rattle.answers.specs.Printed.{hex_of, built_line}
use Rattle.answers.proofs.Lengths.{length_hex}
use Rattle.answers.proofs.put_built.Goals as goal

pub returns : goal.returns
unfolding built_line
returns c =
    let bits = c.args.bits in
    let digits = length_hex 8 bits in (
      refl,
      part_back_next _ _ (hex_of 8 bits) _ _ 6 14 10 c.put_text.ensures refl c.put_hex.ensures (omega arith) (omega arith),
    )
