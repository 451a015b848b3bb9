-- `answers::put_refused`: the text, the number after it and a space, the digits of the place after them, and a line feed.
-- Assumes nothing.
use mathlib.Core.Path.{refl, ◌∙◌}
use native.Mathlib.Omega.{arith}
use Rattle.rules.proofs.Overs.{part_back_next}
use Rattle.answers.specs.Printed.{hex_of, decimal_of, refused_line}
use Rattle.answers.proofs.Lengths.{length_hex}
use Rattle.answers.proofs.put_refused.Goals as goal

pub returns : goal.returns
unfolding refused_line decimal_of
returns c =
    let digits = length_hex 8 c.place.result in
    let number = part_back_next _ _ (decimal_of c.number.result) _ _ 8 10 32 c.put_text.ensures refl c.put_decimal.ensures refl (omega arith) in (
      refl,
      part_back_next _ _ (hex_of 8 c.place.result) _ _ 11 19 10 number refl c.put_hex.ensures (omega arith) (omega arith)
          ∙ rw (c.number.ensures, c.place.ensures),
    )
