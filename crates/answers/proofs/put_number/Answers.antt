-- `answers::put_number`: four digits and a line feed, or the refusal.
-- Assumes nothing.
use mathlib.Core.Path.{sym, ◌∙◌}
use native.Mathlib.Omega.{arith}
use Rattle.answers.specs.Printed.{hex_of, number_line}
use Rattle.answers.proofs.Lengths.{length_hex, length_number, length_refused_line}
use Rattle.rules.proofs.Overs.{over-next}
use Rattle.answers.proofs.put_number.Goals as goal

pub returns-in-Ok : goal.returns-in-Ok
unfolding number_line
returns-in-Ok c =
    let x = c.in-Ok.x in
    rw c.in-Ok.is
    (sym (length_number x), rw (c.put_hex.ensures, c.from.ensures) (over-next _ (hex_of 4 x) 4 10 (length_hex 4 x) (omega arith)))

pub returns-in-Err : goal.returns-in-Err
unfolding number_line
returns-in-Err c =
    let said = c.put_refused.ensures in
    rw c.in-Err.is (said.0 ∙ sym (length_refused_line c.in-Err.refusal), said.1)
