-- `answers::put_list`: the count, the units after it, and a line feed.
-- Assumes nothing.
use Prim.Native.Nat.{◌+◌, ◌*◌}
use native.Mathlib.Omega.{arith}
use lib.ListN.{length}
use Rattle.rules.proofs.Overs.{part_back_next}
use Rattle.answers.specs.Printed.{hex_of, units_of, list_line}
use Rattle.answers.proofs.Lengths.{length_hex, length_units}
use Rattle.answers.proofs.put_list.Goals as goal

pub returns : goal.returns
unfolding list_line
returns c =
    let us = c.args.units.now in
    let digits = length_hex 4 (length us) in
    let units = length_units us in (
      omega arith,
      part_back_next _ (hex_of 4 (length us)) (units_of us) _ _ 4 (4 + 5 * length us) 10 c.put_hex.ensures digits c.put_units.ensures (omega arith) (omega arith),
    )
