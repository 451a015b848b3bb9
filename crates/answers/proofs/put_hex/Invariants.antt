-- `answers::put_hex`: from the last digit to the first. Up to i the area is as it was, from i on as it is to be,
-- and the digits still to be written are those of y. Assumes nothing.
use mathlib.Core.Path.{◌≡◌}
use mathlib.Core.List.{◌++◌}
use lib.ListN.{take, drop}
use Rattle.rules.specs.Ranges.{over}
use Rattle.answers.specs.Printed.{hex_of}
use Rattle.answers.proofs.put_hex.Given as goal

abbrev pub invariant-loop-i : goal.invariant-loop-i
invariant-loop-i l = (take l.i (hex_of l.w l.x) ≡ hex_of l.i l.y) × (l.out ≡ take l.i l.initial.out ++ drop l.i (over l.initial.out (hex_of l.w l.x)))
