-- `answers::put_units`: after i turns the first i units are written.
-- Assumes nothing.
use mathlib.Core.Path.{◌≡◌}
use lib.ListN.{take}
use Rattle.rules.specs.Ranges.{over}
use Rattle.answers.specs.Printed.{units_of}
use Rattle.answers.proofs.put_units.Given as goal

abbrev pub invariant-loop-i : goal.invariant-loop-i
invariant-loop-i l = l.out ≡ over l.initial.out (units_of (take l.i l.units))
