-- `layout::row_starts`: after p turns the rows below p are summed, and no row is wider than 2 ^ 22 bits. Assumes nothing.
use Prim.Native.Nat.{◌*◌, ◌≤◌}
use mathlib.Core.Path.{◌≡◌}
use Rattle.rules.specs.Ranges.{sum}
use Rattle.rules.specs.Layout.{offset}
use Rattle.rules.specs.Index.{lens_of}
use Rattle.layout.proofs.Rows.{starts_to}
use Rattle.layout.proofs.row_starts.Given as goal

abbrev pub invariant-loop-p : goal.invariant-loop-p
invariant-loop-p l = (l.row ≡ starts_to (lens_of l.lens) l.k l.p) × (offset (lens_of l.lens) l.k l.p 0 ≤ 4194304 * l.p) × (sum (lens_of l.lens) l.p ≤ 65536 * l.p)
