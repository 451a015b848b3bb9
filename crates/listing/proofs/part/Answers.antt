-- `listing::part` meets its contract: what stands at the span is the part. Assumes nothing.
use Prim.Native.Nat.{◌+◌, ◌-◌}
use mathlib.Core.Path.{◌≡◌}
use native.Mathlib.Omega.{arith}
use Rattle.listing.proofs.Parts.{span_part}
use Rattle.listing.proofs.part.Goals as goal

pub returns : goal.returns
returns c =
    let s = c.args in
    let r = c.part_span-span.result in
    let same : r.start + r.count - r.start ≡ r.count = omega arith in
    rw (same, c.part_span-span.ensures.value) (span_part s.needs.now s.unit)
