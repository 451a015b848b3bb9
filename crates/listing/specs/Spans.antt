-- Where the part of a need list stands that begins with a unit.
use Rattle.std.specs.Prelude.{ℕ, ◌+◌, ◌-◌, ◌*◌, List, leb}
use Rattle.rules.specs.Ranges.{first}
use Rattle.rules.specs.Listing.{pairs, upper}
use Rattle.rules.specs.Outcomes.{unless_refused, part_verdict}
use Rattle.listing.specs.declared.Span.{Span}

-- the first pair whose first unit is at least u, or the count of pairs
unfoldable pub pair_from : List ℕ → ℕ → ℕ
pair_from l u = first (λ i. leb u (upper l i)) (pairs l)

-- from the first pair of the unit up to the first of the next one; refused, nothing from the start of the list
unfoldable pub part_span : List ℕ → ℕ → Span
part_span l u =
    record {
      start = unless_refused (part_verdict l u) (2 * pair_from l u) 0;
      count = unless_refused (part_verdict l u) (2 * pair_from l (u + 1) - 2 * pair_from l u) 0;
    }
