-- The table by which a vector is found: the first bit of the vectors of each track, and behind the last track the bits of all; then, from
-- entry 33 on, the units in the tracks before each.
use Rattle.std.specs.Prelude.{ℕ, ◌-◌, cond, List, leb}
use Rattle.rules.specs.Ranges.{sum, table}
use Rattle.rules.specs.Layout.{offset}

unfoldable pub start_at : (ℕ → ℕ) → ℕ → ℕ → ℕ → ℕ
start_at s k to i = cond (leb i 32) (cond (leb i to) (offset s k i 0) 0) (cond (leb (i - 33) to) (sum s (i - 33)) 0)

unfoldable pub row_starts : (ℕ → ℕ) → ℕ → List ℕ
row_starts s k = table (start_at s k k) 66
