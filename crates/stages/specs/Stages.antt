-- The table of the stages of a course.
use Rattle.std.specs.Prelude.{ℕ, ◌+◌, List}
use Rattle.rules.specs.Ranges.{table}
use Rattle.rules.specs.Order.{step, stage}

-- entry i is the stage of unit i + 1, by the direct steps of the need list
unfoldable pub stage_table : List ℕ → ℕ → List ℕ
stage_table l n = table (λ i. stage (step l) (i + 1)) n
