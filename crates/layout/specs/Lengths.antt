-- What conditions 1 to 3 of a whole index say of the lengths of its tracks.
use Rattle.std.specs.Prelude.{ℕ, ◌≤◌, ◌<◌}
use Rattle.rules.specs.Ranges.{sum}

pub record Lengths (s : ℕ → ℕ) (k : ℕ) : Type 0 where
  pub some_track : 1 ≤ k
  pub few_tracks : k ≤ 32
  pub few_units : sum s k ≤ 1024
  pub used : (q : ℕ) → q < k → 1 ≤ s q
