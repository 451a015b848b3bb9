-- Rows of the work area, and what a listed pair brings to a row.
use Rattle.std.specs.Prelude.{ℕ, ◌+◌, ◌-◌, ◌*◌, ◌≤◌, ◌<◌, ◌≡◌, cond, List, ◌⊎◌, length, get_or, ltb, eqb}
use Rattle.rules.specs.Ranges.{first}
use Rattle.rules.specs.Listing.{pairs, upper, lower}

-- an area whose k entries from `at` on are now f 0 .. f (k - 1), every other entry being kept
pub record RowIs (area now-area : List ℕ) (at k : ℕ) (f : ℕ → ℕ) : Type 0 where
  pub same_length : length now-area ≡ length area
  pub row : (q : ℕ) → q < k → get_or now-area (at + q) 0 ≡ f q
  pub kept : (x : ℕ) → (x < at) ⊎ (at + k ≤ x) → get_or now-area x 0 ≡ get_or area x 0

-- what pair x brings unit i + 1 in track q, as the row of the pair's second unit stands in the work area
unfoldable pub brings : List ℕ → List ℕ → ℕ → ℕ → ℕ → ℕ → ℕ
brings work l k i q x = cond (eqb (upper l x) (i + 1)) (get_or work ((lower l x - 1) * k + q) 0) 0

-- the first pair whose first unit is above u, the count of pairs where there is none
unfoldable pub pairs_to : List ℕ → ℕ → ℕ
pairs_to l u = first (λ x. ltb u (upper l x)) (pairs l)
