-- What is known of the areas of a whole index, and how units at given positions, one in each track, reach others.
use Rattle.std.specs.Prelude.{ℕ, ◌+◌, ◌≤◌, ◌<◌, ◌≡◌, Bool, not, ◌&&◌, List, get_or, leb}
use Rattle.rules.specs.Ranges.{sum, every}
use Rattle.rules.specs.Layout.{word_count}
use Rattle.rules.specs.Index.{vector_of, low_at}
use Rattle.words.specs.Words.{TrueTo}
use Rattle.layout.specs.Lengths.{Lengths}
use Rattle.layout.specs.Starts.{row_starts}

-- the areas of a whole index with k tracks of lengths s, and the table of where each track's vectors start
pub record Known (s : ℕ → ℕ) (k : ℕ) (words directory row : List ℕ) : Type 0 where
  pub lengths : Lengths s k
  pub directory_true : TrueTo words directory (word_count s k)
  pub ones : (p q : ℕ) → p < k → q < k → (p ≡ q → ⊥) → sum (vector_of s k words p q) (s p + s q) ≡ s p
  pub starts : row ≡ row_starts s k

-- position i of track p is a unit's
pub record Standing (s : ℕ → ℕ) (k p i : ℕ) : Type 0 where
  pub in_track : p < k
  pub from : 1 ≤ i
  pub to : i ≤ s p

-- no unit at the given position of a track needs position j of track q; position 0 is no unit
unfoldable pub none_reaches : (ℕ → ℕ) → ℕ → List ℕ → List ℕ → ℕ → ℕ → Bool
none_reaches s k words at q j = every (λ p. not (leb 1 (get_or at p 0) && leb j (low_at s k words p (get_or at p 0) q))) k

-- position i of track p needs no unit at the given position of a track; a position past the end is no unit
unfoldable pub reaches_none : (ℕ → ℕ) → ℕ → List ℕ → ℕ → ℕ → List ℕ → Bool
reaches_none s k words p i at = every (λ q. not (leb (get_or at q 0) (s q) && leb (get_or at q 0) (low_at s k words p i q))) k
