-- Units by a span of positions in each track.
use Rattle.rules.specs.Refusals.{NumberAnswer}
use Rattle.std.specs.Prelude.{ℕ, ◌≤◌, ◌<◌, Bool, cond, ◌&&◌, List, length, get_or, leb}
use Rattle.rules.specs.Ranges.{greatest}
use Rattle.rules.specs.Listing.{track, size, position}
use Rattle.rules.specs.Questions.{units_where}
use Rattle.rules.specs.Outcomes.{ListOutcome}

-- the position of v is in the span of its track
unfoldable pub in_spans : List ℕ → List ℕ → List ℕ → ℕ → Bool
in_spans from to ts v = leb (get_or from (track ts v) 0) (position ts v) && leb (position ts v) (get_or to (track ts v) 0)

-- the units in the spans, ascending
abbrev pub spanned : List ℕ → List ℕ → List ℕ → List ℕ
spanned from to ts = units_where (in_spans from to ts) (length ts)

-- the highest-numbered unit below u in the spans, 0 if none
unfoldable pub last_spanned : List ℕ → List ℕ → List ℕ → ℕ → ℕ
last_spanned from to ts u = greatest (λ v. cond (leb 1 v && in_spans from to ts v) v 0) u

-- a track list of at most 1,024 units in k tracks, at most 32
pub record Tracks (ts : List ℕ) (k : ℕ) : Type 0 where
  pub few_units : length ts ≤ 1024
  pub few_tracks : k ≤ 32
  pub each : (i : ℕ) → i < length ts → get_or ts i 0 < k

-- each span is of positions that units have
pub record Held (from to ts : List ℕ) (k : ℕ) : Type 0 where
  pub starts : (q : ℕ) → q < k → 1 ≤ get_or from q 0
  pub ends : (q : ℕ) → q < k → get_or to q 0 ≤ size ts q

abbrev pub listed : NumberAnswer → List ℕ → ListOutcome
listed answer list = record { answer = answer; list = list }
