-- What the frames that open a course leave.
use Rattle.std.specs.Prelude.{ℕ, List}
use Rattle.reading.specs.declared.Card.{Card}
use Rattle.reading.specs.declared.Step.{Step}
use Rattle.reading.specs.Card.{track_frame}
use Rattle.reading.specs.Held.{areas, reading_of, Fit, Took}

-- over any areas with these tracks, 02 is taken; of the areas only the tracks are written
abbrev pub TrackTaken : Card → ℕ → ℕ → List ℕ → List ℕ → Step → List ℕ → List ℕ → Type 0
TrackTaken card unit track tracks out step tracks' out' =
    (needs words directory work list : List ℕ) →
    Fit card (areas tracks needs words directory work list) →
    Took (track_frame (reading_of card (areas tracks needs words directory work list)) unit track) out step
    (areas tracks' needs words directory work list) out'
