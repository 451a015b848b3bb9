-- What a need, 03, and the end of a listing, 04, leave.
use Rattle.std.specs.Prelude.{ℕ, ◌≡◌, List}
use Rattle.std.specs.Borrow.{Bor}
use denote.Triple.Both.{Both}
use Rattle.reading.specs.declared.Card.{Card}
use Rattle.reading.specs.declared.Step.{Step}
use Rattle.reading.specs.declared.Phase.TheVariants.{Needs}
use Rattle.reading.specs.Card.{need_frame, end_frame}
use Rattle.reading.specs.Held.{areas, Passed, reading_of, Fit, Took}

-- over any areas with these needs, 03 is taken; of the areas only the needs are written
abbrev pub NeedTaken : Card → ℕ → ℕ → List ℕ → List ℕ → Step → List ℕ → List ℕ → Type 0
NeedTaken card u v needs out step needs' out' =
    (tracks words directory work list : List ℕ) →
    Fit card (areas tracks needs words directory work list) →
    Took (need_frame (reading_of card (areas tracks needs words directory work list)) u v) out step
    (areas tracks needs' words directory work list) out'

-- an area that a call only reads
abbrev pub Read : Type 0
Read = Both (Bor (List ℕ)) (Bor (List ℕ))

-- whatever the list area holds, 04 is taken; of the areas only words, directory and work area are written
abbrev pub EndTaken : Card → ℕ → ℕ → Read → Read → Passed → Passed → Passed → Passed → Step → Type 0
EndTaken card count filler tracks needs words directory work out step =
    (list : List ℕ) →
    card.phase ≡ Needs →
    Fit card (areas tracks.entry.now needs.entry.now words.entry.now directory.entry.now work.entry.now list) →
    Took
    (end_frame (reading_of card (areas tracks.entry.now needs.entry.now words.entry.now directory.entry.now work.entry.now list)) count filler)
    out.entry.now step
    (areas tracks.entry.now needs.entry.now words.exit.now directory.exit.now work.exit.now list)
    out.exit.now
