-- What a turn of the program settles: what came, what the card made of it, and which bytes wait; and what turns lead to.
use Rattle.std.specs.Prelude.{ℕ, ◌-◌, ◌≤◌, ◌<◌, ◌≡◌, Bool, true, false, not, ◌&&◌, List, [], ◌++◌, ◌⊎◌, Option, length}
use Rattle.std.specs.Io.KnownBytes.{Consumes, IsAtEnd, Appends}
use Rattle.std.proofs.Common.{⊎_elim}
use Rattle.rules.specs.Ranges.{over}
use Rattle.reading.specs.Card.{Reading}
use Rattle.reading.specs.Held.{Areas, reading_of, fresh_card, Fit}
use Rattle.blocks.specs.Blocks.{part, Came}
use Rattle.feeding.specs.Feeding.{FeedOutcome, feed_outcome}
use Rattle.course.specs.declared.Feeding.{Feeding}

-- what stands between two turns
pub record Between : Type 0 where
  pub feeding : Feeding
  pub bytes : List ℕ
  pub areas : Areas
  pub out : List ℕ

abbrev pub between : Feeding → List ℕ → Areas → List ℕ → Between
between feeding bytes a out = record { feeding = feeding; bytes = bytes; areas = a; out = out }

abbrev pub reading_in : Between → Reading
reading_in s = reading_of s.feeding.card s.areas

abbrev pub waiting_in : Between → List ℕ
waiting_in s = part s.bytes s.feeding.from s.feeding.end

-- the outcome of feeding the card with what waits and what came
abbrev pub fed_with : Between → List ℕ → Bool → FeedOutcome
fed_with s came ended = feed_outcome (reading_in s) (waiting_in s ++ came) ended (length s.out)

-- the card was fed with what waited and what came: its reading, what still waits and what is printed are the outcome's; more is read exactly
-- where the outcome says so and nothing failed
pub record FedOn (s s' : Between) : Type 0 where
  pub came : List ℕ
  pub ended : Bool
  pub came_so : Came (s.feeding.end - s.feeding.from) came ended
  pub reading_is : reading_in s' ≡ (fed_with s came ended).reading
  pub rest_is : waiting_in s' ≡ (fed_with s came ended).rest
  pub out_is : s'.out ≡ over s.out (fed_with s came ended).printed
  pub more_is : s'.feeding.more ≡ ((fed_with s came ended).more && not s'.feeding.failed)

-- no whole line waited, and the read failed: nothing is fed or printed, and nothing more is read
pub record ReadFailed (s s' : Between) : Type 0 where
  pub few : s.feeding.end - s.feeding.from < 11
  pub reading_is : reading_in s' ≡ reading_in s
  pub out_is : s'.out ≡ s.out
  pub fails : s'.feeding.failed ≡ true
  pub ends : s'.feeding.more ≡ false

-- a turn: the card was fed, or the read failed. The card is fit, and what waits lies in the block
pub record Turned (s s' : Between) : Type 0 where
  pub fed : FedOn s s' ⊎ ReadFailed s s'
  pub fit : Fit s'.feeding.card s'.areas
  pub start_in : s'.feeding.from ≤ s'.feeding.end
  pub end_in : s'.feeding.end ≤ length s'.bytes
  pub out_long : length s'.out ≡ length s.out

-- ---- turn after turn

-- before the first byte
abbrev pub fresh : Feeding
fresh = record { card = fresh_card; from = 0; end = 0; more = true; failed = false }

-- what turns lead to; there is a turn only where more is to be read
pub data LedTo (s : Between) : Between → Type 0 where
  no_turn : LedTo s s
  turned : {t u : Between} → LedTo s t → t.feeding.more ≡ true → Turned t u → LedTo s u

-- what came in a turn, what was printed, and whether the file had ended
abbrev pub came_by : {s s' : Between} → Turned s s' → List ℕ
came_by turn = ⊎_elim (λ fed. fed.came) (λ failed. []) turn.fed

abbrev pub printed_by : {s s' : Between} → Turned s s' → List ℕ
printed_by {s} turn = ⊎_elim (λ fed. (fed_with s fed.came fed.ended).printed) (λ failed. []) turn.fed

abbrev pub ended_by : {s s' : Between} → Turned s s' → Bool
ended_by turn = ⊎_elim (λ fed. fed.ended) (λ failed. false) turn.fed

-- and in all of them
unfoldable pub came_in : {s t : Between} → LedTo s t → List ℕ
came_in no_turn = []
came_in (turned before more turn) = came_in before ++ came_by turn

unfoldable pub printed_in : {s t : Between} → LedTo s t → List ℕ
printed_in no_turn = []
printed_in (turned before more turn) = printed_in before ++ printed_by turn

unfoldable pub ended_in : {s t : Between} → LedTo s t → Bool
ended_in no_turn = false
ended_in (turned before more turn) = ended_by turn

-- ---- the input and the output, where their bytes are known

-- in a turn the input gives what came, and has none left where the file had ended; the output grows by what was printed, unless something failed
pub record Moved (s s' : Between) (input input' output output' : Option (List ℕ)) : Type 0 where
  pub turn : Turned s s'
  pub taken : Consumes input input' (came_by turn)
  pub at_end : ended_by turn ≡ true → IsAtEnd input'
  pub given : s'.feeding.failed ≡ false → Appends output output' (printed_by turn)
