-- What is done with the bytes that wait: whole lines are read, and what is left waits for more, or is known to be no frame.
use Rattle.std.specs.Prelude.{ℕ, ◌-◌, ◌*◌, ◌≡◌, Bool, true, false, cond, not, ◌&&◌, ◌||◌, List, [], ◌++◌, length, get_or, drop, ltb, eqb}
use Rattle.rules.specs.Ranges.{some, over}
use Rattle.reading.specs.Card.{Reading, reads}
use Rattle.reading.specs.Held.{Areas, reading_of, Fit}
use Rattle.card.specs.Files.{fed, pieces_read, rest_printed}
use Rattle.feeding.specs.declared.Fed.{Fed}

-- a line feed stands among the bytes
unfoldable pub has_line_feed : List ℕ → Bool
has_line_feed bytes = some (λ i. eqb (get_or bytes i 0) 10) (length bytes)

-- the bytes that are left are all of their line: fewer than a frame has, and the file ends with them or a line feed is among them
unfoldable pub is_last : List ℕ → Bool → Bool
is_last rest ended = ltb (length rest) 11 && (ended || has_line_feed rest)

-- what stands after the bytes that waited: the reading, the bytes that still wait, what is printed, and whether more is to be read
pub record FeedOutcome : Type 0 where
  pub reading : Reading
  pub rest : List ℕ
  pub printed : List ℕ
  pub more : Bool

-- of an output area of so many bytes the last twenty are for the last line
unfoldable pub feed_outcome : Reading → List ℕ → Bool → ℕ → FeedOutcome
feed_outcome r bytes ended room =
    let m = pieces_read r bytes (room - 20) in
    let after = fed r bytes m in
    let rest = drop (11 * m) bytes in
    record {
      reading = after.reading;
      rest = rest;
      printed = after.printed ++ cond (is_last rest ended) (rest_printed after.reading rest) [];
      more = not (is_last rest ended) && reads after.reading.phase;
    }

-- a call that left this outcome: the card is fit, and past what is printed the output area is kept
pub record FedTo (r : Reading) (bytes : List ℕ) (ended : Bool) (out : List ℕ) (fed : Fed) (a : Areas) (out' : List ℕ) : Type 0 where
  pub reading_is : reading_of fed.card a ≡ (feed_outcome r bytes ended (length out)).reading
  pub used_is : fed.used ≡ 11 * pieces_read r bytes (length out - 20)
  pub wrote_is : fed.wrote ≡ length (feed_outcome r bytes ended (length out)).printed
  pub out_is : out' ≡ over out (feed_outcome r bytes ended (length out)).printed
  pub more_is : fed.more ≡ (feed_outcome r bytes ended (length out)).more
  pub fit : Fit fed.card a

-- ---- a file in blocks

-- from a reading on, with bytes that wait: turn after turn some bytes come, and are fed with those that wait. `Turns room r waiting file printed`:
-- the bytes still to come are `file`, and the turns print `printed`, one after another. A turn in which nothing comes may be the end of the file
pub data Turns (room : ℕ) : Reading → List ℕ → List ℕ → List ℕ → Type 0 where
  -- nothing more is read: the reading has stopped, whatever was still to come, or the file has ended
  last : {r : Reading} {waiting : List ℕ} (came unread : List ℕ) (ended : Bool)
      → (feed_outcome r (waiting ++ came) ended room).more ≡ false
      → (ended ≡ true → came ++ unread ≡ [])
      → Turns room r waiting (came ++ unread) (feed_outcome r (waiting ++ came) ended room).printed
  -- and more is read
  more : {r : Reading} {waiting file printed : List ℕ} (came : List ℕ)
      → (feed_outcome r (waiting ++ came) false room).more ≡ true
      → Turns room (feed_outcome r (waiting ++ came) false room).reading (feed_outcome r (waiting ++ came) false room).rest file printed
      → Turns room r waiting (came ++ file) ((feed_outcome r (waiting ++ came) false room).printed ++ printed)
