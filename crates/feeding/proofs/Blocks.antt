-- In whatever blocks a file comes, what the turns print one after another is what the definition prints: a piece that is read is a piece of
-- the file, a line that ends within the bytes that are left is the file's next line whatever follows it, and a reading that has stopped
-- prints nothing more.
-- Assumes nothing.
use Prim.Native.Nat.{ℕ, zero, suc, ◌-◌, ◌*◌, ◌≤◌, ◌<◌}
use mathlib.Core.Path.{◌≡◌, refl, sym, ap, ◌∙◌}
use mathlib.Core.Bool.{Bool, true, false, cond, not, ◌&&◌, ◌||◌}
use mathlib.Core.List.{List, [], ◌∷◌, ◌++◌, append_assoc, append-nil}
use mathlib.Core.Logic.{◌⊎◌, inl, inr}
use native.Mathlib.Omega.{arith}
use lib.ListN.{length, get_or, drop, length-append}
use lib.Seq.{take_at, drop-append-le}
use lib.Dec.{ltb, eqb}
use borrow.Author.Tests.{eqb-true, not-true}
use Rattle.rules.proofs.Ranges.{true_or_false, some_find}
use Rattle.rules.proofs.Verdicts.{and_both, or_either}
use Rattle.reading.specs.Card.{Reading, reads, start}
use Rattle.card.specs.Files.{first_line, course_prints, fed, pieces_read, rest_printed}
use Rattle.card.proofs.Files.{short_line, stopped_prints, prints, no_frame_prints, fed_prints, fed-part, rest_prints}
use Rattle.feeding.specs.Feeding.{has_line_feed, is_last, feed_outcome, Turns}
use Rattle.feeding.specs.Feeding.Turns.{last, more}
use Rattle.feeding.proofs.Feeds.{pieces_in, last_short}

-- ---- whole lines

-- pieces of the bytes that wait are pieces of all that is to come
fed_before : (r : Reading) (bytes future : List ℕ) (m : ℕ) → 11 * m ≤ length bytes
    → prints r (bytes ++ future) ≡ (fed r bytes m).printed ++ prints (fed r bytes m).reading (drop (11 * m) bytes ++ future)
fed_before r bytes future m h =
    let same : fed r bytes m ≡ fed r (bytes ++ future) m =
    rw (take_at bytes future (length bytes) refl) at (fed-part r (bytes ++ future) (length bytes) m h)
    in
    rw (same, ← drop-append-le (11 * m) bytes future h) (fed_prints r (bytes ++ future) m (omega (arith, length-append bytes future)))

-- ---- the last line

-- a line that ends within the bytes is the first line whatever follows
first_line-within : (bytes future : List ℕ) (i : ℕ) → i < length bytes → get_or bytes i 0 ≡ 10 → first_line (bytes ++ future) ≡ first_line bytes
unfolding first_line
first_line-within [] future i l e = absurd (omega arith)
first_line-within (b ∷ bs) future zero l e = rw e
first_line-within (b ∷ bs) future (suc i) l e = rw (first_line-within bs future i (omega arith) e)

-- so a line feed among fewer than eleven bytes says all that will be printed
short_prints : (r : Reading) (rest future : List ℕ) → length rest < 11 → has_line_feed rest ≡ true → prints r (rest ++ future) ≡ rest_printed r rest
unfolding has_line_feed
short_prints r [] future few h = absurd (let at = some_find (λ i. eqb (get_or [] i 0) 10) 0 h in omega (arith, at.1))
short_prints r (b ∷ bs) future few h =
    let at = some_find (λ i. eqb (get_or (b ∷ bs) i 0) 10) (length (b ∷ bs)) h in
    let same = first_line-within (b ∷ bs) future at.0 at.1 (eqb-true _ 10 at.2) in
    no_frame_prints r b (bs ++ future) (rw same (short_line (b ∷ bs) few))
    ∙ rw same (sym (no_frame_prints r b bs (short_line (b ∷ bs) few)) ∙ rest_prints r (b ∷ bs) few)

last_prints : (r : Reading) (rest future : List ℕ) (ended : Bool) → is_last rest ended ≡ true → (ended ≡ true → future ≡ [])
    → prints r (rest ++ future) ≡ rest_printed r rest
unfolding is_last
last_prints r rest future ended h end = go (or_either ended (has_line_feed rest) (and_both (ltb (length rest) 11) (ended || has_line_feed rest) h).1)
  where
    go : (ended ≡ true) ⊎ (has_line_feed rest ≡ true) → prints r (rest ++ future) ≡ rest_printed r rest
    go (inl e) = rw (end e, append-nil) (rest_prints r rest (last_short rest ended h))
    go (inr feed) = short_prints r rest future (last_short rest ended h) feed

-- where nothing more is read, the bytes that are left print as the last line, or not at all
ends_prints : (r : Reading) (rest future : List ℕ) (ended : Bool) → (not (is_last rest ended) && reads r.phase) ≡ false → (ended ≡ true → future ≡ [])
    → prints r (rest ++ future) ≡ cond (is_last rest ended) (rest_printed r rest) []
ends_prints r rest future ended h end = go (true_or_false (is_last rest ended))
  where
    go : (is_last rest ended ≡ true) ⊎ (is_last rest ended ≡ false) → prints r (rest ++ future) ≡ cond (is_last rest ended) (rest_printed r rest) []
    go (inl t) = rw t (last_prints r rest future ended t end)
    go (inr f) = let stops : reads r.phase ≡ false = rw f at h in rw f (stopped_prints (length (rest ++ future)) r (rest ++ future) stops)

-- ---- a turn

module _ (r : Reading) (bytes future : List ℕ) (ended : Bool) (room : ℕ) where
  -- a turn after which more is read
  turn_more : (feed_outcome r bytes ended room).more ≡ true →
      let o = feed_outcome r bytes ended room in prints r (bytes ++ future) ≡ o.printed ++ prints o.reading (o.rest ++ future)
  unfolding feed_outcome
  turn_more h =
      let m = pieces_read r bytes (room - 20) in
      let rest = drop (11 * m) bytes in
      let waits = not-true (is_last rest ended) (and_both (not (is_last rest ended)) (reads (fed r bytes m).reading.phase) h).0 in
      rw (waits, append-nil) (fed_before r bytes future m (pieces_in r bytes (room - 20)))

  -- a turn after which nothing more is read
  turn_last : (feed_outcome r bytes ended room).more ≡ false → (ended ≡ true → future ≡ []) → prints r (bytes ++ future) ≡ (feed_outcome r bytes ended room).printed
  unfolding feed_outcome
  turn_last h end =
      let m = pieces_read r bytes (room - 20) in
      let after = fed r bytes m in
      fed_before r bytes future m (pieces_in r bytes (room - 20))
      ∙ ap (λ (l : List ℕ). after.printed ++ l) (ends_prints after.reading (drop (11 * m) bytes) future ended h end)

-- ---- turn after turn

none_after : (xs ys : List ℕ) → xs ++ ys ≡ [] → ys ≡ []
none_after [] ys e = e
none_after (x ∷ xs) ys e = absurd (let z : ◌≡◌ {A = ℕ} 0 1 = cc in omega arith)

pub turns_print : {room : ℕ} {r : Reading} {waiting file printed : List ℕ} → Turns room r waiting file printed → printed ≡ prints r (waiting ++ file)
turns_print {room} {r} {waiting} (last came unread ended stops end) =
    sym (rw append_assoc at (turn_last r (waiting ++ came) unread ended room stops (λ e. none_after came unread (end e))))
turns_print {room} {r} {waiting} (more {file = file} came goes turns) =
    rw (turns_print turns) (sym (rw append_assoc at (turn_more r (waiting ++ came) file false room goes)))

-- a file printed turn by turn, in whatever blocks it comes
pub blocks_print : {room : ℕ} {file printed : List ℕ} → Turns room start [] file printed → printed ≡ course_prints file
unfolding course_prints
blocks_print turns = turns_print turns
