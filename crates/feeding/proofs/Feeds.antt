-- What a run of lines and the end of the last line leave, put together: the run is lent all of the output area but its last twenty bytes,
-- and the end what the run has not written.
-- Assumes nothing.
use Prim.Native.Nat.{ℕ, ◌+◌, ◌-◌, ◌*◌, ◌/◌, ◌≤◌, ◌<◌}
use mathlib.Core.Path.{◌≡◌, sym, ap, ◌∙◌}
use mathlib.Core.Bool.{Bool, true, false, not, ◌||◌}
use mathlib.Core.List.{List, ◌++◌, append_assoc, append-nil}
use native.Mathlib.Omega.{arith}
use lib.ListN.{length, take, drop, length-append, length-drop, take-append-drop}
use lib.Seq.{drop-append-le, length-take-le}
use lib.Dec.{ltb}
use borrow.Author.Tests.{ltb-true}
use borrow.Rule.Slice.PartMut.{mid_of, put_mid}
use Rattle.rules.specs.Ranges.{over}
use Rattle.rules.proofs.Ranges.{first_le}
use Rattle.rules.proofs.Verdicts.{and_both}
use Rattle.rules.proofs.Overs.{rest_is, part_back}
use Rattle.reading.specs.Card.{Reading, reads}
use Rattle.reading.specs.Held.{Areas, reading_of}
use Rattle.card.specs.declared.Progress.{Progress}
use Rattle.card.specs.Files.{fed, reads_on, pieces_read, rest_printed, RanTo, Ran}
use Rattle.feeding.specs.declared.Fed.{Fed}
use Rattle.feeding.specs.Feeding.{has_line_feed, is_last, feed_outcome, FedTo}

-- the pieces that are read lie within the bytes
pub pieces_in : (r : Reading) (bytes : List ℕ) (room : ℕ) → 11 * pieces_read r bytes room ≤ length bytes
unfolding pieces_read
pieces_in r bytes room = omega (arith, first_le (λ m. not (reads_on r bytes room m)) (length bytes / 11))

-- what is written lies within the area where the area's length is kept
pub over_in : (area xs : List ℕ) {l : List ℕ} → l ≡ over area xs → length l ≡ length area → length xs ≤ length area
unfolding over
over_in area xs e same = omega (arith, ap length e, length-append xs (drop (length xs) area))

-- what is written over a part from the front is written over the whole
over_front : (area xs : List ℕ) (n : ℕ) → n ≤ length area → length xs ≤ n → over (take n area) xs ++ drop n area ≡ over area xs
unfolding over
over_front area xs n h l =
    rw (append_assoc, ← drop-append-le (length xs) (take n area) (drop n area) (omega (arith, length-take-le n area h)), take-append-drop n area)

module _ {r : Reading} {bytes : List ℕ} (out : List ℕ) {progress : Progress} {a : Areas} {part : List ℕ} (long : 20 ≤ length out)
    (same : length part ≡ length (take (length out - 20) out)) (ran : Ran r bytes (take (length out - 20) out) progress a part) where
  room_is : length (take (length out - 20) out) ≡ length out - 20
  room_is = length-take-le (length out - 20) out (omega arith)

  ran_to : RanTo (pieces_read r bytes (length out - 20)) r bytes (take (length out - 20) out) progress a part
  ran_to = rw room_is at ran

  pub used_in : progress.used ≤ length bytes
  used_in = omega (arith, ran_to.used_is, pieces_in r bytes (length out - 20))

  pub wrote_in : progress.wrote + 20 ≤ length out
  wrote_in = omega (arith, ran_to.wrote_is, over_in (take (length out - 20) out) (fed r bytes (pieces_read r bytes (length out - 20))).printed ran_to.out_is same, room_is)

  -- the whole area after the run
  pub reached_long : length (part ++ drop (length out - 20) out) ≡ length out
  reached_long = rw (length-append, length-drop, same, room_is) (omega arith)

  out_ran : part ++ drop (length out - 20) out ≡ over out (fed r bytes (pieces_read r bytes (length out - 20))).printed
  out_ran =
      rw ran_to.out_is
      (over_front out (fed r bytes (pieces_read r bytes (length out - 20))).printed (length out - 20) (omega arith) (omega (arith, wrote_in, ran_to.wrote_is)))

  -- the bytes that are left
  rest_left : take (length bytes - progress.used) (drop progress.used bytes) ≡ drop (11 * pieces_read r bytes (length out - 20)) bytes
  rest_left = rest_is bytes progress.used ∙ rw ran_to.used_is

  -- what is left waits
  pub fed_waits : {ended : Bool} → is_last (take (length bytes - progress.used) (drop progress.used bytes)) ended ≡ false
      → FedTo r bytes ended out (record { card = progress.card; used = progress.used; wrote = progress.wrote; more = reads progress.card.phase }) a
      (part ++ drop (length out - 20) out)
  unfolding feed_outcome
  fed_waits {ended} h =
      let waits : is_last (drop (11 * pieces_read r bytes (length out - 20)) bytes) ended ≡ false = rw rest_left at h in
      record {
        reading_is = ran_to.reading_is;
        used_is = ran_to.used_is;
        wrote_is = rw (waits, append-nil) ran_to.wrote_is;
        out_is = rw (waits, append-nil) out_ran;
        more_is = rw waits (ap (λ (x : Reading). reads x.phase) ran_to.reading_is);
        fit = ran_to.fit;
      }

  -- what is left is all of its line
  pub fed_ends : {ended : Bool} {last : ℕ} {after : List ℕ} →
      let rest = take (length bytes - progress.used) (drop progress.used bytes) in
      let reached = part ++ drop (length out - 20) out in
      is_last rest ended ≡ true
      → ((b : Areas) → (last ≡ length (rest_printed (reading_of progress.card b) rest)) × (after ≡ over (mid_of progress.wrote (length reached - progress.wrote) reached) (rest_printed (reading_of progress.card b) rest)))
      → FedTo r bytes ended out (record { card = progress.card; used = progress.used; wrote = progress.wrote + last; more = false }) a
      (put_mid progress.wrote (length reached - progress.wrote) reached after)
  unfolding feed_outcome
  fed_ends {ended} {last} {after} h finished =
      let m = pieces_read r bytes (length out - 20) in
      let ends : is_last (drop (11 * m) bytes) ended ≡ true = rw rest_left at h in
      let said = rest_printed (reading_of progress.card a) (take (length bytes - progress.used) (drop progress.used bytes)) in
      let says : said ≡ rest_printed (fed r bytes m).reading (drop (11 * m) bytes) = rw (rest_left, ran_to.reading_is) in
      record {
        reading_is = ran_to.reading_is;
        used_is = ran_to.used_is;
        wrote_is = rw (ends, length-append, ← says) (omega (arith, ran_to.wrote_is, (finished a).0));
        out_is = rw (ends, ← says) (part_back out (fed r bytes m).printed said (part ++ drop (length out - 20) out) after progress.wrote out_ran (sym ran_to.wrote_is) (finished a).1);
        more_is = rw ends;
        fit = ran_to.fit;
      }

-- what is all of its line is shorter than a frame
pub last_short : (rest : List ℕ) (ended : Bool) → is_last rest ended ≡ true → length rest < 11
unfolding is_last
last_short rest ended h = ltb-true (length rest) 11 (and_both (ltb (length rest) 11) (ended || has_line_feed rest) h).0

-- what is printed lies within the output area
pub fed_in : {r : Reading} {bytes : List ℕ} {ended : Bool} {out : List ℕ} {fed : Fed} {a : Areas} {out' : List ℕ} → FedTo r bytes ended out fed a out'
    → length out' ≡ length out → fed.wrote ≤ length out
fed_in {r} {bytes} {ended} {out} left same =
    omega (arith, left.wrote_is, over_in out (feed_outcome r bytes ended (length out)).printed left.out_is same)
