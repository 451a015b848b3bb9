-- What the program prints, turn after turn, is what the definition prints for what came.
-- Assumes nothing.
use Prim.Native.Nat.{ℕ, zero-le, ◌≤◌}
use mathlib.Core.Path.{◌≡◌, refl, sym, subst, ◌∙◌}
use mathlib.Core.Bool.{Bool, true, false, not, ◌&&◌}
use mathlib.Core.List.{List, [], ◌++◌, append_assoc}
use mathlib.Core.Logic.{◌⊎◌, inl, inr, ⊎_elim}
use lib.ListN.{length}
use Rattle.rules.proofs.Ranges.{not_both}
use Rattle.rules.proofs.Verdicts.{and_both}
use Rattle.reading.specs.Card.{Reading, start}
use Rattle.reading.specs.Held.{Areas}
use Rattle.card.specs.Files.{course_prints}
use Rattle.feeding.specs.Feeding.{Turns, last, more as one_more}
use Rattle.feeding.proofs.Blocks.{blocks_print}
use Rattle.course.specs.Turns.{Between, between, reading_in, waiting_in, fed_with, FedOn, ReadFailed, Turned, fresh, LedTo, no_turn, turned, came_by, printed_by, ended_by, came_in, printed_in, ended_in}
use Rattle.std.specs.Prelude.{Option, None, Some, IfSome}
use Rattle.std.specs.Io.KnownBytes.{Appends}
use Rattle.course.proofs.Betweens.{goes_on, Carrying}

abbrev Left : ℕ → Between → List ℕ → List ℕ → Type 0
Left room s = Turns room (reading_in s) (waiting_in s)

and_yes : (b : Bool) → (b && true) ≡ b
and_yes true = refl
and_yes false = refl

-- what waits lies in the block, and the output area keeps its length
block_kept : {s t : Between} → LedTo s t → s.feeding.end ≤ length s.bytes → t.feeding.end ≤ length t.bytes
block_kept no_turn h = h
block_kept (turned before more turn) h = turn.end_in

room_kept : {s t : Between} → LedTo s t → length t.out ≡ length s.out
room_kept no_turn = refl
room_kept (turned before more turn) = turn.out_long ∙ room_kept before

in_room : {room room' : ℕ} {r : Reading} {waiting file printed : List ℕ} → room ≡ room' → Turns room r waiting file printed
    → Turns room' r waiting file printed
in_room {r = r} {waiting} {file} {printed} e h = subst (λ (n : ℕ). Turns n r waiting file printed) e h

module _ {s s' : Between} (turn : Turned s s') where
  -- a turn after which more is read, and then the rest
  module _ (end_in : s.feeding.end ≤ length s.bytes) (on : s'.feeding.more ≡ true) {file printed : List ℕ}
      (rest : Left (length s.out) s' file printed) where
    fed_more : (f : FedOn s s') → Left (length s.out) s (f.came ++ file) ((fed_with s f.came f.ended).printed ++ printed)
    fed_more f =
        let e = goes_on turn end_in on f in
        let wants = (and_both (fed_with s f.came f.ended).more (not s'.feeding.failed) (sym f.more_is ∙ on)).0 in
        let left : Turns (length s.out) (fed_with s f.came f.ended).reading (fed_with s f.came f.ended).rest file printed =
        rw (f.reading_is, f.rest_is) at rest
        in
        rw e (one_more f.came (rw e at wants) (rw e at left))

    turn_more : Left (length s.out) s (came_by turn ++ file) (printed_by turn ++ printed)
    turn_more = go turn.fed
      where
        go : (fed : FedOn s s' ⊎ ReadFailed s s')
            → Left (length s.out) s (⊎_elim (λ f. f.came) (λ failed. []) fed ++ file) (⊎_elim (λ f. (fed_with s f.came f.ended).printed) (λ failed. []) fed ++ printed)
        go (inl f) = fed_more f
        go (inr failed) = absurd (not_both on failed.ends)

  -- a turn after which nothing more is read, whatever was still to come
  module _ (off : s'.feeding.more ≡ false) (fine : s'.feeding.failed ≡ false) (unread : List ℕ) where
    fed_last : (f : FedOn s s') → (f.ended ≡ true → unread ≡ []) → Left (length s.out) s (f.came ++ unread) (fed_with s f.came f.ended).printed
    fed_last f end =
        let none = sym (and_yes (fed_with s f.came f.ended).more) ∙ rw fine at (sym f.more_is ∙ off) in
        last f.came unread f.ended none (λ e. rw (f.came_so.ended_is e).1 (end e))

    turn_last : (ended_by turn ≡ true → unread ≡ []) → Left (length s.out) s (came_by turn ++ unread) (printed_by turn)
    turn_last = go turn.fed
      where
        go : (fed : FedOn s s' ⊎ ReadFailed s s') → (⊎_elim (λ f. f.ended) (λ failed. false) fed ≡ true → unread ≡ [])
            → Left (length s.out) s (⊎_elim (λ f. f.came) (λ failed. []) fed ++ unread) (⊎_elim (λ f. (fed_with s f.came f.ended).printed) (λ failed. []) fed)
        go (inl f) end = fed_last f end
        go (inr failed) end = absurd (not_both failed.fails fine)

-- turns after which more is read, and then the rest
turns_more : {s t : Between} (path : LedTo s t) → s.feeding.end ≤ length s.bytes → t.feeding.more ≡ true → {file printed : List ℕ}
    → Left (length s.out) t file printed → Left (length s.out) s (came_in path ++ file) (printed_in path ++ printed)
unfolding came_in printed_in
turns_more no_turn end_in on rest = rest
turns_more (turned before more turn) end_in on {file} {printed} rest =
    rw (append_assoc, append_assoc)
    (turns_more before end_in more (in_room (room_kept before) (turn_more turn (block_kept before end_in) on (in_room (sym (room_kept before)) rest))))

served_turns : {bytes out : List ℕ} {a : Areas} {t : Between} (path : LedTo (between fresh bytes a out) t)
    → t.feeding.more ≡ false → t.feeding.failed ≡ false → (unread : List ℕ) → (ended_in path ≡ true → unread ≡ [])
    → Turns (length out) start [] (came_in path ++ unread) (printed_in path)
unfolding came_in printed_in ended_in
served_turns no_turn off fine unread end = absurd (not_both refl off)
served_turns (turned before more turn) off fine unread end =
    rw append_assoc (turns_more before zero-le more (in_room (room_kept before) (turn_last turn off fine unread end)))

-- what came and what was never read are the file; where it had ended there is nothing that was not read
pub served_prints : {bytes out : List ℕ} {a : Areas} {t : Between} (path : LedTo (between fresh bytes a out) t)
    → t.feeding.more ≡ false → t.feeding.failed ≡ false → (unread : List ℕ) → (ended_in path ≡ true → unread ≡ [])
    → printed_in path ≡ course_prints (came_in path ++ unread)
served_prints path off fine unread end = blocks_print (served_turns path off fine unread end)

-- so where the bytes of the input and of the output are known, what the output has grown by is what the definition prints for the input's bytes
pub served_writes : {bytes out : List ℕ} {a : Areas} {t : Between} (i₀ i o₀ o : Option (List ℕ)) → Carrying (between fresh bytes a out) t i₀ i o₀ o
    → t.feeding.more ≡ false → t.feeding.failed ≡ false → IfSome i₀ (λ file. Appends o₀ o (course_prints file))
served_writes None i o₀ o c off fine = tt
served_writes (Some file) None o₀ o c off fine = absurd c.taken
served_writes (Some file) (Some unread) o₀ o c off fine =
    rw (c.taken, sym (served_prints c.serving.reached off fine unread c.at_end)) (c.given fine)
