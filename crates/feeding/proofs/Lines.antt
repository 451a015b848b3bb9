-- A reading that goes on has counted every line it was fed, and a card that reads takes a line wherever one waits.
-- Assumes nothing.
use Rattle.rules.specs.Refusals.{Verdict}
use Rattle.std.specs.Prelude.{Ok, Err}
use Prim.Native.Nat.{ℕ, zero, suc, ◌+◌, ◌-◌, ◌*◌, ◌/◌, ◌≤◌, ◌<◌}
use mathlib.Core.Path.{◌≡◌, refl, sym}
use mathlib.Core.Bool.{Bool, true, false, cond, not, ◌&&◌}
use mathlib.Core.List.{List}
use mathlib.Core.Logic.{◌⊎◌, inl, inr}
use native.Mathlib.Omega.{arith}
use native.Mathlib.Decide.{dec_lt}
use native.Mathlib.Nat.{add-zero}
use lib.ListN.{length, take, drop}
use lib.Dec.{eqb, ltb}
use borrow.Author.Tests.{le-leb}
use Rattle.rules.specs.Ranges.{first}
use Rattle.rules.specs.Limits.{max_units, max_tracks, max_needs, max_lines}
use Rattle.rules.specs.Listing.{pairs, within}
use Rattle.rules.specs.declared.Refusal.{Refusal}
use Rattle.rules.proofs.Ranges.{true_or_false, not_both, first_met}
use Rattle.frames.specs.declared.Frame.{Frame}
use Rattle.std.specs.Prelude.{Option, Some, None}
use Rattle.frames.specs.Lines.{line_of}
use Rattle.reading.specs.declared.Phase.{Phase}
use Rattle.reading.specs.declared.Phase.TheVariants.{Head, Tracks, Needs, Asking, Stopped}
use Rattle.reading.specs.Card.{Reading, Next, refuse, head_frame, track_frame, need_frame, loaded, end_frame, question_frame, frame_in_phase, counted, after_line, reads, read_line}
use Rattle.card.specs.Files.{fed, reads_on, pieces_read}
use Rattle.order.proofs.Turns.{stopped_line}

-- ---- a frame leaves the count of lines

either_lines : (b : Bool) (x y : Next) {l : ℕ} → x.reading.lines ≡ l → y.reading.lines ≡ l → (cond b x y).reading.lines ≡ l
either_lines true x y p q = p
either_lines false x y p q = q

refuse_lines : (r : Reading) (refusal : Refusal) → (refuse r refusal).reading.lines ≡ r.lines
unfolding refuse
refuse_lines r refusal = refl

loaded_lines : (r : Reading) (v : Verdict) → (loaded r v).reading.lines ≡ r.lines
unfolding loaded
loaded_lines r (Ok _) = refl
loaded_lines r (Err refusal) = refuse_lines r refusal

question_lines : (r : Reading) (kind a b : ℕ) → (question_frame r kind a b).reading.lines ≡ r.lines
unfolding question_frame refuse
question_lines r kind a b =
    either_lines (eqb kind 0x10) _ _ refl
    (either_lines (eqb kind 0x11) _ _ refl
    (either_lines (eqb kind 0x12) _ _ (either_lines (eqb b 0) _ _ refl refl)
    (either_lines (eqb kind 0x13) _ _ (either_lines (eqb b 0) _ _ refl refl)
    (either_lines (eqb kind 0x14) _ _ (either_lines (eqb b 0) _ _ refl refl)
    (either_lines (eqb kind 0x15) _ _ (either_lines (eqb b 0) _ _ refl refl)
    (either_lines (eqb kind 0x16) _ _ (either_lines (eqb b 0) _ _ refl refl)
    (either_lines (eqb kind 0x17) _ _ refl
    (either_lines (eqb kind 0x18) _ _ refl
    refl))))))))

head_lines : (r : Reading) (a b : ℕ) → (head_frame r a b).reading.lines ≡ r.lines
unfolding head_frame refuse
head_lines r a b = either_lines (within 1 max_units a && within 1 max_tracks b) _ _ refl refl

track_lines : (r : Reading) (a b : ℕ) → (track_frame r a b).reading.lines ≡ r.lines
unfolding track_frame refuse
track_lines r a b = either_lines (eqb a (length r.tracks + 1)) _ _ refl refl

need_lines : (r : Reading) (a b : ℕ) → (need_frame r a b).reading.lines ≡ r.lines
unfolding need_frame refuse
need_lines r a b = either_lines (eqb (pairs r.needs) max_needs) _ _ refl refl

end_lines : (r : Reading) (a b : ℕ) → (end_frame r a b).reading.lines ≡ r.lines
unfolding end_frame refuse
end_lines r a b = either_lines (eqb a (pairs r.needs) && eqb b 0) _ _ (loaded_lines r _) refl

frame_lines : (phase : Phase) (r : Reading) (f : Frame) → (frame_in_phase phase r f).reading.lines ≡ r.lines
unfolding frame_in_phase refuse
frame_lines Head r f = either_lines (eqb f.kind 0x01) _ _ (head_lines r f.a f.b) refl
frame_lines Tracks r f = either_lines (eqb f.kind 0x02) _ _ (track_lines r f.a f.b) refl
frame_lines Needs r f =
    either_lines (eqb f.kind 0x03) _ _ (need_lines r f.a f.b) (either_lines (eqb f.kind 0x04) _ _ (end_lines r f.a f.b) refl)
frame_lines Asking r f = question_lines r f.kind f.a f.b
frame_lines Stopped r f = refl

-- ---- a line that is read is counted

after_lines : (r : Reading) (line : Option Frame) → (after_line r line).reading.lines ≡ r.lines
unfolding refuse
after_lines r None = refl
after_lines r (Some f) = either_lines (ltb max_lines r.lines) _ _ refl (frame_lines r.phase r f)

line_counted : (r : Reading) (line : List ℕ) → reads r.phase ≡ true → (read_line r line).reading.lines ≡ r.lines + 1
unfolding read_line
line_counted r line h = rw h (after_lines (counted r) (line_of line))

-- a reading that goes on after a line went on before it
line_read : (r : Reading) (line : List ℕ) → reads (read_line r line).reading.phase ≡ true → reads r.phase ≡ true
line_read r line h = go (true_or_false (reads r.phase))
  where
    go : (reads r.phase ≡ true) ⊎ (reads r.phase ≡ false) → reads r.phase ≡ true
    go (inl t) = t
    go (inr f) = rw (stopped_line r line f) at h

pub fed_lines : (r : Reading) (bytes : List ℕ) (m : ℕ) → reads (fed r bytes m).reading.phase ≡ true
    → (fed r bytes m).reading.lines ≡ r.lines + m
unfolding fed
fed_lines r bytes zero h = sym (add-zero r.lines)
fed_lines r bytes (suc m) h =
    let before = (fed r bytes m).reading in
    let line = take 11 (drop (11 * m) bytes) in
    let on = line_read before line h in
    omega (arith, line_counted before line on, fed_lines r bytes m on)

-- ---- a whole line that waits is taken

pub feed_takes_line : (r : Reading) (bytes : List ℕ) (room : ℕ) → reads r.phase ≡ true → 11 ≤ length bytes → 5145 ≤ room
    → 1 ≤ pieces_read r bytes (room - 20)
unfolding pieces_read fed
feed_takes_line r bytes room h long wide = go (dec_lt 0 (pieces_read r bytes (room - 20)))
  where
    on : reads_on r bytes (room - 20) 0 ≡ true
    on = rw (le-leb 11 (length bytes) long, le-leb 5125 (room - 20) (omega arith), h)

    go : Dec (0 < pieces_read r bytes (room - 20)) → 1 ≤ pieces_read r bytes (room - 20)
    go (yes l) = l
    go (no n) =
        let stops : ℕ → Bool = λ m. not (reads_on r bytes (room - 20) m) in
        let none : first stops (length bytes / 11) ≡ 0 = omega arith in
        let met = first_met stops (length bytes / 11) (omega arith) in
        absurd (not_both (rw (none, on) at met) refl)
