-- A course file read line by line: what stands after each line, and what is printed for it.
use Rattle.std.specs.Prelude.{ℕ, ◌+◌, Bool, true, false, cond, ◌&&◌, List, [], ◌∷◌, ◌++◌, length, ltb, eqb, Option, Some, None, Ok, Err}
use Rattle.rules.specs.declared.Refusal.{Refusal}
use Rattle.rules.specs.declared.Refusal.TheVariants.{OutOfLimits, NoFrame, FrameOrder}
use Rattle.rules.specs.Limits.{max_units, max_tracks, max_needs, max_lines}
use Rattle.rules.specs.Refusals.{◌then◌, Verdict}
use Rattle.rules.specs.Listing.{Listing, listing, pairs, within, listing_verdict}
use Rattle.rules.specs.Order.{sound_verdict}
use Rattle.rules.specs.Index.{Index, built_index, built_bits}
use Rattle.rules.specs.Questions.{kind12, kind13, kind14, kind15}
use Rattle.rules.specs.Outcomes.{unit_verdict, whole_verdict, needs_outcome, is_step_outcome, stage_outcome, unit_low_outcome, unit_high_outcome}
use Rattle.frames.specs.declared.Frame.{Frame}
use Rattle.frames.specs.Lines.{line_of}
use Rattle.answers.specs.Printed.{built_line, refused_line, pair_line, number_line, list_line}
use Rattle.reading.specs.declared.Phase.{Phase}
use Rattle.reading.specs.declared.Phase.TheVariants.{Head, Tracks, Needs, Asking, Stopped}

-- what has been read: the phase, the lines, and the listing so far
pub record Reading : Type 0 where
  pub phase : Phase
  pub lines : ℕ
  pub n : ℕ
  pub k : ℕ
  pub tracks : List ℕ
  pub needs : List ℕ

-- a reading after a line, and the bytes printed for that line
pub record Next : Type 0 where
  pub reading : Reading
  pub printed : List ℕ

abbrev pub listing_of : Reading → Listing
listing_of r = listing r.n r.k r.tracks r.needs

abbrev pub read_index : Reading → Index
read_index r = built_index (listing_of r)

-- nothing is printed
abbrev pub go_on : Reading → Next
go_on r = record { reading = r; printed = [] }

abbrev pub in_phase : Phase → Reading → Reading
in_phase phase r =
    record { phase = phase; lines = r.lines; n = r.n; k = r.k; tracks = r.tracks; needs = r.needs }

-- the refusal is printed, and nothing more is read
unfoldable pub refuse : Reading → Refusal → Next
refuse r refusal = record { reading = in_phase Stopped r; printed = refused_line refusal }

-- a frame that is not allowed here
abbrev pub misplaced : Reading → Next
misplaced r = refuse r (FrameOrder r.lines)

-- ---- the frames before the questions

-- 01 (n, k)
unfoldable pub head_frame : Reading → ℕ → ℕ → Next
head_frame r a b =
    cond (within 1 max_units a && within 1 max_tracks b)
    (go_on (record { phase = Tracks; lines = r.lines; n = a; k = b; tracks = []; needs = [] }))
    (refuse r OutOfLimits)

-- 02 (unit, track), for units 1 to n in turn
unfoldable pub track_frame : Reading → ℕ → ℕ → Next
track_frame r a b =
    cond (eqb a (length r.tracks + 1))
    (go_on (record {
      phase = cond (eqb a r.n) Needs Tracks;
      lines = r.lines;
      n = r.n;
      k = r.k;
      tracks = r.tracks ++ (b ∷ []);
      needs = r.needs;
    }))
    (misplaced r)

-- 03 (u, v)
unfoldable pub need_frame : Reading → ℕ → ℕ → Next
need_frame r a b =
    cond (eqb (pairs r.needs) max_needs)
    (refuse r OutOfLimits)
    (go_on (record {
      phase = Needs;
      lines = r.lines;
      n = r.n;
      k = r.k;
      tracks = r.tracks;
      needs = r.needs ++ (a ∷ b ∷ []);
    }))

-- refusals 2 to 7, or the index is built
unfoldable pub loaded : Reading → Verdict → Next
loaded r (Ok _) = record { reading = in_phase Asking r; printed = built_line (built_bits (listing_of r)) }
loaded r (Err refusal) = refuse r refusal

-- 04 (count of 03 frames, 0)
unfoldable pub end_frame : Reading → ℕ → ℕ → Next
end_frame r a b =
    cond (eqb a (pairs r.needs) && eqb b 0)
    (loaded r (listing_verdict (listing_of r) then sound_verdict (listing_of r)))
    (misplaced r)

-- ---- the questions

abbrev pub answered : Reading → List ℕ → Next
answered r printed = record { reading = r; printed = printed }

-- the units, or refusal 8
abbrev pub units_printed : Verdict → List ℕ → List ℕ
units_printed (Ok _) units = list_line units
units_printed (Err refusal) units = refused_line refusal

unfoldable pub list_printed : Index → ℕ → List ℕ → List ℕ
list_printed x u units = units_printed (whole_verdict x then unit_verdict x 1 u) units

-- kinds 12 to 16 carry 0 second
abbrev pub if_zero : Reading → ℕ → List ℕ → Next
if_zero r b printed = cond (eqb b 0) (answered r printed) (misplaced r)

-- the kind's two digits, as the number that they spell
unfoldable pub question_frame : Reading → ℕ → ℕ → ℕ → Next
question_frame r kind a b =
    let x = read_index r in
    cond (eqb kind 0x10) (answered r (pair_line (needs_outcome x a b)))
    (cond (eqb kind 0x11) (answered r (pair_line (is_step_outcome x a b)))
    (cond (eqb kind 0x12) (if_zero r b (list_printed x a (kind12 x a)))
    (cond (eqb kind 0x13) (if_zero r b (list_printed x a (kind13 x a)))
    (cond (eqb kind 0x14) (if_zero r b (list_printed x a (kind14 x a)))
    (cond (eqb kind 0x15) (if_zero r b (list_printed x a (kind15 x a)))
    (cond (eqb kind 0x16) (if_zero r b (number_line (stage_outcome x a)))
    (cond (eqb kind 0x17) (answered r (number_line (unit_low_outcome x a b)))
    (cond (eqb kind 0x18) (answered r (number_line (unit_high_outcome x a b)))
    (misplaced r)))))))))

-- ---- the order of frames

unfoldable pub frame_in_phase : Phase → Reading → Frame → Next
frame_in_phase Head r f = cond (eqb f.kind 0x01) (head_frame r f.a f.b) (misplaced r)
frame_in_phase Tracks r f = cond (eqb f.kind 0x02) (track_frame r f.a f.b) (misplaced r)
frame_in_phase Needs r f =
    cond (eqb f.kind 0x03) (need_frame r f.a f.b) (cond (eqb f.kind 0x04) (end_frame r f.a f.b) (misplaced r))
frame_in_phase Asking r f = question_frame r f.kind f.a f.b
frame_in_phase Stopped r f = go_on r

-- one line more
abbrev pub counted : Reading → Reading
counted r =
    record { phase = r.phase; lines = r.lines + 1; n = r.n; k = r.k; tracks = r.tracks; needs = r.needs }

-- the order of frames is looked at only of a line that is a frame
abbrev pub after_line : Reading → Option Frame → Next
after_line r None = refuse r (NoFrame r.lines)
after_line r (Some f) = cond (ltb max_lines r.lines) (misplaced r) (frame_in_phase r.phase r f)

-- a card that has stopped reads nothing more
abbrev pub reads : Phase → Bool
reads Head = true
reads Tracks = true
reads Needs = true
reads Asking = true
reads Stopped = false

unfoldable pub read_line : Reading → List ℕ → Next
read_line r line = cond (reads r.phase) (after_line (counted r) (line_of line)) (go_on r)

-- 04 has not come
abbrev pub unfinished : Phase → Bool
unfinished Head = true
unfinished Tracks = true
unfinished Needs = true
unfinished Asking = false
unfinished Stopped = false

-- the end of the file: before 04 it is refusal 12 at the line after the last
abbrev pub at_end : Reading → List ℕ
at_end r = cond (unfinished r.phase) (refused_line (FrameOrder (r.lines + 1))) []

abbrev pub start : Reading
start = record { phase = Head; lines = 0; n = 0; k = 0; tracks = []; needs = [] }
