-- Which frame is taken in which phase, and what a line leads to.
-- Assumes nothing.
use Prim.Native.Nat.{ℕ, ◌+◌, ◌≤◌, ◌<◌}
use mathlib.Core.Path.{◌≡◌}
use mathlib.Core.Bool.{true, false}
use mathlib.Core.List.{List}
use native.Mathlib.Omega.{arith}
use borrow.Author.Tests.{eq-eqb, ne_eqb, lt-ltb, le-ltb}
use Rattle.rules.specs.declared.Refusal.TheVariants as refusal
use Rattle.frames.specs.declared.Frame.{Frame}
use Rattle.std.specs.Prelude.{Some, None}
use Rattle.frames.specs.Lines.{line_of}
use Rattle.reading.specs.declared.Phase.{Phase}
use Rattle.reading.specs.declared.Phase.TheVariants.{Head, Tracks, Needs, Asking, Stopped}
use Rattle.reading.specs.Card.{Reading, go_on, refuse, misplaced, head_frame, track_frame, need_frame, end_frame, question_frame, frame_in_phase, counted, reads, read_line}

-- ---- the order of frames

module _ (r : Reading) (f : Frame) {phase : Phase} where
  pub head_taken : phase ≡ Head → f.kind ≡ 0x01 → frame_in_phase phase r f ≡ head_frame r f.a f.b
  unfolding frame_in_phase
  head_taken e h = rw (e, eq-eqb f.kind 0x01 h)

  pub head_not : phase ≡ Head → (f.kind ≡ 0x01 → ⊥) → frame_in_phase phase r f ≡ misplaced r
  unfolding frame_in_phase
  head_not e h = rw (e, ne_eqb f.kind 0x01 h)

  pub track_taken : phase ≡ Tracks → f.kind ≡ 0x02 → frame_in_phase phase r f ≡ track_frame r f.a f.b
  unfolding frame_in_phase
  track_taken e h = rw (e, eq-eqb f.kind 0x02 h)

  pub track-not : phase ≡ Tracks → (f.kind ≡ 0x02 → ⊥) → frame_in_phase phase r f ≡ misplaced r
  unfolding frame_in_phase
  track-not e h = rw (e, ne_eqb f.kind 0x02 h)

  pub need_taken : phase ≡ Needs → f.kind ≡ 0x03 → frame_in_phase phase r f ≡ need_frame r f.a f.b
  unfolding frame_in_phase
  need_taken e h = rw (e, eq-eqb f.kind 0x03 h)

  pub end_taken : phase ≡ Needs → f.kind ≡ 0x04 → frame_in_phase phase r f ≡ end_frame r f.a f.b
  unfolding frame_in_phase
  end_taken e h = rw (e, ne_eqb f.kind 0x03 (λ n. omega arith), eq-eqb f.kind 0x04 h)

  pub need_not : phase ≡ Needs → (f.kind ≡ 0x03 → ⊥) → (f.kind ≡ 0x04 → ⊥) → frame_in_phase phase r f ≡ misplaced r
  unfolding frame_in_phase
  need_not e h l = rw (e, ne_eqb f.kind 0x03 h, ne_eqb f.kind 0x04 l)

  pub question_taken : phase ≡ Asking → frame_in_phase phase r f ≡ question_frame r f.kind f.a f.b
  unfolding frame_in_phase
  question_taken e = rw e

  pub stopped_taken : phase ≡ Stopped → frame_in_phase phase r f ≡ go_on r
  unfolding frame_in_phase
  stopped_taken e = rw e

-- ---- a line that is a frame

module _ (r : Reading) (line : List ℕ) {f : Frame} (h : reads r.phase ≡ true) (e : line_of line ≡ Some f) where
  pub late_line : 65535 < r.lines + 1 → read_line r line ≡ misplaced (counted r)
  unfolding read_line
  late_line l = rw (h, e, lt-ltb 65535 (r.lines + 1) l)

  pub frame_line : r.lines + 1 ≤ 65535 → read_line r line ≡ frame_in_phase r.phase (counted r) f
  unfolding read_line
  frame_line l = rw (h, e, le-ltb 65535 (r.lines + 1) l)

-- ---- a line that is none, and a reading that has stopped

pub stopped_line : (r : Reading) (line : List ℕ) → reads r.phase ≡ false → read_line r line ≡ go_on r
unfolding read_line
stopped_line r line h = rw h

pub no_frame_line : (r : Reading) (line : List ℕ) → reads r.phase ≡ true → line_of line ≡ None
    → read_line r line ≡ refuse (counted r) (refusal.NoFrame (r.lines + 1))
unfolding read_line
no_frame_line r line h l = rw (h, l)
