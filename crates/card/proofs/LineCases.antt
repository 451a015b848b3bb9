-- The cases of a line of a course file, in document 01's words, as propositions; that each leads to its outcome; and that one of six things
-- comes of every line that is read.
-- Assumes nothing.
use Prim.Native.Nat.{ℕ, zero, suc, ◌+◌, ◌-◌, ◌≤◌, ◌<◌}
use mathlib.Core.Path.{◌≡◌, refl, ap, ◌∙◌, subst}
use mathlib.Core.Bool.{true, false, cond, ◌&&◌}
use mathlib.Core.List.{List, [], ◌∷◌, ◌++◌}
use mathlib.Core.Logic.{◌⊎◌, inl, inr}
use native.Mathlib.Omega.{arith}
use native.Mathlib.Decide.{dec_le, ℕ_discrete}
use lib.ListN.{length}
use lib.Dec.{eqb}
use borrow.Author.Tests.{eq-eqb, ne_eqb}
use Rattle.rules.specs.declared.Refusal.{Refusal}
use Rattle.rules.specs.declared.Refusal.TheVariants as refusal
use Rattle.rules.specs.Limits.{max_units, max_tracks}
use Rattle.rules.specs.Refusals.{◌then◌, Verdict}
use Rattle.rules.specs.Listing.{pairs, within, listing_verdict}
use Rattle.rules.specs.Order.{sound_verdict}
use Rattle.rules.specs.Index.{Index}
use Rattle.rules.specs.Questions.{kind10, kind11, kind12, kind13, kind14, kind15, kind16, kind17, kind18}
use Rattle.rules.specs.Outcomes.{pair_outcome, unit_outcome, bound_outcome}
use Rattle.rules.proofs.Ranges.{true_or_false, not_both}
use Rattle.rules.proofs.Verdicts.{and_both, both_and, and_no, within_is, is_within}
use Rattle.rules.proofs.Checks.{Off, within_fails, and_fails}
use Rattle.frames.specs.declared.Frame.{Frame}
use Rattle.std.specs.Prelude.{Option, Some, None}
use Rattle.frames.specs.Lines.{line_of}
use Rattle.answers.specs.Printed.{pair_line, number_line}
use Rattle.reading.specs.declared.Phase.{Phase}
use Rattle.reading.specs.declared.Phase.TheVariants.{Head, Tracks, Needs, Asking, Stopped}
use Rattle.reading.specs.Card.{Reading, listing_of, read_index, go_on, refuse, misplaced, head_frame, track_frame, need_frame, loaded, end_frame, answered, list_printed, question_frame, frame_in_phase, counted, reads, read_line, unfinished}
use Rattle.order.proofs.Turns.{head_taken, head_not, track_taken, track-not, need_taken, end_taken, need_not, question_taken, late_line, frame_line, no_frame_line}

-- ---- the cases, in 01's words

-- the line is a frame of which P holds
abbrev pub FrameWith : List ℕ → (Frame → Type 0) → Type 0
FrameWith line P = (f : Frame) × (line_of line ≡ Some f) × P f

-- a number of eight digits at most, as a place is printed
abbrev pub EightDigits : ℕ → Type 0
EightDigits x = x < 4294967296

-- 12: a frame not allowed there
pub data OutOfPlace (r : Reading) (f : Frame) : Type 0 where
  -- line 65,536, or a later one
  late : 65535 < r.lines + 1 → OutOfPlace r f
  -- the file does not begin with 01
  no_head : r.phase ≡ Head → (f.kind ≡ 0x01 → ⊥) → OutOfPlace r f
  -- another kind where 02 is due
  no_track : r.phase ≡ Tracks → (f.kind ≡ 0x02 → ⊥) → OutOfPlace r f
  -- 02 with another unit than the next
  wrong_unit : r.phase ≡ Tracks → f.kind ≡ 0x02 → (f.a ≡ length r.tracks + 1 → ⊥) → OutOfPlace r f
  -- another kind where 03 or 04 is due
  no_need : r.phase ≡ Needs → (f.kind ≡ 0x03 → ⊥) → (f.kind ≡ 0x04 → ⊥) → OutOfPlace r f
  -- 04 with a wrong count
  wrong_count : r.phase ≡ Needs → f.kind ≡ 0x04 → (f.a ≡ pairs r.needs → ⊥) → OutOfPlace r f
  -- 04 with a nonzero filler
  end_filled : r.phase ≡ Needs → f.kind ≡ 0x04 → (f.b ≡ 0 → ⊥) → OutOfPlace r f
  -- after 04 a kind that is no question
  no_question : r.phase ≡ Asking → (f.kind < 0x10) ⊎ (0x18 < f.kind) → OutOfPlace r f
  -- kinds 12 to 16 with a nonzero filler
  question_filled : r.phase ≡ Asking → 0x12 ≤ f.kind → f.kind ≤ 0x16 → (f.b ≡ 0 → ⊥) → OutOfPlace r f

-- 1: a head frame out of range, or the 8,193rd need
pub data PastLimits (r : Reading) (f : Frame) : Type 0 where
  head_off : r.phase ≡ Head → f.kind ≡ 0x01 → Off 1024 f.a ⊎ Off 32 f.b → PastLimits r f
  need_8193 : r.phase ≡ Needs → f.kind ≡ 0x03 → pairs r.needs ≡ 8192 → PastLimits r f

-- 04, its own count and filler found right
pub record RightEnd (r : Reading) (f : Frame) : Type 0 where
  pub due : r.phase ≡ Needs
  pub kind_is : f.kind ≡ 0x04
  pub count_is : f.a ≡ pairs r.needs
  pub filler_is : f.b ≡ 0

-- a question, with 0 second where its kind is 12 to 16
pub record Question (r : Reading) (f : Frame) : Type 0 where
  pub due : r.phase ≡ Asking
  pub in_time : r.lines + 1 ≤ 65535
  pub kind_from : 0x10 ≤ f.kind
  pub kind_to : f.kind ≤ 0x18
  pub filler_is : 0x12 ≤ f.kind → f.kind ≤ 0x16 → f.b ≡ 0

-- a frame of the listing, and the reading with it
pub data Taken (r : Reading) (f : Frame) (r' : Reading) : Type 0 where
  -- 01 (n, k)
  head : r.phase ≡ Head → f.kind ≡ 0x01 → (1 ≤ f.a) × (f.a ≤ 1024) → (1 ≤ f.b) × (f.b ≤ 32)
      → r' ≡ record { phase = Tracks; lines = r.lines + 1; n = f.a; k = f.b; tracks = []; needs = [] } → Taken r f r'
  -- 02 (unit, track) for the next unit, and not the last
  track : r.phase ≡ Tracks → f.kind ≡ 0x02 → f.a ≡ length r.tracks + 1 → (f.a ≡ r.n → ⊥)
      → r' ≡ record { phase = Tracks; lines = r.lines + 1; n = r.n; k = r.k; tracks = r.tracks ++ (f.b ∷ []); needs = r.needs }
      → Taken r f r'
  -- 02 for the last unit
  last_track : r.phase ≡ Tracks → f.kind ≡ 0x02 → f.a ≡ length r.tracks + 1 → f.a ≡ r.n
      → r' ≡ record { phase = Needs; lines = r.lines + 1; n = r.n; k = r.k; tracks = r.tracks ++ (f.b ∷ []); needs = r.needs }
      → Taken r f r'
  -- 03 (u, v)
  need : r.phase ≡ Needs → f.kind ≡ 0x03 → (pairs r.needs ≡ 8192 → ⊥)
      → r' ≡ record { phase = Needs; lines = r.lines + 1; n = r.n; k = r.k; tracks = r.tracks; needs = r.needs ++ (f.a ∷ f.b ∷ []) }
      → Taken r f r'

-- refusals 2 to 7, as they come at 04
abbrev pub end_verdict : Reading → Verdict
end_verdict r = listing_verdict (listing_of r) then sound_verdict (listing_of r)

-- what is printed for a question: the kind's two digits, as the number that they spell, and its two numbers
unfoldable pub answer_to : Index → ℕ → ℕ → ℕ → List ℕ
answer_to x kind a b =
    cond (eqb kind 0x10) (pair_line (pair_outcome x a b (kind10 x a b)))
    (cond (eqb kind 0x11) (pair_line (pair_outcome x a b (kind11 x a b)))
    (cond (eqb kind 0x12) (list_printed x a (kind12 x a))
    (cond (eqb kind 0x13) (list_printed x a (kind13 x a))
    (cond (eqb kind 0x14) (list_printed x a (kind14 x a))
    (cond (eqb kind 0x15) (list_printed x a (kind15 x a))
    (cond (eqb kind 0x16) (number_line (unit_outcome x a (kind16 x a)))
    (cond (eqb kind 0x17) (number_line (bound_outcome x a b (kind17 x a b))) (number_line (bound_outcome x a b (kind18 x a b))))))))))

-- the line is refused so, and nothing more is read
abbrev pub StopsWith : Reading → List ℕ → Refusal → Type 0
StopsWith r line refusal = read_line r line ≡ refuse (counted r) refusal

-- ---- each case leads to its outcome

-- what holds of each kind of question holds of every one
pub each_kind : (P : ℕ → Type 0) → P 0x10 → P 0x11 → P 0x12 → P 0x13 → P 0x14 → P 0x15 → P 0x16 → P 0x17 → P 0x18
    → (kind : ℕ) → 0x10 ≤ kind → kind ≤ 0x18 → P kind
each_kind P p0 p1 p2 p3 p4 p5 p6 p7 p8 kind from to = subst P e (go (kind - 0x10) (omega arith))
  where
    e : 0x10 + (kind - 0x10) ≡ kind
    e = omega arith

    go : (d : ℕ) → d ≤ 8 → P (0x10 + d)
    go zero l = p0
    go (suc zero) l = p1
    go (suc (suc zero)) l = p2
    go (suc (suc (suc zero))) l = p3
    go (suc (suc (suc (suc zero)))) l = p4
    go (suc (suc (suc (suc (suc zero))))) l = p5
    go (suc (suc (suc (suc (suc (suc zero)))))) l = p6
    go (suc (suc (suc (suc (suc (suc (suc zero))))))) l = p7
    go (suc (suc (suc (suc (suc (suc (suc (suc zero)))))))) l = p8
    go (suc (suc (suc (suc (suc (suc (suc (suc (suc d))))))))) l = absurd (omega arith)

module _ (r : Reading) (a b : ℕ) where
  question_answered : (kind : ℕ) → 0x10 ≤ kind → kind ≤ 0x18 → (0x12 ≤ kind → kind ≤ 0x16 → b ≡ 0)
      → question_frame r kind a b ≡ answered r (answer_to (read_index r) kind a b)
  unfolding question_frame answer_to
  question_answered = each_kind (λ kind. (0x12 ≤ kind → kind ≤ 0x16 → b ≡ 0) → question_frame r kind a b ≡ answered r (answer_to (read_index r) kind a b))
      (λ z. refl) (λ z. refl)
      (λ z. rw (z (omega arith) (omega arith))) (λ z. rw (z (omega arith) (omega arith))) (λ z. rw (z (omega arith) (omega arith)))
      (λ z. rw (z (omega arith) (omega arith))) (λ z. rw (z (omega arith) (omega arith)))
      (λ z. refl) (λ z. refl)

  question_misplaced : (b ≡ 0 → ⊥) → (kind : ℕ) → 0x10 ≤ kind → kind ≤ 0x18 → 0x12 ≤ kind → kind ≤ 0x16 → question_frame r kind a b ≡ misplaced r
  unfolding question_frame
  question_misplaced n = each_kind (λ kind. 0x12 ≤ kind → kind ≤ 0x16 → question_frame r kind a b ≡ misplaced r)
      (λ l m. absurd (omega arith)) (λ l m. absurd (omega arith))
      (λ l m. rw (ne_eqb b 0 n)) (λ l m. rw (ne_eqb b 0 n)) (λ l m. rw (ne_eqb b 0 n)) (λ l m. rw (ne_eqb b 0 n)) (λ l m. rw (ne_eqb b 0 n))
      (λ l m. absurd (omega arith)) (λ l m. absurd (omega arith))

  question_unknown : (kind : ℕ) → (kind < 0x10) ⊎ (0x18 < kind) → question_frame r kind a b ≡ misplaced r
  unfolding question_frame
  question_unknown kind d =
      rw (
        ne_eqb kind 0x10 (out d 0x10 (omega arith) (omega arith)),
        ne_eqb kind 0x11 (out d 0x11 (omega arith) (omega arith)),
        ne_eqb kind 0x12 (out d 0x12 (omega arith) (omega arith)),
        ne_eqb kind 0x13 (out d 0x13 (omega arith) (omega arith)),
        ne_eqb kind 0x14 (out d 0x14 (omega arith) (omega arith)),
        ne_eqb kind 0x15 (out d 0x15 (omega arith) (omega arith)),
        ne_eqb kind 0x16 (out d 0x16 (omega arith) (omega arith)),
        ne_eqb kind 0x17 (out d 0x17 (omega arith) (omega arith)),
        ne_eqb kind 0x18 (out d 0x18 (omega arith) (omega arith)),
      )
    where
      out : (kind < 0x10) ⊎ (0x18 < kind) → (known : ℕ) → 0x10 ≤ known → known ≤ 0x18 → kind ≡ known → ⊥
      out (inl l) known from to e = omega arith
      out (inr l) known from to e = omega arith

module _ (r : Reading) (line : List ℕ) {f : Frame} (h : reads r.phase ≡ true) (e : line_of line ≡ Some f) where
  -- a frame that its phase refuses is refused, on a late line too
  on_any_line : frame_in_phase r.phase (counted r) f ≡ misplaced (counted r) → StopsWith r line (refusal.FrameOrder (r.lines + 1))
  on_any_line q = go (dec_le (r.lines + 1) 65535)
    where
      go : Dec (r.lines + 1 ≤ 65535) → StopsWith r line (refusal.FrameOrder (r.lines + 1))
      go (yes l) = frame_line r line h e l ∙ q
      go (no l) = late_line r line h e (omega arith)

  pub out_of_place_line : OutOfPlace r f → StopsWith r line (refusal.FrameOrder (r.lines + 1))
  unfolding track_frame end_frame
  out_of_place_line (late l) = late_line r line h e l
  out_of_place_line (no_head p n) = on_any_line (head_not (counted r) f p n)
  out_of_place_line (no_track p n) = on_any_line (track-not (counted r) f p n)
  out_of_place_line (wrong_unit p k n) = on_any_line (track_taken (counted r) f p k ∙ rw (ne_eqb f.a (length r.tracks + 1) n))
  out_of_place_line (no_need p n m) = on_any_line (need_not (counted r) f p n m)
  out_of_place_line (wrong_count p k n) = on_any_line (end_taken (counted r) f p k ∙ rw (ne_eqb f.a (pairs r.needs) n))
  out_of_place_line (end_filled p k n) =
      on_any_line (end_taken (counted r) f p k ∙ rw (and_no (eqb f.a (pairs r.needs)) (ne_eqb f.b 0 n)))
  out_of_place_line (no_question p d) = on_any_line (question_taken (counted r) f p ∙ question_unknown (counted r) f.a f.b f.kind d)
  out_of_place_line (question_filled p l m n) =
      on_any_line (question_taken (counted r) f p ∙ question_misplaced (counted r) f.a f.b n f.kind (omega arith) (omega arith) l m)

  module _ (in_time : r.lines + 1 ≤ 65535) where
    pub past_limits_line : PastLimits r f → StopsWith r line refusal.OutOfLimits
    unfolding head_frame need_frame
    past_limits_line (head_off p k o) =
        frame_line r line h e in_time ∙ head_taken (counted r) f p k
        ∙ rw ((and_fails (within_fails 1024 f.a) (within_fails 32 f.b)).1 o)
    past_limits_line (need_8193 p k m) =
        frame_line r line h e in_time ∙ need_taken (counted r) f p k ∙ rw (eq-eqb (pairs r.needs) 8192 m)

    taken_line : {r' : Reading} → Taken r f r' → read_line r line ≡ go_on r'
    unfolding head_frame track_frame need_frame
    taken_line (head p k a b s) =
        frame_line r line h e in_time ∙ head_taken (counted r) f p k
        ∙ rw (both_and (is_within a.0 a.1) (is_within b.0 b.1), s)
    taken_line (track p k u n s) =
        frame_line r line h e in_time ∙ track_taken (counted r) f p k ∙ rw (eq-eqb f.a (length r.tracks + 1) u, ne_eqb f.a r.n n, s)
    taken_line (last_track p k u n s) =
        frame_line r line h e in_time ∙ track_taken (counted r) f p k ∙ rw (eq-eqb f.a (length r.tracks + 1) u, eq-eqb f.a r.n n, s)
    taken_line (need p k n s) =
        frame_line r line h e in_time ∙ need_taken (counted r) f p k ∙ rw (ne_eqb (pairs r.needs) 8192 n, s)

    pub end_line : RightEnd r f → read_line r line ≡ loaded (counted r) (end_verdict r)
    unfolding end_frame
    end_line q =
        frame_line r line h e in_time ∙ end_taken (counted r) f q.due q.kind_is
        ∙ rw (eq-eqb f.a (pairs r.needs) q.count_is, eq-eqb f.b 0 q.filler_is)

  pub question_line : Question r f → read_line r line ≡ answered (counted r) (answer_to (read_index r) f.kind f.a f.b)
  question_line q =
      frame_line r line h e q.in_time ∙ question_taken (counted r) f q.due
      ∙ question_answered (counted r) f.a f.b f.kind q.kind_from q.kind_to q.filler_is

-- ---- one of six things comes of every line that is read

pub data Comes (r : Reading) (line : List ℕ) : Type 0 where
  no_frame : line_of line ≡ None → StopsWith r line (refusal.NoFrame (r.lines + 1)) → Comes r line
  out_of_place : (f : Frame) → line_of line ≡ Some f → OutOfPlace r f → StopsWith r line (refusal.FrameOrder (r.lines + 1)) → Comes r line
  past_limits : (f : Frame) → line_of line ≡ Some f → PastLimits r f → StopsWith r line refusal.OutOfLimits → Comes r line
  taken : (f : Frame) → line_of line ≡ Some f → (r' : Reading) → Taken r f r' → read_line r line ≡ go_on r' → Comes r line
  ended : (f : Frame) → line_of line ≡ Some f → RightEnd r f → read_line r line ≡ loaded (counted r) (end_verdict r) → Comes r line
  asked : (f : Frame) → line_of line ≡ Some f → Question r f
      → read_line r line ≡ answered (counted r) (answer_to (read_index r) f.kind f.a f.b) → Comes r line

module _ (r : Reading) (line : List ℕ) (h : reads r.phase ≡ true) where
  module _ (f : Frame) (e : line_of line ≡ Some f) where
    out : OutOfPlace r f → Comes r line
    out o = out_of_place f e o (out_of_place_line r line h e o)

    module _ (in_time : r.lines + 1 ≤ 65535) where
      past : PastLimits r f → Comes r line
      past o = past_limits f e o (past_limits_line r line h e in_time o)

      on : {r' : Reading} → Taken r f r' → Comes r line
      on {r'} t = taken f e r' t (taken_line r line h e in_time t)

      head_comes : r.phase ≡ Head → Dec (f.kind ≡ 0x01)
          → ((within 1 max_units f.a && within 1 max_tracks f.b) ≡ true) ⊎ ((within 1 max_units f.a && within 1 max_tracks f.b) ≡ false) → Comes r line
      head_comes p (yes k) (inl t) =
          let w = and_both (within 1 max_units f.a) (within 1 max_tracks f.b) t in
          on (head p k (within_is 1 1024 f.a w.0) (within_is 1 32 f.b w.1) refl)
      head_comes p (yes k) (inr t) = past (head_off p k ((and_fails (within_fails 1024 f.a) (within_fails 32 f.b)).0 t))
      head_comes p (no n) t = out (no_head p n)

      track_comes : r.phase ≡ Tracks → Dec (f.kind ≡ 0x02) → Dec (f.a ≡ length r.tracks + 1) → Dec (f.a ≡ r.n) → Comes r line
      track_comes p (yes k) (yes u) (yes n) = on (last_track p k u n refl)
      track_comes p (yes k) (yes u) (no n) = on (track p k u n refl)
      track_comes p (yes k) (no u) n = out (wrong_unit p k u)
      track_comes p (no k) u n = out (no_track p k)

      end_comes : r.phase ≡ Needs → f.kind ≡ 0x04 → Dec (f.a ≡ pairs r.needs) → Dec (f.b ≡ 0) → Comes r line
      end_comes p k (yes a) (yes b) =
          let q : RightEnd r f = record { due = p; kind_is = k; count_is = a; filler_is = b } in
          ended f e q (end_line r line h e in_time q)
      end_comes p k (yes a) (no b) = out (end_filled p k b)
      end_comes p k (no a) b = out (wrong_count p k a)

      need_comes : r.phase ≡ Needs → Dec (f.kind ≡ 0x03) → Dec (f.kind ≡ 0x04) → Dec (pairs r.needs ≡ 8192) → Comes r line
      need_comes p (yes k) j (yes m) = past (need_8193 p k m)
      need_comes p (yes k) j (no m) = on (need p k m refl)
      need_comes p (no k) (yes j) m = end_comes p j (ℕ_discrete f.a (pairs r.needs)) (ℕ_discrete f.b 0)
      need_comes p (no k) (no j) m = out (no_need p k j)

      asks : r.phase ≡ Asking → 0x10 ≤ f.kind → f.kind ≤ 0x18 → (0x12 ≤ f.kind → f.kind ≤ 0x16 → f.b ≡ 0) → Comes r line
      asks p l m z =
          let q : Question r f = record { due = p; in_time = in_time; kind_from = l; kind_to = m; filler_is = z } in
          asked f e q (question_line r line h e q)

      question_comes : r.phase ≡ Asking → Dec (0x10 ≤ f.kind) → Dec (f.kind ≤ 0x18) → Dec (0x12 ≤ f.kind) → Dec (f.kind ≤ 0x16) → Dec (f.b ≡ 0) → Comes r line
      question_comes p (no l) m c d b = out (no_question p (inl (omega arith)))
      question_comes p (yes l) (no m) c d b = out (no_question p (inr (omega arith)))
      question_comes p (yes l) (yes m) (yes c) (yes d) (no b) = out (question_filled p c d b)
      question_comes p (yes l) (yes m) (yes c) (yes d) (yes b) = asks p l m (λ x y. b)
      question_comes p (yes l) (yes m) (yes c) (no d) b = asks p l m (λ x y. absurd (d y))
      question_comes p (yes l) (yes m) (no c) d b = asks p l m (λ x y. absurd (c x))

      frame_comes : (phase : Phase) → r.phase ≡ phase → Comes r line
      frame_comes Head p = head_comes p (ℕ_discrete f.kind 0x01) (true_or_false (within 1 max_units f.a && within 1 max_tracks f.b))
      frame_comes Tracks p = track_comes p (ℕ_discrete f.kind 0x02) (ℕ_discrete f.a (length r.tracks + 1)) (ℕ_discrete f.a r.n)
      frame_comes Needs p = need_comes p (ℕ_discrete f.kind 0x03) (ℕ_discrete f.kind 0x04) (ℕ_discrete (pairs r.needs) 8192)
      frame_comes Asking p =
          question_comes p (dec_le 0x10 f.kind) (dec_le f.kind 0x18) (dec_le 0x12 f.kind) (dec_le f.kind 0x16) (ℕ_discrete f.b 0)
      frame_comes Stopped p = absurd (not_both h (ap reads p))

  -- one of the six comes
  pub line_comes : Comes r line
  line_comes = go (line_of line) refl
    where
      in_time? : (f : Frame) → line_of line ≡ Some f → Dec (r.lines + 1 ≤ 65535) → Comes r line
      in_time? f e (yes l) = frame_comes f e l r.phase refl
      in_time? f e (no l) = out f e (late (omega arith))

      go : (said : Option Frame) → line_of line ≡ said → Comes r line
      go None e = no_frame e (no_frame_line r line h e)
      go (Some f) e = in_time? f e (dec_le (r.lines + 1) 65535)

pub taken_unfinished : {r : Reading} {f : Frame} {r' : Reading} → Taken r f r' → unfinished r'.phase ≡ true
taken_unfinished (head p k a b q) = rw q
taken_unfinished (track p k u n q) = rw q
taken_unfinished (last_track p k u n q) = rw q
taken_unfinished (need p k n q) = rw q

pub unfinished-reads : (phase : Phase) → unfinished phase ≡ true → reads phase ≡ true
unfinished-reads Head h = refl
unfinished-reads Tracks h = refl
unfinished-reads Needs h = refl
unfinished-reads Asking h = refl
unfinished-reads Stopped h = h
