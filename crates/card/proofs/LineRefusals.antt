-- The refusals of a line of a course file: each comes exactly in the case that document 01 states, and a theorem's name ends in its number.
-- That a case leads to its refusal is read off the definitions; that only this case does holds because one of six things comes of every
-- line, and what is printed, or whether the reading stops, tells them apart. The cases are the propositions of proofs/LineCases.antt.
-- Assumes nothing.
use Prim.Native.Nat.{ℕ, ◌+◌, ◌≤◌, ◌<◌}
use mathlib.Core.Path.{◌≡◌, refl, sym, ap, ◌∙◌}
use mathlib.Core.Bool.{true, false}
use mathlib.Core.List.{List, []}
use mathlib.Core.Logic.{◌↔◌, ◌⊎◌, inl, inr}
use native.Mathlib.Omega.{arith}
use lib.ListN.{length}
use Rattle.rules.specs.declared.Refusal.{Refusal}
use Rattle.rules.specs.declared.Refusal.TheVariants as refusal
use Rattle.rules.specs.Refusals.{number_of, place_of, Verdict}
use Rattle.rules.specs.Index.{built_bits}
use Rattle.rules.proofs.Ranges.{true_or_false, not_both}
use Rattle.rules.proofs.Checks.{Fails, passes}
use Rattle.frames.specs.declared.Frame.{Frame}
use Rattle.std.specs.Prelude.{None, Ok, Err}
use Rattle.frames.specs.Lines.{line_of}
use Rattle.answers.specs.Printed.{refused_line}
use Rattle.answers.proofs.Lengths.{length_built, length_refused_line}
use Rattle.reading.specs.declared.Phase.{Phase}
use Rattle.reading.specs.declared.Phase.TheVariants.{Head, Tracks, Needs, Asking, Stopped}
use Rattle.reading.specs.Card.{Reading, Next, listing_of, read_index, refuse, loaded, answered, counted, reads, read_line, unfinished}
use Rattle.order.proofs.Turns.{stopped_line, no_frame_line}
use Rattle.answers.proofs.RefusedLines.{refused_number_tells, refused_line_tells}
use Rattle.card.proofs.LineCases.{EightDigits, out_of_place_line, past_limits_line, end_line, question_line, line_comes, taken_unfinished, unfinished-reads, FrameWith, end_verdict, answer_to, StopsWith, OutOfPlace, PastLimits, RightEnd, Question, Taken, Comes, head_off, need_8193, head, track, last_track, need, no_frame, out_of_place, past_limits, taken, ended, asked}
use Rattle.card.proofs.Reached.{stands_in, reached_stands, stands_in_time, line_in_time, end_never, end_not_1, end_place, Stands, Reached, NeedsDue}

-- ---- what stops a reading

-- a reading that goes on is not stopped
pub not_stopped : {x : Next} (r : Reading) (s : Refusal) → reads x.reading.phase ≡ true → x ≡ refuse r s → ⊥
unfolding refuse
not_stopped r s t q = not_both t (ap (λ (x : Next). reads x.reading.phase) q)

refuse_printed : (r : Reading) (a b : Refusal) → refuse r a ≡ refuse r b → refused_line a ≡ refused_line b
unfolding refuse
refuse_printed r a b q = ap (λ (x : Next). x.printed) q

module _ (r : Reading) (line : List ℕ) (s : Refusal) where
  -- why a line stops a reading with this refusal, and the refusal of that case, which prints the same
  data Cause : Type 0 where
    cause_11 : line_of line ≡ None → refused_line (refusal.NoFrame (r.lines + 1)) ≡ refused_line s → Cause
    cause_12 : FrameWith line (OutOfPlace r) → refused_line (refusal.FrameOrder (r.lines + 1)) ≡ refused_line s → Cause
    cause_1 : FrameWith line (PastLimits r) → refused_line refusal.OutOfLimits ≡ refused_line s → Cause
    cause_end : FrameWith line (RightEnd r) → (x : Refusal) → end_verdict r ≡ Err x → refused_line x ≡ refused_line s → Cause

  cause : Comes r line → StopsWith r line s → Cause
  unfolding loaded
  cause (no_frame e q) h = cause_11 e (refuse_printed (counted r) (refusal.NoFrame (r.lines + 1)) s (sym q ∙ h))
  cause (out_of_place f e o q) h = cause_12 (f, e, o) (refuse_printed (counted r) (refusal.FrameOrder (r.lines + 1)) s (sym q ∙ h))
  cause (past_limits f e o q) h = cause_1 (f, e, o) (refuse_printed (counted r) refusal.OutOfLimits s (sym q ∙ h))
  cause (taken f e r' t q) h = absurd (not_stopped (counted r) s (unfinished-reads r'.phase (taken_unfinished t)) (sym q ∙ h))
  cause (ended f e o q) h = go (end_verdict r) refl
    where
      go : (v : Verdict) → end_verdict r ≡ v → Cause
      go (Ok _) v = absurd (not_stopped (counted r) s refl (sym (q ∙ ap (loaded (counted r)) v) ∙ h))
      go (Err x) v = cause_end (f, e, o) x v (refuse_printed (counted r) x s (sym (q ∙ ap (loaded (counted r)) v) ∙ h))
  cause (asked f e o q) h = absurd (not_stopped (counted r) s (ap reads o.due) (sym q ∙ h))

-- ---- 11, 12, and what never stops a reading

module _ (r : Reading) (line : List ℕ) (h : reads r.phase ≡ true) where
  -- a line is refused 11, at its own number, exactly when it is no frame
  pub line_11 : StopsWith r line (refusal.NoFrame (r.lines + 1)) ↔ (line_of line ≡ None)
  line_11 = (λ q. to (cause r line (refusal.NoFrame (r.lines + 1)) (line_comes r line h) q), λ e. no_frame_line r line h e)
    where
      to : Cause r line (refusal.NoFrame (r.lines + 1)) → line_of line ≡ None
      to (cause_11 e p) = e
      to (cause_12 o p) = absurd (let n = refused_number_tells (refusal.FrameOrder (r.lines + 1)) (refusal.NoFrame (r.lines + 1)) p in omega arith)
      to (cause_1 o p) = absurd (let n = refused_number_tells refusal.OutOfLimits (refusal.NoFrame (r.lines + 1)) p in omega arith)
      to (cause_end o x v p) = absurd (end_never r x (inr (omega (arith, refused_number_tells x (refusal.NoFrame (r.lines + 1)) p))) v)

  -- and 12, at its own number, exactly when it is a frame in one of 01's cases
  pub line_12 : StopsWith r line (refusal.FrameOrder (r.lines + 1)) ↔ FrameWith line (OutOfPlace r)
  line_12 = (
    (λ q. to (cause r line (refusal.FrameOrder (r.lines + 1)) (line_comes r line h) q)),
    (λ o. out_of_place_line r line h o.1 o.2),
  )
    where
      to : Cause r line (refusal.FrameOrder (r.lines + 1)) → FrameWith line (OutOfPlace r)
      to (cause_11 e p) = absurd (let n = refused_number_tells (refusal.NoFrame (r.lines + 1)) (refusal.FrameOrder (r.lines + 1)) p in omega arith)
      to (cause_12 o p) = o
      to (cause_1 o p) = absurd (let n = refused_number_tells refusal.OutOfLimits (refusal.FrameOrder (r.lines + 1)) p in omega arith)
      to (cause_end o x v p) = absurd (end_never r x (inr (omega (arith, refused_number_tells x (refusal.FrameOrder (r.lines + 1)) p))) v)

  -- 6, 8, 9 and 10 stop no reading
  pub line_others : (s : Refusal) → (number_of s ≡ 6) ⊎ ((8 ≤ number_of s) × (number_of s ≤ 10)) → StopsWith r line s → ⊥
  line_others s n q = go n (cause r line s (line_comes r line h) q)
    where
      go : (number_of s ≡ 6) ⊎ ((8 ≤ number_of s) × (number_of s ≤ 10)) → Cause r line s → ⊥
      go (inl n) (cause_11 e p) = omega (arith, refused_number_tells (refusal.NoFrame (r.lines + 1)) s p)
      go (inl n) (cause_12 o p) = omega (arith, refused_number_tells (refusal.FrameOrder (r.lines + 1)) s p)
      go (inl n) (cause_1 o p) = omega (arith, refused_number_tells refusal.OutOfLimits s p)
      go (inl n) (cause_end o x v p) = end_never r x (inl (refused_number_tells x s p ∙ n)) v
      go (inr n) (cause_11 e p) = omega (arith, refused_number_tells (refusal.NoFrame (r.lines + 1)) s p)
      go (inr n) (cause_12 o p) = omega (arith, refused_number_tells (refusal.FrameOrder (r.lines + 1)) s p)
      go (inr n) (cause_1 o p) = omega (arith, refused_number_tells refusal.OutOfLimits s p)
      go (inr n) (cause_end o x v p) = end_never r x (inr (omega (arith, refused_number_tells x s p))) v

-- ---- refusals 1 to 7, of a reading that lines lead to

-- the cases in which a line stops a reading
abbrev pub Stopping : Reading → List ℕ → Type 0
Stopping r line =
    (line_of line ≡ None) ⊎ FrameWith line (OutOfPlace r) ⊎ FrameWith line (PastLimits r)
    ⊎ (FrameWith line (RightEnd r) × (end_verdict r ≡ Ok tt → ⊥))

module _ (r : Reading) (line : List ℕ) (h : reads r.phase ≡ true) (reached : Reached r) where
  past_in_time : {f : Frame} → PastLimits r f → r.lines + 1 ≤ 65535
  past_in_time (head_off p k o) = line_in_time r reached (ap unfinished p)
  past_in_time (need_8193 p k m) = line_in_time r reached (ap unfinished p)

  end_in_time : {f : Frame} → RightEnd r f → r.lines + 1 ≤ 65535
  end_in_time o = line_in_time r reached (ap unfinished o.due)

  end_due : {f : Frame} → RightEnd r f → NeedsDue r
  end_due o = stands_in r o.due (reached_stands reached)

  -- a line is refused 1 exactly when it is a head frame out of range or the 8,193rd need
  pub line_1 : StopsWith r line refusal.OutOfLimits ↔ FrameWith line (PastLimits r)
  line_1 = (
    (λ q. to (cause r line refusal.OutOfLimits (line_comes r line h) q)),
    (λ o. past_limits_line r line h o.1 (past_in_time o.2) o.2),
  )
    where
      to : Cause r line refusal.OutOfLimits → FrameWith line (PastLimits r)
      to (cause_11 e p) = absurd (let n = refused_number_tells (refusal.NoFrame (r.lines + 1)) refusal.OutOfLimits p in omega arith)
      to (cause_12 o p) = absurd (let n = refused_number_tells (refusal.FrameOrder (r.lines + 1)) refusal.OutOfLimits p in omega arith)
      to (cause_1 o p) = o
      to (cause_end o x v p) = absurd (end_not_1 r (end_due o.2) x (refused_number_tells x refusal.OutOfLimits p) v)

  -- 2 to 7 come exactly at 04, once its own count and filler are found right, where the listing read meets them
  pub line_2_to_7 : (s : Refusal) → 2 ≤ number_of s → number_of s ≤ 7 → EightDigits (place_of s)
      → StopsWith r line s ↔ (FrameWith line (RightEnd r) × (end_verdict r ≡ Err s))
  unfolding loaded
  line_2_to_7 s from to place = (
    (λ q. only (cause r line s (line_comes r line h) q)),
    (λ o. end_line r line h o.0.1 (end_in_time o.0.2) o.0.2 ∙ ap (loaded (counted r)) o.1),
  )
    where
      only : Cause r line s → FrameWith line (RightEnd r) × (end_verdict r ≡ Err s)
      only (cause_11 e p) = absurd (omega (arith, refused_number_tells (refusal.NoFrame (r.lines + 1)) s p))
      only (cause_12 o p) = absurd (omega (arith, refused_number_tells (refusal.FrameOrder (r.lines + 1)) s p))
      only (cause_1 o p) = absurd (omega (arith, refused_number_tells refusal.OutOfLimits s p))
      only (cause_end o x v p) = (o, v ∙ ap Err (refused_line_tells x s p (end_place r (end_due o.2) x v) place))

  -- 11 and 12 have the line's own number for their place
  pub line_place : (s : Refusal) → 10 < number_of s → EightDigits (place_of s) → StopsWith r line s → place_of s ≡ r.lines + 1
  line_place s n place q = only (cause r line s (line_comes r line h) q)
    where
      few : (phase : Phase) → reads phase ≡ true → Stands phase r → r.lines ≤ 65535
      few Head t s = omega (arith, stands_in_time Head r refl s)
      few Tracks t s = omega (arith, stands_in_time Tracks r refl s)
      few Needs t s = omega (arith, stands_in_time Needs r refl s)
      few Asking t s = s.lines_few
      few Stopped t s = absurd (not_both t refl)

      number : EightDigits (r.lines + 1)
      number = omega (arith, few r.phase h (reached_stands reached))

      only : Cause r line s → place_of s ≡ r.lines + 1
      only (cause_11 e p) = ap place_of (sym (refused_line_tells (refusal.NoFrame (r.lines + 1)) s p number place))
      only (cause_12 o p) = ap place_of (sym (refused_line_tells (refusal.FrameOrder (r.lines + 1)) s p number place))
      only (cause_1 o p) = absurd (omega (arith, refused_number_tells refusal.OutOfLimits s p))
      only (cause_end o x v p) = absurd (end_never r x (inr (omega (arith, refused_number_tells x s p))) v)

  stops : (s : Refusal) → StopsWith r line s → reads (read_line r line).reading.phase ≡ false
  unfolding refuse
  stops s q = rw q

  -- a line stops the reading exactly in these cases
  pub line_stops : Fails (reads (read_line r line).reading.phase) (Stopping r line)
  unfolding loaded
  line_stops = (λ q. to (line_comes r line h) q, from)
    where
      goes : {x : Next} → read_line r line ≡ x → reads x.reading.phase ≡ true → reads (read_line r line).reading.phase ≡ false → ⊥
      goes e t q = not_both t (ap (λ (y : Next). reads y.reading.phase) (sym e) ∙ q)

      to : Comes r line → reads (read_line r line).reading.phase ≡ false → Stopping r line
      to (no_frame e q) z = inl e
      to (out_of_place f e o q) z = inr (inl (f, e, o))
      to (past_limits f e o q) z = inr (inr (inl (f, e, o)))
      to (taken f e r' t q) z = absurd (goes q (unfinished-reads r'.phase (taken_unfinished t)) z)
      to (ended f e o q) z = inr (inr (inr ((f, e, o), λ v. goes (q ∙ ap (loaded (counted r)) v) refl z)))
      to (asked f e o q) z = absurd (goes q (ap reads o.due) z)

      at_end : (v : Verdict) → end_verdict r ≡ v → (v ≡ Ok tt → ⊥) → read_line r line ≡ loaded (counted r) (end_verdict r)
          → reads (read_line r line).reading.phase ≡ false
      at_end (Ok _) v n q = absurd (n refl)
      at_end (Err x) v n q = stops x (q ∙ ap (loaded (counted r)) v)

      from : Stopping r line → reads (read_line r line).reading.phase ≡ false
      from (inl e) = stops (refusal.NoFrame (r.lines + 1)) ((line_11 r line h).1 e)
      from (inr (inl o)) = stops (refusal.FrameOrder (r.lines + 1)) ((line_12 r line h).1 o)
      from (inr (inr (inl o))) = stops refusal.OutOfLimits (line_1.1 o)
      from (inr (inr (inr o))) =
          at_end (end_verdict r) refl o.1 (end_line r line h o.0.1 (end_in_time o.0.2) o.0.2)

  -- and in every other case it goes on
  pub line_goes_on : (reads (read_line r line).reading.phase ≡ true) ↔ (Stopping r line → ⊥)
  line_goes_on = passes line_stops

  -- before the end of 04 a line builds the index, and prints so, exactly when it is a right 04 of a listing without refusal
  pub line_builds : unfinished r.phase ≡ true
      → (read_line r line ≡ loaded (counted r) (Ok tt)) ↔ (FrameWith line (RightEnd r) × (end_verdict r ≡ Ok tt))
  unfolding loaded refuse
  line_builds u = (
    (λ q. to (line_comes r line h) q),
    (λ o. end_line r line h o.0.1 (end_in_time o.0.2) o.0.2 ∙ ap (loaded (counted r)) o.1),
  )
    where
      -- the reading is past 04
      past04 : {x : Next} → x ≡ loaded (counted r) (Ok tt) → (reads x.reading.phase ≡ true) × (unfinished x.reading.phase ≡ false)
      past04 q = (ap (λ (y : Next). reads y.reading.phase) q, ap (λ (y : Next). unfinished y.reading.phase) q)

      at_end : FrameWith line (RightEnd r) → (v : Verdict) → end_verdict r ≡ v → loaded (counted r) v ≡ loaded (counted r) (Ok tt)
          → FrameWith line (RightEnd r) × (end_verdict r ≡ Ok tt)
      at_end o (Ok _) v q = (o, v)
      at_end o (Err x) v q = absurd (not_both (past04 q).0 refl)

      to : Comes r line → read_line r line ≡ loaded (counted r) (Ok tt) → FrameWith line (RightEnd r) × (end_verdict r ≡ Ok tt)
      to (no_frame e q) z = absurd (not_both (past04 (sym q ∙ z)).0 refl)
      to (out_of_place f e o q) z = absurd (not_both (past04 (sym q ∙ z)).0 refl)
      to (past_limits f e o q) z = absurd (not_both (past04 (sym q ∙ z)).0 refl)
      to (taken f e r' t q) z = absurd (not_both (taken_unfinished t) (past04 (sym q ∙ z)).1)
      to (ended f e o q) z = at_end (f, e, o) (end_verdict r) refl (sym q ∙ z)
      to (asked f e o q) z = absurd (not_both u (ap unfinished o.due))

-- ---- the count of lines

-- a line that is read is counted, whatever comes of it
pub line_counted : (r : Reading) (line : List ℕ) → reads r.phase ≡ true → (read_line r line).reading.lines ≡ r.lines + 1
unfolding loaded refuse
line_counted r line h = go (line_comes r line h)
  where
    says : {x : Next} → read_line r line ≡ x → x.reading.lines ≡ r.lines + 1 → (read_line r line).reading.lines ≡ r.lines + 1
    says q e = ap (λ (y : Next). y.reading.lines) q ∙ e

    on : {f : Frame} {r' : Reading} → Taken r f r' → r'.lines ≡ r.lines + 1
    on (head p k a b q) = rw q
    on (track p k u n q) = rw q
    on (last_track p k u n q) = rw q
    on (need p k n q) = rw q

    at_end : (v : Verdict) → read_line r line ≡ loaded (counted r) v → (read_line r line).reading.lines ≡ r.lines + 1
    at_end (Ok _) q = says q refl
    at_end (Err x) q = says q refl

    go : Comes r line → (read_line r line).reading.lines ≡ r.lines + 1
    go (no_frame e q) = says q refl
    go (out_of_place f e o q) = says q refl
    go (past_limits f e o q) = says q refl
    go (taken f e r' t q) = says q (on t)
    go (ended f e o q) = at_end (end_verdict r) q
    go (asked f e o q) = says q refl

-- a reading that goes on was going on before
pub line_reads : (r : Reading) (line : List ℕ) → reads (read_line r line).reading.phase ≡ true → reads r.phase ≡ true
line_reads r line h = go (true_or_false (reads r.phase))
  where
    go : (reads r.phase ≡ true) ⊎ (reads r.phase ≡ false) → reads r.phase ≡ true
    go (inl t) = t
    go (inr t) = ap (λ (y : Next). reads y.reading.phase) (sym (stopped_line r line t)) ∙ h

-- ---- before 04, and after it

-- a line after which 04 is still to come prints nothing, and 04 was to come before it
pub line_silent : (r : Reading) (line : List ℕ) → unfinished (read_line r line).reading.phase ≡ true
    → (unfinished r.phase ≡ true) × ((read_line r line).printed ≡ [])
unfolding loaded refuse
line_silent r line u = go (true_or_false (reads r.phase))
  where
    says : {x : Next} → read_line r line ≡ x → unfinished x.reading.phase ≡ true
    says e = ap (λ (y : Next). unfinished y.reading.phase) (sym e) ∙ u

    from : {f : Frame} {r' : Reading} → Taken r f r' → unfinished r.phase ≡ true
    from (head p k a b q) = ap unfinished p
    from (track p k a n q) = ap unfinished p
    from (last_track p k a n q) = ap unfinished p
    from (need p k n q) = ap unfinished p

    at_end : (v : Verdict) → read_line r line ≡ loaded (counted r) v → ⊥
    at_end (Ok _) q = not_both (says q) refl
    at_end (Err x) q = not_both (says q) refl

    by : Comes r line → (unfinished r.phase ≡ true) × ((read_line r line).printed ≡ [])
    by (no_frame e q) = absurd (not_both (says q) refl)
    by (out_of_place f e o q) = absurd (not_both (says q) refl)
    by (past_limits f e o q) = absurd (not_both (says q) refl)
    by (taken f e r' t q) = (from t, ap (λ (y : Next). y.printed) q)
    by (ended f e o q) = absurd (at_end (end_verdict r) q)
    by (asked f e o q) = absurd (not_both (says q) (ap unfinished o.due))

    go : (reads r.phase ≡ true) ⊎ (reads r.phase ≡ false) → (unfinished r.phase ≡ true) × ((read_line r line).printed ≡ [])
    go (inl t) = by (line_comes r line t)
    go (inr t) = absurd (not_both (unfinished-reads r.phase (says (stopped_line r line t))) t)

-- before the end of 04 every refusal that is printed stops the reading
pub before_04_stops : (r : Reading) (line : List ℕ) → unfinished r.phase ≡ true → (s : Refusal) → (read_line r line).printed ≡ refused_line s
    → reads (read_line r line).reading.phase ≡ false
unfolding loaded refuse
before_04_stops r line u s p = go (line_comes r line (unfinished-reads r.phase u))
  where
    as_long : {x : Next} → read_line r line ≡ x → length x.printed ≡ 20
    as_long q = ap (λ (y : Next). length y.printed) (sym q) ∙ ap (λ (l : List ℕ). length l) p ∙ length_refused_line s

    ends : {x : Next} → read_line r line ≡ x → reads x.reading.phase ≡ false → reads (read_line r line).reading.phase ≡ false
    ends q t = ap (λ (y : Next). reads y.reading.phase) q ∙ t

    at_end : (v : Verdict) → read_line r line ≡ loaded (counted r) v → reads (read_line r line).reading.phase ≡ false
    at_end (Ok _) q = absurd (omega (arith, as_long q, length_built (built_bits (listing_of r))))
    at_end (Err x) q = ends q refl

    go : Comes r line → reads (read_line r line).reading.phase ≡ false
    go (no_frame e q) = ends q refl
    go (out_of_place f e o q) = ends q refl
    go (past_limits f e o q) = ends q refl
    go (taken f e r' t q) = absurd (omega (arith, as_long q))
    go (ended f e o q) = at_end (end_verdict r) q
    go (asked f e o q) = absurd (not_both u (ap unfinished o.due))

-- after 04 only 11 and 12 stop a reading
pub asking_stops : (r : Reading) (line : List ℕ) → r.phase ≡ Asking → (s : Refusal) → StopsWith r line s → 10 < number_of s
asking_stops r line a s q = go (cause r line s (line_comes r line (ap reads a)) q)
  where
    past04 : {phase : Phase} → r.phase ≡ phase → unfinished phase ≡ true → ⊥
    past04 p u = not_both u (ap unfinished (sym p ∙ a))

    no_limits : {f : Frame} → PastLimits r f → ⊥
    no_limits (head_off p k o) = past04 p refl
    no_limits (need_8193 p k m) = past04 p refl

    go : Cause r line s → 10 < number_of s
    go (cause_11 e p) = omega (arith, refused_number_tells (refusal.NoFrame (r.lines + 1)) s p)
    go (cause_12 o p) = omega (arith, refused_number_tells (refusal.FrameOrder (r.lines + 1)) s p)
    go (cause_1 o p) = absurd (no_limits o.2)
    go (cause_end o x v p) = absurd (past04 o.2.due refl)

-- a question, answered or refused 8, prints one line and leaves the reading as it was, but for the count of lines
pub question_goes_on : (r : Reading) (line : List ℕ) (q : FrameWith line (Question r))
    → read_line r line ≡ answered (counted r) (answer_to (read_index r) q.0.kind q.0.a q.0.b)
question_goes_on r line q = question_line r line (ap reads q.2.due) q.1 q.2
