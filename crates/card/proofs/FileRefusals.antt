-- What is printed for a whole course file: nothing before the first refusal or the end of 04, and nothing after a refusal that stops the
-- reading. Each theorem speaks of a file read so far, line by line.
-- Assumes nothing.
use Rattle.std.specs.Prelude.{Ok, Err}
use Prim.Native.Nat.{ℕ, zero, suc, ◌+◌, ◌≤◌, ◌<◌}
use mathlib.Core.Path.{◌≡◌, refl, sym, ap, ◌∙◌, subst}
use mathlib.Core.Bool.{true, false}
use mathlib.Core.List.{List, [], ◌∷◌, ◌++◌, append_assoc, append-nil}
use mathlib.Core.Logic.{◌↔◌, ◌⊎◌, inl, inr}
use native.Mathlib.Omega.{arith}
use lib.ListN.{length, get_or, drop}
use lib.Seq.{get_or-take}
use Rattle.rules.specs.declared.Refusal.{Refusal}
use Rattle.rules.specs.declared.Refusal.TheVariants as refusal
use Rattle.rules.specs.Refusals.{number_of, place_of, Verdict}
use Rattle.rules.specs.Index.{built_bits}
use Rattle.rules.proofs.Ranges.{not_both}
use Rattle.std.specs.Prelude.{Option, Some, None}
use Rattle.frames.specs.declared.Frame.{Frame}
use Rattle.frames.specs.Lines.{line_of}
use Rattle.answers.specs.Printed.{built_line, refused_line}
use Rattle.frames.proofs.Frames.{line_feed_last}
use Rattle.reading.specs.declared.Phase.TheVariants.{Asking}
use Rattle.reading.specs.Card.{Reading, Next, listing_of, read_index, in_phase, refuse, loaded, counted, reads, read_line, unfinished, start}
use Rattle.card.specs.Files.{first_line, printed_from, course_prints}
use Rattle.card.proofs.Files.{line_frame, rest_shorter, prints, line_prints, stopped_prints}
use Rattle.card.proofs.LineCases.{EightDigits, FrameWith, Question, answer_to, end_verdict, StopsWith, Comes, no_frame, out_of_place, past_limits, taken, ended, asked, line_comes, taken_unfinished, unfinished-reads}
use Rattle.card.proofs.Reached.{Reached, at_start, after_line, stands_in, reached_stands, end_place, line_in_time}
use Rattle.card.proofs.QuestionRefusals.{BadQuestion, line_8}
use Rattle.card.proofs.LineRefusals.{line_11, line_counted, line_reads, line_silent, asking_stops, question_goes_on}
use Rattle.answers.proofs.RefusedLines.{refused_line_tells}

-- ---- a file read so far

-- the bytes past the first line
abbrev pub past_line : List ℕ → List ℕ
past_line bytes = drop (length (first_line bytes)) bytes

-- after some lines of the file: the reading, all that was printed on the way, and the bytes that are left
pub data ReadSoFar (file : List ℕ) : Reading → List ℕ → List ℕ → Type 0 where
  nothing : ReadSoFar file start [] file
  one_more : {r : Reading} {printed : List ℕ} (b : ℕ) (bs : List ℕ) → ReadSoFar file r printed (b ∷ bs)
      → ReadSoFar
      file
      (read_line r (first_line (b ∷ bs))).reading
      (printed ++ (read_line r (first_line (b ∷ bs))).printed)
      (past_line (b ∷ bs))

module _ (file : List ℕ) where
  pub so_far_reached : {r : Reading} {printed rest : List ℕ} → ReadSoFar file r printed rest → Reached r
  so_far_reached nothing = at_start
  so_far_reached (one_more b bs q) = after_line (so_far_reached q) (first_line (b ∷ bs))

  -- how many lines that is
  pub lines_read : {r : Reading} {printed rest : List ℕ} → ReadSoFar file r printed rest → ℕ
  lines_read nothing = 0
  lines_read (one_more b bs q) = lines_read q + 1

  -- a reading that goes on has counted them, so that the place of 11 and 12 is the line's number in the file
  pub so_far_counted : {r : Reading} {printed rest : List ℕ} (q : ReadSoFar file r printed rest) → reads r.phase ≡ true → r.lines ≡ lines_read q
  unfolding lines_read
  so_far_counted nothing h = refl
  so_far_counted (one_more {r} b bs q) h =
      let before = line_reads r (first_line (b ∷ bs)) h in
      line_counted r (first_line (b ∷ bs)) before ∙ ap (λ (m : ℕ). m + 1) (so_far_counted q before)

  -- the file prints what was printed so far, and then what is printed from there on
  pub so_far_prints : {r : Reading} {printed rest : List ℕ} → ReadSoFar file r printed rest → course_prints file ≡ printed ++ prints r rest
  unfolding course_prints
  so_far_prints nothing = refl
  so_far_prints (one_more {r} {printed} b bs q) =
      so_far_prints q ∙ ap (λ (l : List ℕ). printed ++ l) (line_prints r b bs)
      ∙ sym (append_assoc printed (read_line r (first_line (b ∷ bs))).printed _)

  -- while 04 is to come nothing is printed
  pub before_04_silent : {r : Reading} {printed rest : List ℕ} → ReadSoFar file r printed rest → unfinished r.phase ≡ true → printed ≡ []
  before_04_silent nothing u = refl
  before_04_silent (one_more {r} {printed} b bs q) u =
      let s = line_silent r (first_line (b ∷ bs)) u in
      rw (before_04_silent q s.0) s.1

  -- ---- the refusal that stops the reading is the last line printed

  -- once the reading has stopped, nothing more is printed
  pub stops_at_first : {r : Reading} {printed rest : List ℕ} → ReadSoFar file r printed rest → reads r.phase ≡ false → course_prints file ≡ printed
  stops_at_first {r} {printed} {rest} q s = so_far_prints q ∙ rw (stopped_prints (length rest) r rest s) (append-nil printed)

  module _ {r : Reading} {printed : List ℕ} (b : ℕ) (bs : List ℕ) (q : ReadSoFar file r printed (b ∷ bs)) where
    -- a line that stops the reading: what was printed before it, its refusal, and no more
    pub refusal_last : (s : Refusal) → StopsWith r (first_line (b ∷ bs)) s → course_prints file ≡ printed ++ refused_line s
    unfolding refuse
    refusal_last s z =
        stops_at_first (one_more b bs q) (ap (λ (x : Next). reads x.reading.phase) z)
        ∙ ap (λ (x : Next). printed ++ x.printed) z

    -- before the end of 04 the first refusal is all that is printed
    pub before_04_one_line : unfinished r.phase ≡ true → (s : Refusal) → StopsWith r (first_line (b ∷ bs)) s → course_prints file ≡ refused_line s
    before_04_one_line u s z = refusal_last s z ∙ rw (before_04_silent q u)

    -- a last line without a line feed is 11
    pub last_line_11 : reads r.phase ≡ true → ((i : ℕ) → get_or (b ∷ bs) i 0 ≡ 10 → ⊥) → course_prints file ≡ printed ++ refused_line (refusal.NoFrame (r.lines + 1))
    last_line_11 h none = refusal_last (refusal.NoFrame (r.lines + 1)) ((line_11 r (first_line (b ∷ bs)) h).1 (go (line_of (first_line (b ∷ bs))) refl))
      where
        go : (said : Option Frame) → line_of (first_line (b ∷ bs)) ≡ said → line_of (first_line (b ∷ bs)) ≡ None
        go None e = e
        go (Some f) e =
            absurd
            (none 10
            (sym (get_or-take 11 (b ∷ bs) 10 0 (omega arith)) ∙ ap (λ (l : List ℕ). get_or l 10 0) (sym (line_frame (b ∷ bs) e)) ∙ (line_feed_last (first_line (b ∷ bs)) e).0))

    -- a question is answered, or refused 8, and the next line is read
    pub question_read_on : (f : FrameWith (first_line (b ∷ bs)) (Question r))
        → ReadSoFar file (counted r) (printed ++ answer_to (read_index r) f.0.kind f.0.a f.0.b) (past_line (b ∷ bs))
    question_read_on f =
        subst (λ (x : Next). ReadSoFar file x.reading (printed ++ x.printed) (past_line (b ∷ bs)))
        (question_goes_on r (first_line (b ∷ bs)) f) (one_more b bs q)

    -- a question with a bad argument prints refusal 8, and the next line is read
    pub eight_goes_on : r.phase ≡ Asking → (w : ℕ) → EightDigits w
        → FrameWith (first_line (b ∷ bs)) (λ f. Question r f × BadQuestion r.n r.k f.kind f.a f.b w)
        → ReadSoFar file (counted r) (printed ++ refused_line (refusal.BadArgument w)) (past_line (b ∷ bs))
    eight_goes_on a w small f =
        subst (λ (x : Next). ReadSoFar file x.reading (printed ++ x.printed) (past_line (b ∷ bs)))
        ((line_8 r (first_line (b ∷ bs)) (so_far_reached q) a w small).1 f) (one_more b bs q)

  -- ---- the end of the file

  module _ {r : Reading} {printed : List ℕ} (q : ReadSoFar file r printed []) where
    -- a file that ends before 04 prints refusal 12 at the line after its last, and nothing else
    pub ends_early : unfinished r.phase ≡ true → course_prints file ≡ refused_line (refusal.FrameOrder (r.lines + 1))
    unfolding printed_from
    ends_early u = so_far_prints q ∙ rw (before_04_silent q u, u)

    -- an end after 04 prints nothing
    pub ends_asking : r.phase ≡ Asking → course_prints file ≡ printed
    unfolding printed_from
    ends_asking a = so_far_prints q ∙ rw a (append-nil printed)

-- an empty file is 12 at line 1
pub empty_file : course_prints [] ≡ refused_line (refusal.FrameOrder 1)
empty_file = ends_early [] nothing refl

-- ---- a refusal alone, or a built index

-- the first refusal before the end of 04
pub data FirstRefusal (file : List ℕ) (s : Refusal) : Type 0 where
  -- a line is refused
  at_line : {r : Reading} (b : ℕ) (bs : List ℕ) → ReadSoFar file r [] (b ∷ bs) → unfinished r.phase ≡ true → StopsWith r (first_line (b ∷ bs)) s
      → FirstRefusal file s
  -- or the file ends before 04
  at_end : {r : Reading} → ReadSoFar file r [] [] → unfinished r.phase ≡ true → s ≡ refusal.FrameOrder (r.lines + 1) → FirstRefusal file s

or_on : {A B C : Type 0} → A ⊎ B ⊎ C → (C → A ⊎ B) → A ⊎ B
or_on (inl a) on = inl a
or_on (inr (inl b)) on = inr b
or_on (inr (inr c)) on = on c

module _ (file : List ℕ) where
  -- a refusal comes before the end of 04, with a place of eight digits at most
  abbrev pub RefusedFirst : Type 0
  RefusedFirst = (s : Refusal) × (EightDigits (place_of s)) × FirstRefusal file s

  -- after some lines the index is built, and `built` is all that is printed so far
  abbrev pub BuiltSoFar : Type 0
  BuiltSoFar = (r : Reading) × (rest : List ℕ) × (r.phase ≡ Asking) × ReadSoFar file r (built_line (built_bits (listing_of r))) rest

  ended_first : {r : Reading} → ReadSoFar file r [] [] → unfinished r.phase ≡ true → RefusedFirst
  ended_first {r} q u = (refusal.FrameOrder (r.lines + 1), omega (arith, line_in_time r (so_far_reached file q) u), at_end q u refl)

  module _ (r : Reading) (b : ℕ) (bs : List ℕ) (q : ReadSoFar file r [] (b ∷ bs)) (u : unfinished r.phase ≡ true) where
    abbrev line : List ℕ
    line = first_line (b ∷ bs)

    abbrev OneMore : Type 0
    OneMore = (r' : Reading) × (unfinished r'.phase ≡ true) × ReadSoFar file r' [] (past_line (b ∷ bs))

    so_far_next : {x : Next} → read_line r line ≡ x → ReadSoFar file x.reading x.printed (past_line (b ∷ bs))
    so_far_next e = subst (λ (x : Next). ReadSoFar file x.reading x.printed (past_line (b ∷ bs))) e (one_more b bs q)

    refused : (s : Refusal) → EightDigits (place_of s) → StopsWith r line s → RefusedFirst ⊎ BuiltSoFar ⊎ OneMore
    refused s small z = inl (s, small, at_line b bs q u z)

    step : Comes r line → RefusedFirst ⊎ BuiltSoFar ⊎ OneMore
    unfolding loaded
    step (no_frame e z) = refused (refusal.NoFrame (r.lines + 1)) (omega (arith, line_in_time r (so_far_reached file q) u)) z
    step (out_of_place f e o z) = refused (refusal.FrameOrder (r.lines + 1)) (omega (arith, line_in_time r (so_far_reached file q) u)) z
    step (past_limits f e o z) = refused refusal.OutOfLimits (omega arith) z
    step (taken f e r' t z) = inr (inr (r', taken_unfinished t, so_far_next z))
    step (ended f e o z) = go (end_verdict r) refl
      where
        go : (v : Verdict) → end_verdict r ≡ v → RefusedFirst ⊎ BuiltSoFar ⊎ OneMore
        go (Ok _) v = inr (inl (in_phase Asking (counted r), past_line (b ∷ bs), refl, so_far_next (z ∙ ap (loaded (counted r)) v)))
        go (Err x) v =
            refused x (end_place r (stands_in r o.due (reached_stands (so_far_reached file q))) x v) (z ∙ ap (loaded (counted r)) v)
    step (asked f e o z) = absurd (not_both u (ap unfinished o.due))

  -- of every file a refusal comes before the end of 04, or its index is built and `built` is the first line printed
  pub refused_or_built : RefusedFirst ⊎ BuiltSoFar
  refused_or_built = go (length file) start file (omega arith) nothing refl
    where
      go : (turns : ℕ) (r : Reading) (bytes : List ℕ) → length bytes ≤ turns → ReadSoFar file r [] bytes → unfinished r.phase ≡ true → RefusedFirst ⊎ BuiltSoFar
      go zero r [] l q u = inl (ended_first q u)
      go zero r (b ∷ bs) l q u = absurd (omega arith)
      go (suc turns) r [] l q u = inl (ended_first q u)
      go (suc turns) r (b ∷ bs) l q u =
          or_on (step r b bs q u (line_comes r (first_line (b ∷ bs)) (unfinished-reads r.phase u)))
          (λ s. go turns s.0 (past_line (b ∷ bs)) (omega (arith, rest_shorter b bs)) s.2 s.1)

  -- a file prints one refusal and nothing else exactly when it is the first before the end of 04
  pub file_refused : (s : Refusal) → EightDigits (place_of s) → (course_prints file ≡ refused_line s) ↔ FirstRefusal file s
  unfolding built_line refused_line
  file_refused s small = (λ h. to refused_or_built h, λ f. from f)
    where
      from : {s : Refusal} → FirstRefusal file s → course_prints file ≡ refused_line s
      from {s} (at_line b bs q u z) = before_04_one_line file b bs q u s z
      from (at_end q u e) = ends_early file q u ∙ ap refused_line (sym e)

      to : RefusedFirst ⊎ BuiltSoFar → course_prints file ≡ refused_line s → FirstRefusal file s
      to (inl t) h = subst (FirstRefusal file) (refused_line_tells t.0 s (sym (from t.2) ∙ h) t.1 small) t.2
      to (inr t) h = absurd (let z : ◌≡◌ {A = ℕ} 98 114 = ap (λ (l : List ℕ). get_or l 0 0) (sym (so_far_prints file t.3) ∙ h) in omega arith)

-- ---- after 04

-- the lines after 04 are questions, each answered or refused 8, up to the end of the file or up to the first line that is refused 11 or 12
pub data QuestionsEnd (file : List ℕ) : Type 0 where
  -- the file ends, and nothing more is printed
  at_last : {r : Reading} {printed : List ℕ} → ReadSoFar file r printed [] → r.phase ≡ Asking → course_prints file ≡ printed → QuestionsEnd file
  -- a line is refused 11 or 12, which is the last that is printed
  at_refusal : {r : Reading} {printed : List ℕ} (b : ℕ) (bs : List ℕ) → ReadSoFar file r printed (b ∷ bs) → r.phase ≡ Asking
      → (s : Refusal) → 10 < number_of s → StopsWith r (first_line (b ∷ bs)) s → course_prints file ≡ printed ++ refused_line s → QuestionsEnd file

module _ (file : List ℕ) where
  module _ {r : Reading} {printed : List ℕ} (b : ℕ) (bs : List ℕ) (q : ReadSoFar file r printed (b ∷ bs)) (a : r.phase ≡ Asking) where
    abbrev OneQuestion : Type 0
    OneQuestion = (printed' : List ℕ) × ReadSoFar file (counted r) printed' (past_line (b ∷ bs))

    stopped : (s : Refusal) → StopsWith r (first_line (b ∷ bs)) s → QuestionsEnd file ⊎ OneQuestion
    stopped s z = inl (at_refusal b bs q a s (asking_stops r (first_line (b ∷ bs)) a s z) z (refusal_last file b bs q s z))

    question_step : Comes r (first_line (b ∷ bs)) → QuestionsEnd file ⊎ OneQuestion
    question_step (no_frame e z) = stopped (refusal.NoFrame (r.lines + 1)) z
    question_step (out_of_place f e o z) = stopped (refusal.FrameOrder (r.lines + 1)) z
    question_step (past_limits f e o z) = stopped refusal.OutOfLimits z
    question_step (taken f e r' t z) =
        absurd
        (not_both
        (line_silent r (first_line (b ∷ bs)) (ap (λ (x : Next). unfinished x.reading.phase) z ∙ taken_unfinished t)).0
        (ap unfinished a))
    question_step (ended f e o z) = absurd (not_both (ap unfinished o.due) (ap unfinished a))
    question_step (asked f e o z) = inr (printed ++ answer_to (read_index r) f.kind f.a f.b, question_read_on file b bs q (f, e, o))

  end_or_on : {A B : Type 0} → A ⊎ B → (B → A) → A
  end_or_on (inl a) on = a
  end_or_on (inr b) on = on b

  -- once the index is built, every line is a question that is answered or refused 8, up to the end or to the refusal that stops
  pub questions_end : {r : Reading} {printed rest : List ℕ} → ReadSoFar file r printed rest → r.phase ≡ Asking → QuestionsEnd file
  questions_end {r} {printed} {rest} q a = go (length rest) r printed rest (omega arith) q a
    where
      go : (turns : ℕ) (r : Reading) (printed bytes : List ℕ) → length bytes ≤ turns → ReadSoFar file r printed bytes → r.phase ≡ Asking → QuestionsEnd file
      go zero r printed [] l q a = at_last q a (ends_asking file q a)
      go zero r printed (b ∷ bs) l q a = absurd (omega arith)
      go (suc turns) r printed [] l q a = at_last q a (ends_asking file q a)
      go (suc turns) r printed (b ∷ bs) l q a =
          end_or_on (question_step b bs q a (line_comes r (first_line (b ∷ bs)) (ap reads a)))
          (λ s. go turns (counted r) s.0 (past_line (b ∷ bs)) (omega (arith, rest_shorter b bs)) s.1 a)
