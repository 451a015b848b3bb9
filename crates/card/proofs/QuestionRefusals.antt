-- A question of a course file is refused 8 exactly when one of its arguments is bad; of 9 and 10 none comes, because the index was built by
-- the program itself and an answer always finds room. What is printed tells a refusal from any answer.
-- Assumes nothing.
use Rattle.std.specs.Prelude.{Ok, Err}
use Prim.Native.Nat.{ℕ, ◌+◌, ◌/◌, ◌%◌, ◌≤◌, ◌<◌}
use mathlib.Core.Path.{◌≡◌, refl, sym, ap, ◌∙◌}
use mathlib.Core.Bool.{Bool, true, false}
use mathlib.Core.List.{List}
use mathlib.Core.Logic.{◌↔◌, inl, inr}
use native.Mathlib.Omega.{arith}
use native.Mathlib.Decide.{dec_lt, ℕ_discrete}
use lib.ListN.{length, get_or}
use borrow.Author.Tests.{lt-ltb, le-ltb}
use Rattle.rules.specs.declared.Refusal.{Refusal}
use Rattle.rules.specs.declared.Refusal.TheVariants.{BadArgument}
use Rattle.rules.specs.declared.Refusal.TheVariants as refusal
use Rattle.rules.specs.Refusals.{number_of, place_of, ◌then◌, Verdict}
use Rattle.rules.specs.Told.{told_pair, told_number}
use Rattle.rules.specs.Index.{Index, built_index, built_head}
use Rattle.rules.specs.Questions.{kind10, kind11, kind12, kind13, kind14, kind15, kind16, kind17, kind18}
use Rattle.rules.specs.Outcomes.{unit_verdict, track_verdict, whole_verdict, pair_answer, number_answer, pair_outcome, unit_outcome, bound_outcome}
use Rattle.rules.proofs.Ranges.{not_both}
use Rattle.rules.proofs.Accepted.{listing_fine}
use Rattle.rules.proofs.Builts.{whole_built}
use Rattle.rules.proofs.Wholes.{Whole}
use Rattle.rules.proofs.Checks.{Off, within_fails, ltb_fails, then_never}
use Rattle.rules.proofs.Cases.{FirstBad, argument_never, pair_refused, number_refused}
use Rattle.rules.proofs.Tellings as tellings
use Rattle.rules.proofs.Refusing.{whole_accepts, pair_8, bound_8, unit_8}
use Rattle.frames.specs.declared.Frame.{Frame}
use Rattle.answers.specs.Printed.{hex_digit, hex_of, pair_line, number_line, list_line, refused_line}
use Rattle.answers.proofs.Lengths.{length_refused_line, length_number}
use Rattle.reading.specs.declared.Phase.TheVariants.{Asking}
use Rattle.reading.specs.Card.{Reading, Next, listing_of, read_index, answered, units_printed, list_printed, counted, reads, read_line, unfinished}
use Rattle.answers.proofs.RefusedLines.{refusal_8, refused_number_tells, refused_line_tells}
use Rattle.card.proofs.LineCases.{EightDigits, FrameWith, Question, answer_to, StopsWith, Comes, no_frame, out_of_place, past_limits, taken, ended, asked, each_kind, line_comes, taken_unfinished}
use Rattle.card.proofs.Reached.{Reached, QuestionsDue, stands_in, reached_stands}
use Rattle.card.proofs.LineRefusals.{not_stopped, line_silent, question_goes_on}

-- ---- the case, in 01's words

-- 8, by its place: 1 or 2, the first bad argument of a question of that kind, in a course of n units and k tracks
pub data BadQuestion (n k kind a b w : ℕ) : Type 0 where
  -- kinds 10 and 11: a unit not 1 to n
  pair_bad : kind ≤ 0x11 → FirstBad (Off n a) (Off n b) w → BadQuestion n k kind a b w
  -- kinds 12 to 16: the same of their one unit
  unit_bad : 0x12 ≤ kind → kind ≤ 0x16 → (w ≡ 1) × Off n a → BadQuestion n k kind a b w
  -- kinds 17 and 18: a unit not 1 to n, or a track of k or more
  bound_bad : 0x17 ≤ kind → FirstBad (Off n a) (k ≤ b) w → BadQuestion n k kind a b w

-- ---- what is printed tells a refusal from an answer

-- the line of a verdict: its refusal, or an answer that is no printed refusal
record Shows (v : Verdict) (l : List ℕ) : Type 0 where
  refused : (s : Refusal) → v ≡ Err s → l ≡ refused_line s
  fine : (s : Refusal) → v ≡ Ok tt → l ≡ refused_line s → ⊥

shows_pair : (v : Verdict) (t : Bool) → Shows v (pair_line (pair_answer v t))
unfolding pair_line refused_line
shows_pair v t = record { refused = λ s e. rw e; fine = λ s e q. go t s (rw e at q) }
  where
    go : (t : Bool) (s : Refusal) → pair_line (pair_answer (Ok tt) t) ≡ refused_line s → ⊥
    go true s q = let z : ◌≡◌ {A = ℕ} 121 114 = ap (λ (l : List ℕ). get_or l 0 0) q in omega arith
    go false s q = let z : ◌≡◌ {A = ℕ} 110 114 = ap (λ (l : List ℕ). get_or l 0 0) q in omega arith

shows_number : (v : Verdict) (m : ℕ) → Shows v (number_line (number_answer v m))
unfolding number_line
shows_number v m = record { refused = λ s e. rw e; fine = λ s e q. apart s (rw e at q) }
  where
    apart : (s : Refusal) → number_line (number_answer (Ok tt) m) ≡ refused_line s → ⊥
    apart s q = omega (arith, ap (λ (l : List ℕ). length l) q, length_number m, length_refused_line s)

-- a digit is no r
no_r : (d : ℕ) → d < 16 → hex_digit d ≡ 114 → ⊥
unfolding hex_digit
no_r d l e = go (dec_lt d 10)
  where
    go : Dec (d < 10) → ⊥
    go (yes b) = let z : 48 + d ≡ 114 = rw (lt-ltb d 10 b) at e in omega arith
    go (no b) = let z : 87 + d ≡ 114 = rw (le-ltb d 10 (omega arith)) at e in omega arith

shows_list : (v : Verdict) (units : List ℕ) → Shows v (units_printed v units)
unfolding list_line hex_of refused_line
shows_list v units = record { refused = λ s e. rw e; fine = λ s e q. apart s (rw e at q) }
  where
    apart : (s : Refusal) → units_printed (Ok tt) units ≡ refused_line s → ⊥
    apart s q = no_r (length units / 16 / 16 / 16 % 16) (omega arith) (ap (λ (l : List ℕ). get_or l 0 0) q)

-- ---- of a whole index a question is refused 8 alone

-- the verdict refuses with 8 alone, exactly where P tells its place
record Eight (v : Verdict) (P : ℕ → Type 0) : Type 0 where
  eight : (w : ℕ) → (v ≡ Err (BadArgument w)) ↔ P w
  few : (w : ℕ) → P w → w ≤ 2
  only : (s : Refusal) → v ≡ Err s → number_of s ≡ 8

module _ {v : Verdict} {l : List ℕ} {P : ℕ → Type 0} (shows : Shows v l) (e : Eight v P) where
  shown : (s : Refusal) → l ≡ refused_line s → (v' : Verdict) → v ≡ v' → (s' : Refusal) × (v ≡ Err s') × (refused_line s' ≡ refused_line s)
  shown s q (Ok _) z = absurd (shows.fine s z q)
  shown s q (Err s') z = (s', z, sym (shows.refused s' z) ∙ q)

  shown_only : (s : Refusal) → l ≡ refused_line s → number_of s ≡ 8
  shown_only s q = let r = shown s q v refl in sym (refused_number_tells r.0 s r.2) ∙ e.only r.0 r.1

  shown_8 : (w : ℕ) → EightDigits w → (l ≡ refused_line (BadArgument w)) ↔ P w
  shown_8 w small = (to, λ p. shows.refused (BadArgument w) ((e.eight w).1 p))
    where
      to : l ≡ refused_line (BadArgument w) → P w
      to q =
          let r = shown (BadArgument w) q v refl in
          let bad = refusal_8 r.0 (e.only r.0 r.1) in
          let low = e.few (place_of r.0) ((e.eight (place_of r.0)).0 (r.1 ∙ ap Err bad)) in
          (e.eight w).0 (r.1 ∙ ap Err (refused_line_tells r.0 (BadArgument w) r.2 (omega arith) small))

first_few : {P Q : Type 0} (w : ℕ) → FirstBad P Q w → w ≤ 2
first_few w (inl b) = omega (arith, b.0)
first_few w (inr b) = omega (arith, b.0)

module _ (x : Index) (is_whole : Whole x) (a b : ℕ) where
  abbrev n : ℕ
  n = x.head.n

  abbrev k : ℕ
  k = x.head.k

  -- what is tested of a question of two units, of one, and of a unit and a track
  abbrev asked_pair : Verdict
  asked_pair = whole_verdict x then unit_verdict x 1 a then unit_verdict x 2 b

  abbrev asked_unit : Verdict
  asked_unit = whole_verdict x then unit_verdict x 1 a

  abbrev asked_bound : Verdict
  asked_bound = whole_verdict x then unit_verdict x 1 a then track_verdict x 2 b

  whole_fine : whole_verdict x ≡ Ok tt
  whole_fine = (tellings.verdict_told (whole_verdict x) (Ok tt)).0 ((whole_accepts x).1 is_whole)

  pair_eight : Eight asked_pair (FirstBad (Off n a) (Off n b))
  unfolding pair_outcome
  pair_eight = record { eight = at; few = first_few; only = λ s z. go s z (ℕ_discrete (number_of s) 8) }
    where
      at : (w : ℕ) → (asked_pair ≡ Err (BadArgument w)) ↔ FirstBad (Off n a) (Off n b) w
      at w = (
        (λ z. ((pair_8 x a b true w).0 (ap told_pair ((pair_refused asked_pair true (BadArgument w)).1 z))).1),
        (λ p. (pair_refused asked_pair true (BadArgument w)).0 ((tellings.pair_told_lem (pair_answer asked_pair true) (Err (BadArgument w))).0 ((pair_8 x a b true w).1 (is_whole, p)))),
      )

      go : (s : Refusal) → asked_pair ≡ Err s → Dec (number_of s ≡ 8) → number_of s ≡ 8
      go s z (yes e) = e
      go s z (no e) = absurd (then_never (argument_never 1 (within_fails n a) e) (argument_never 2 (within_fails n b) e) (rw whole_fine at z))

  unit_eight : Eight asked_unit (λ w. (w ≡ 1) × Off n a)
  unfolding unit_outcome
  unit_eight = record { eight = at; few = λ w p. omega (arith, p.0); only = λ s z. go s z (ℕ_discrete (number_of s) 8) }
    where
      at : (w : ℕ) → (asked_unit ≡ Err (BadArgument w)) ↔ ((w ≡ 1) × Off n a)
      at w = (
        (λ z. let r = (unit_8 x a 0 w).0 (ap told_number ((number_refused asked_unit 0 (BadArgument w)).1 z)) in (r.1, r.2)),
        (λ p. (number_refused asked_unit 0 (BadArgument w)).0 ((tellings.number_told_lem (number_answer asked_unit 0) (Err (BadArgument w))).0 ((unit_8 x a 0 w).1 (is_whole, p.0, p.1)))),
      )

      go : (s : Refusal) → asked_unit ≡ Err s → Dec (number_of s ≡ 8) → number_of s ≡ 8
      go s z (yes e) = e
      go s z (no e) = absurd (argument_never 1 (within_fails n a) e (rw whole_fine at z))

  bound_eight : Eight asked_bound (FirstBad (Off n a) (k ≤ b))
  unfolding bound_outcome
  bound_eight = record { eight = at; few = first_few; only = λ s z. go s z (ℕ_discrete (number_of s) 8) }
    where
      at : (w : ℕ) → (asked_bound ≡ Err (BadArgument w)) ↔ FirstBad (Off n a) (k ≤ b) w
      at w = (
        (λ z. ((bound_8 x a b 0 w).0 (ap told_number ((number_refused asked_bound 0 (BadArgument w)).1 z))).1),
        (λ p. (number_refused asked_bound 0 (BadArgument w)).0 ((tellings.number_told_lem (number_answer asked_bound 0) (Err (BadArgument w))).0 ((bound_8 x a b 0 w).1 (is_whole, p)))),
      )

      go : (s : Refusal) → asked_bound ≡ Err s → Dec (number_of s ≡ 8) → number_of s ≡ 8
      go s z (yes e) = e
      go s z (no e) = absurd (then_never (argument_never 1 (within_fails n a) e) (argument_never 2 (ltb_fails b k) e) (rw whole_fine at z))

  -- ---- every kind of question

  abbrev Told : ℕ → Type 0
  Told kind =
      ((s : Refusal) → answer_to x kind a b ≡ refused_line s → number_of s ≡ 8)
      × ((w : ℕ) → EightDigits w → (answer_to x kind a b ≡ refused_line (BadArgument w)) ↔ BadQuestion n k kind a b w)

  told : {v : Verdict} {l : List ℕ} {P : ℕ → Type 0} (kind : ℕ) → answer_to x kind a b ≡ l → Shows v l → Eight v P
      → ((w : ℕ) → P w → BadQuestion n k kind a b w) → ((w : ℕ) → BadQuestion n k kind a b w → P w) → Told kind
  told kind is shows e to from = (
    (λ s q. shown_only shows e s (sym is ∙ q)),
    (λ w small. ((λ q. to w ((shown_8 shows e w small).0 (sym is ∙ q))), (λ p. is ∙ (shown_8 shows e w small).1 (from w p)))),
  )

  pair_told_lem : (kind : ℕ) (t : Bool) → kind ≤ 0x11 → answer_to x kind a b ≡ pair_line (pair_outcome x a b t) → Told kind
  unfolding pair_outcome
  pair_told_lem kind t l is = told kind is (shows_pair asked_pair t) pair_eight (λ w p. pair_bad l p) back
    where
      back : (w : ℕ) → BadQuestion n k kind a b w → FirstBad (Off n a) (Off n b) w
      back w (pair_bad m p) = p
      back w (unit_bad m o p) = absurd (omega arith)
      back w (bound_bad m p) = absurd (omega arith)

  unit_back : (kind : ℕ) → 0x12 ≤ kind → kind ≤ 0x16 → (w : ℕ) → BadQuestion n k kind a b w → (w ≡ 1) × Off n a
  unit_back kind l h w (pair_bad m p) = absurd (omega arith)
  unit_back kind l h w (unit_bad m o p) = p
  unit_back kind l h w (bound_bad m p) = absurd (omega arith)

  list_told_lem : (kind : ℕ) (units : List ℕ) → 0x12 ≤ kind → kind ≤ 0x16 → answer_to x kind a b ≡ list_printed x a units → Told kind
  unfolding list_printed
  list_told_lem kind units l h is =
      told kind is (shows_list asked_unit units) unit_eight (λ w p. unit_bad l h p) (unit_back kind l h)

  stage_told : (m : ℕ) → answer_to x 0x16 a b ≡ number_line (unit_outcome x a m) → Told 0x16
  unfolding unit_outcome
  stage_told m is =
      told 0x16 is (shows_number asked_unit m) unit_eight (λ w p. unit_bad (omega arith) (omega arith) p) (unit_back 0x16 (omega arith) (omega arith))

  bound_told : (kind m : ℕ) → 0x17 ≤ kind → answer_to x kind a b ≡ number_line (bound_outcome x a b m) → Told kind
  unfolding bound_outcome
  bound_told kind m l is = told kind is (shows_number asked_bound m) bound_eight (λ w p. bound_bad l p) back
    where
      back : (w : ℕ) → BadQuestion n k kind a b w → FirstBad (Off n a) (k ≤ b) w
      back w (pair_bad m p) = absurd (omega arith)
      back w (unit_bad m o p) = absurd (omega arith)
      back w (bound_bad m p) = p

  question_told : (kind : ℕ) → 0x10 ≤ kind → kind ≤ 0x18 → Told kind
  unfolding answer_to
  question_told = each_kind Told
      (pair_told_lem 0x10 (kind10 x a b) (omega arith) refl)
      (pair_told_lem 0x11 (kind11 x a b) (omega arith) refl)
      (list_told_lem 0x12 (kind12 x a) (omega arith) (omega arith) refl)
      (list_told_lem 0x13 (kind13 x a) (omega arith) (omega arith) refl)
      (list_told_lem 0x14 (kind14 x a) (omega arith) (omega arith) refl)
      (list_told_lem 0x15 (kind15 x a) (omega arith) (omega arith) refl)
      (stage_told (kind16 x a) refl)
      (bound_told 0x17 (kind17 x a b) (omega arith) refl)
      (bound_told 0x18 (kind18 x a b) (omega arith) refl)

-- ---- a question of a course file

module _ (r : Reading) (line : List ℕ) (reached : Reached r) where
  -- the index that is asked is whole
  pub asked-whole : r.phase ≡ Asking → Whole (read_index r)
  asked-whole a =
      let d : QuestionsDue r = stands_in r a (reached_stands reached) in
      whole_built (listing_of r) (listing_fine (listing_of r) d.accepted) d.sound

  -- of the refusals only 8 is ever printed for a question
  pub question_others : {f : Frame} → Question r f → (s : Refusal) → answer_to (read_index r) f.kind f.a f.b ≡ refused_line s → number_of s ≡ 8
  question_others {f} q = (question_told (read_index r) (asked-whole q.due) f.a f.b f.kind q.kind_from q.kind_to).0

  -- a question is refused 8 exactly when an argument of it is bad, and the reading goes on
  pub line_8 : r.phase ≡ Asking → (w : ℕ) → EightDigits w
      → (read_line r line ≡ answered (counted r) (refused_line (BadArgument w)))
      ↔ FrameWith line (λ f. Question r f × BadQuestion r.n r.k f.kind f.a f.b w)
  unfolding built_index built_head
  line_8 a w small = (
    (λ z. to (line_comes r line (ap reads a)) z),
    (λ o. question_goes_on r line (o.0, o.1, o.2.0) ∙ ap (answered (counted r)) ((bad o.2.0).1 o.2.1)),
  )
    where
      bad : {f : Frame} → Question r f → (answer_to (read_index r) f.kind f.a f.b ≡ refused_line (BadArgument w)) ↔ BadQuestion r.n r.k f.kind f.a f.b w
      bad {f} q = (question_told (read_index r) (asked-whole q.due) f.a f.b f.kind q.kind_from q.kind_to).1 w small

      stopped : (s : Refusal) → StopsWith r line s → read_line r line ≡ answered (counted r) (refused_line (BadArgument w)) → ⊥
      stopped s q z = not_stopped (counted r) s (ap reads a) (sym z ∙ q)

      to : Comes r line → read_line r line ≡ answered (counted r) (refused_line (BadArgument w))
          → FrameWith line (λ f. Question r f × BadQuestion r.n r.k f.kind f.a f.b w)
      to (no_frame e q) z = absurd (stopped (refusal.NoFrame (r.lines + 1)) q z)
      to (out_of_place f e o q) z = absurd (stopped (refusal.FrameOrder (r.lines + 1)) q z)
      to (past_limits f e o q) z = absurd (stopped refusal.OutOfLimits q z)
      to (taken f e r' t q) z =
          absurd (not_both (line_silent r line (ap (λ (y : Next). unfinished y.reading.phase) q ∙ taken_unfinished t)).0 (ap unfinished a))
      to (ended f e o q) z = absurd (not_both (ap unfinished o.due) (ap unfinished a))
      to (asked f e o q) z = (f, e, (o, (bad o).0 (ap (λ (y : Next). y.printed) (sym q ∙ z))))
