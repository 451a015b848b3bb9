-- The second and the third demand, sentence by sentence. They speak of what the contracts of `build` and `questions` state: an accepted
-- build (Build), the index that a caller then holds (index_of), and the outcomes of the questions asked of it, in document 01's numbers.
-- Assumes nothing.
use Rattle.std.specs.Prelude.{Ok, Err}
use Prim.Native.Nat.{ℕ, suc, ◌+◌, ◌-◌, ◌*◌, ◌≤◌, ◌<◌}
use mathlib.Core.Path.{◌≡◌, refl, sym, ap, ◌∙◌}
use mathlib.Core.Bool.{Bool, true, ◌&&◌}
use mathlib.Core.List.{List}
use mathlib.Core.Logic.Iff
use mathlib.Core.Logic.{◌↔◌, inl, inr}
use native.Mathlib.Omega.{arith}
use native.Mathlib.Decide.{dec_lt}
use lib.ListN.{length, get_or}
use lib.Dec.{leb}
use borrow.Author.Tests.{le-leb, leb-true}
use Rattle.rules.specs.declared.Refusal.TheVariants.{NotWhole, BadArgument}
use Rattle.rules.specs.declared.PairTold.{PairTold}
use Rattle.rules.specs.declared.NumberTold.{NumberTold}
use Rattle.rules.specs.Refusals.{unless, ◌then◌, Verdict}
use Rattle.rules.specs.Ranges.{count}
use Rattle.rules.specs.Listing.{Listing, listing, Listed, within}
use Rattle.rules.specs.Order.{Needs, DirectStep, Stage, needs, step, stage, direct_steps, sound_verdict, low, high}
use Rattle.rules.specs.Index.{built_head, built_bits}
use Rattle.rules.specs.Questions.{kind10, kind11, kind16, kind17, kind18, units_where, unit_at}
use Rattle.rules.specs.Outcomes.{needs_outcome, is_step_outcome, needed_outcome, needing_outcome, steps_outcome, steps_up_outcome, stage_outcome, unit_low_outcome, unit_high_outcome, room_verdict, filled_verdict, build_verdict, build_outcome, whole_verdict, pair_answer, pair_outcome, unit_outcome, bound_outcome, ListOutcome, list_room, list_answer, list_outcome}
use Rattle.rules.specs.Told.{answered_pair, answered_number, answered_list, refused_list, told_pair, told_number, told_list}
use Rattle.rules.proofs.Ranges.{Kept, kept, keep_at, keep_ascends, length-keep, count_past, units_same}
use Rattle.rules.proofs.Verdicts.{and_both, both_and, within_is, same_test, then_fine, unless_fine, fine_unless}
use Rattle.rules.proofs.Needs.{Descending, needs_path, path_needs, needs_in, steps_listed, step_direct, direct_step, steps_same, needs_same}
use Rattle.rules.proofs.Steps.{steps_even, steps_pairs, steps_few, steps_needs}
use Rattle.rules.proofs.Stages.{stage_agrees, stage_exactly}
use Rattle.rules.proofs.Accepted.{Accepted, fine_listing}
use Rattle.rules.proofs.Nearest.{LastNeeded, NoneNeeded, FirstNeeding, NoneNeeding, unit_at-low, none_at_low, unit_at-high, none_at_high}
use Rattle.rules.proofs.Wholes.{Whole, whole_is}
use Rattle.rules.proofs.Builts.{bits_built}
use Rattle.rules.proofs.Builds.{Build, outcome_of, index_of, filled, room_verdict_lem, accepted_course, sound_course, whole-index, low-index, high-index, kind10-index, kind11-index}
use Rattle.rules.proofs.Redrawn.{words_redrawn, directory_redrawn, work_redrawn, sound_redrawn}
use Rattle.rules.proofs.Checks.{Off}
use Rattle.rules.proofs.Cases.{NoPlace}
use Rattle.rules.proofs.Refusing.{pair_answers, unit_answers, bound_answers, list_10, list_answers}

-- u is one of the units of the build's course
pub record CourseUnit (b : Build) (u : ℕ) : Type 0 where
  pub from : 1 ≤ u
  pub to : u ≤ b.course.n

-- ---- the answers on a build's index

not_off : {m u : ℕ} → 1 ≤ u → u ≤ m → Off m u → ⊥
not_off l h (inl o) = omega arith
not_off l h (inr o) = omega arith

module _ (b : Build) where
  head_units : (index_of b).head.n ≡ b.course.n
  unfolding build_outcome built_head
  head_units = rw b.accepted

  head_tracks : (index_of b).head.k ≡ b.course.k
  unfolding build_outcome built_head
  head_tracks = rw b.accepted

  index-whole : Whole (index_of b)
  index-whole = whole_is (index_of b) (whole-index b)

  unit_on : (u : ℕ) → CourseUnit b u → Off (index_of b).head.n u → ⊥
  unit_on u i = not_off i.from (omega (arith, i.to, head_units))

  -- no refusal comes between two units and their answer
  pub pair_answered : (u v : ℕ) → CourseUnit b u → CourseUnit b v → (answer : Bool) → told_pair (pair_outcome (index_of b) u v answer) ≡ answered_pair answer
  pair_answered u v i j answer = (pair_answers (index_of b) u v answer).1 (index-whole, unit_on u i, unit_on v j)

  -- nor between a unit and its stage, nor between a unit with a track and its bound
  pub unit_answered : (u : ℕ) → CourseUnit b u → (answer : ℕ) → told_number (unit_outcome (index_of b) u answer) ≡ answered_number answer
  unit_answered u i answer = (unit_answers (index_of b) u answer).1 (index-whole, unit_on u i)

  pub bound_answered : (u q : ℕ) → CourseUnit b u → q < b.course.k → (answer : ℕ) → told_number (bound_outcome (index_of b) u q answer) ≡ answered_number answer
  bound_answered u q i l answer = (bound_answers (index_of b) u q answer).1 (index-whole, unit_on u i, λ h. omega (arith, head_tracks))

  -- nor between a unit and its list, where the named place leaves room for it
  list_answered : (u : ℕ) → CourseUnit b u → (units list : List ℕ) (at : ℕ) → at + length units ≤ length list
      → told_list (list_outcome (index_of b) u units list at) ≡ answered_list units list at
  list_answered u i units list at h = (list_answers (index_of b) u units list at).1 (index-whole, unit_on u i, room)
    where
      room : NoPlace units list at → ⊥
      room (inl o) = omega arith
      room (inr o) = omega arith

  -- where it does not, refusal 10 tells the count
  list_short : (u : ℕ) → CourseUnit b u → (units list : List ℕ) (at : ℕ) → length list < at + length units
      → told_list (list_outcome (index_of b) u units list at) ≡ refused_list 10 (length units) list
  list_short u i units list at h = (list_10 (index_of b) u units list at (length units)).1 (index-whole, unit_on u i, refl, past (dec_lt (length list) at))
    where
      past : Dec (length list < at) → NoPlace units list at
      past (yes l) = inl l
      past (no n) = inr (omega arith)

-- what is told of an answered question is its answer
pair_exactly : {P : Type 0} {o : PairTold} {t : Bool} (s : Bool) → o ≡ answered_pair t → (t ≡ s) ↔ P → (o ≡ answered_pair s) ↔ P
pair_exactly s h = Iff.trans ((λ e. ap (λ (p : PairTold). p.yes) (sym h ∙ e)), (λ e. h ∙ ap answered_pair e))

number_exactly : {P : Type 0} {o : NumberTold} {m : ℕ} (s : ℕ) → o ≡ answered_number m → (m ≡ s) ↔ P → (o ≡ answered_number s) ↔ P
number_exactly s h = Iff.trans ((λ e. ap (λ (p : NumberTold). p.number) (sym h ∙ e)), (λ e. h ∙ ap answered_number e))

-- ---- the second demand

-- the list holds exactly the numbers of which P holds, each once, ascending
pub record Exactly (P : ℕ → Type 0) (units : List ℕ) : Type 0 where
  pub ascending : (c d : ℕ) → c < d → d < length units → get_or units c 0 < get_or units d 0
  pub only : (c : ℕ) → c < length units → P (get_or units c 0)
  pub all : (v : ℕ) → P v → (c : ℕ) × (c < length units) × (get_or units c 0 ≡ v)

-- the call lists exactly these: it writes them where the named place leaves room and tells their count, and else is refused with that count
pub record ListsExactly (P : ℕ → Type 0) (call : List ℕ → ℕ → ListOutcome) : Type 0 where
  pub units : List ℕ
  pub exactly : Exactly P units
  pub written : (list : List ℕ) (at : ℕ) → at + length units ≤ length list → told_list (call list at) ≡ answered_list units list at
  pub short : (list : List ℕ) (at : ℕ) → length list < at + length units → told_list (call list at) ≡ refused_list 10 (length units) list

units_exactly : (n : ℕ) (t : ℕ → Bool) (P : ℕ → Type 0) → ((v : ℕ) → P v → (1 ≤ v) × (v ≤ n)) → ((v : ℕ) → 1 ≤ v → v ≤ n → (t v ≡ true) ↔ P v)
    → Exactly P (units_where t n)
unfolding units_where
units_exactly n t P inside tells = record {
  ascending = λ c d h l. keep_ascends (λ v. leb 1 v && t v) (suc n) c d h l;
  only = λ c l. at_place c (kept (λ v. leb 1 v && t v) (suc n) c l);
  all = λ v p. let i = inside v p in place v i.0 i.1 (both_and (le-leb 1 v i.0) ((tells v i.0 i.1).1 p));
}
  where
    at_place : (c : ℕ) → Kept (λ v. leb 1 v && t v) (suc n) c → P (get_or (units_where t n) c 0)
    at_place c r =
        let s = and_both (leb 1 r.number) (t r.number) r.passes in
        rw r.stands ((tells r.number (leb-true 1 r.number s.0) (omega (arith, r.below))).0 s.1)

    place : (v : ℕ) → 1 ≤ v → v ≤ n → (leb 1 v && t v) ≡ true → (c : ℕ) × (c < length (units_where t n)) × (get_or (units_where t n) c 0 ≡ v)
    place v a z p = (
      count (λ v. leb 1 v && t v) v,
      rw (length-keep (λ v. leb 1 v && t v) (suc n)) (count_past (λ v. leb 1 v && t v) v (suc n) (omega arith) p),
      keep_at (λ v. leb 1 v && t v) (suc n) v (omega arith) p,
    )

module _ (b : Build) where
  down : Descending b.course.needs
  down = (accepted_course b).needs_pairs.goes_down

  -- both ends of a path are units of the course
  needs_units : {u v : ℕ} → Needs b.course.needs u v → CourseUnit b u × CourseUnit b v
  needs_units p =
      let r = needs_in (accepted_course b).needs_pairs p in
      (record { from = omega arith; to = r.2 }, record { from = r.0; to = omega arith })

  -- what the tests of kinds 10 and 11 tell of two units
  kind10_tells : (u v : ℕ) → CourseUnit b u → CourseUnit b v → (kind10 (index_of b) u v ≡ true) ↔ Needs b.course.needs u v
  kind10_tells u v i j = (λ t. needs_path (sym same ∙ t), λ p. same ∙ path_needs b.course.needs down p)
    where
      same : kind10 (index_of b) u v ≡ needs b.course.needs u v
      same = kind10-index b u v i.from i.to j.from j.to

  kind11_tells : (u v : ℕ) → CourseUnit b u → CourseUnit b v → (kind11 (index_of b) u v ≡ true) ↔ DirectStep b.course.needs u v
  kind11_tells u v i j = (λ t. step_direct b.course.needs down (sym same ∙ t), λ p. same ∙ direct_step b.course.needs down p)
    where
      same : kind11 (index_of b) u v ≡ step b.course.needs u v
      same = kind11-index b u v i.from i.to j.from j.to

  -- "u needs v" is yes exactly when listed needs lead from u to v in one hop or more
  pub needs_yes : (u v : ℕ) → CourseUnit b u → CourseUnit b v → (told_pair (needs_outcome (index_of b) u v) ≡ answered_pair true) ↔ Needs b.course.needs u v
  needs_yes u v i j = pair_exactly true (pair_answered b u v i j (kind10 (index_of b) u v)) (kind10_tells u v i j)

  -- "v is a direct step of u" is yes exactly when u needs v and no third unit lies between
  pub step_yes : (u v : ℕ) → CourseUnit b u → CourseUnit b v → (told_pair (is_step_outcome (index_of b) u v) ≡ answered_pair true) ↔ DirectStep b.course.needs u v
  step_yes u v i j = pair_exactly true (pair_answered b u v i j (kind11 (index_of b) u v)) (kind11_tells u v i j)

  -- a list by the test of its units
  lists_by : (u : ℕ) → CourseUnit b u → (t : ℕ → Bool) (P : ℕ → Type 0) → ((v : ℕ) → P v → CourseUnit b v) → ((v : ℕ) → CourseUnit b v → (t v ≡ true) ↔ P v)
      → ListsExactly P (λ list at. list_outcome (index_of b) u (units_where t (index_of b).head.n) list at)
  lists_by u i t P inside tells = record {
    units = units_where t (index_of b).head.n;
    exactly = rw (head_units b) (units_exactly b.course.n t P (λ v p. ((inside v p).from, (inside v p).to)) (λ v a z. tells v (record { from = a; to = z })));
    written = list_answered b u i (units_where t (index_of b).head.n);
    short = list_short b u i (units_where t (index_of b).head.n);
  }

  -- kinds 12 to 15
  pub needed_list : (u : ℕ) → CourseUnit b u → ListsExactly (λ v. Needs b.course.needs u v) (needed_outcome (index_of b) u)
  needed_list u i = lists_by u i _ _ (λ v p. (needs_units p).1) (λ v j. kind10_tells u v i j)

  pub needing_list : (u : ℕ) → CourseUnit b u → ListsExactly (λ v. Needs b.course.needs v u) (needing_outcome (index_of b) u)
  needing_list u i = lists_by u i _ _ (λ v p. (needs_units p).0) (λ v j. kind10_tells v u j i)

  pub steps_list : (u : ℕ) → CourseUnit b u → ListsExactly (λ v. DirectStep b.course.needs u v) (steps_outcome (index_of b) u)
  steps_list u i = lists_by u i _ _ (λ v d. (needs_units d.path).1) (λ v j. kind11_tells u v i j)

  pub steps_up_list : (u : ℕ) → CourseUnit b u → ListsExactly (λ v. DirectStep b.course.needs v u) (steps_up_outcome (index_of b) u)
  steps_up_list u i = lists_by u i _ _ (λ v d. (needs_units d.path).0) (λ v j. kind11_tells v u j i)

  -- for n units in k tracks the vectors take 2n(k - 1) bits
  pub vectors_take : (outcome_of b).answer.bits ≡ 2 * (b.course.n * (b.course.k - 1))
  unfolding build_outcome
  vectors_take = rw b.accepted (bits_built b.course (accepted_course b))

  -- kind 16: document 01's stage, over the direct steps
  pub stage_is : (u s : ℕ) → CourseUnit b u → (told_number (stage_outcome (index_of b) u) ≡ answered_number s) ↔ Stage (DirectStep b.course.needs) u s
  stage_is u s i = number_exactly s (unit_answered b u i (kind16 (index_of b) u) ∙ ap answered_number same)
      (stage_exactly (step b.course.needs) (DirectStep b.course.needs)
      (λ u v. (step_direct b.course.needs down, direct_step b.course.needs down))
      (λ u v d. (needs_in (accepted_course b).needs_pairs d.path).0) u s)
    where
      same : kind16 (index_of b) u ≡ stage (step b.course.needs) u
      same = stage_agrees b.course.n (kind11 (index_of b)) (step b.course.needs) (kind11-index b) u i.to

  -- a unit of the course and a track
  module _ (u q : ℕ) (i : CourseUnit b u) (l : q < b.course.k) where
    low_answer : told_number (unit_low_outcome (index_of b) u q) ≡ answered_number (unit_at b.course.tracks q (low b.course u q))
    low_answer =
        bound_answered b u q i l (kind17 (index_of b) u q)
        ∙ ap (λ (m : ℕ). answered_number (unit_at b.course.tracks q m)) (low-index b u q i.from i.to l)

    high_answer : told_number (unit_high_outcome (index_of b) u q) ≡ answered_number (unit_at b.course.tracks q (high b.course u q))
    high_answer =
        bound_answered b u q i l (kind18 (index_of b) u q)
        ∙ ap (λ (m : ℕ). answered_number (unit_at b.course.tracks q m)) (high-index b u q i.from i.to l)

    -- kind 17 answers the last unit of the track that u needs, and 0 exactly if there is none
    pub last_needed : (v : ℕ) → 1 ≤ v → (told_number (unit_low_outcome (index_of b) u q) ≡ answered_number v) ↔ LastNeeded b.course u q v
    last_needed v h = number_exactly v low_answer (unit_at-low b.course (accepted_course b) u q v h)

    pub none_needed : (told_number (unit_low_outcome (index_of b) u q) ≡ answered_number 0) ↔ NoneNeeded b.course u q
    none_needed = number_exactly 0 low_answer (none_at_low b.course (accepted_course b) u q)

    -- kind 18 answers the first unit of the track that needs u, and 0 exactly if there is none
    pub first_needing : (v : ℕ) → 1 ≤ v → (told_number (unit_high_outcome (index_of b) u q) ≡ answered_number v) ↔ FirstNeeding b.course u q v
    first_needing v h = number_exactly v high_answer (unit_at-high b.course (accepted_course b) (sound_course b) u q v h)

    pub none_needing : (told_number (unit_high_outcome (index_of b) u q) ≡ answered_number 0) ↔ NoneNeeding b.course u q
    none_needing = number_exactly 0 high_answer (none_at_high b.course (accepted_course b) (sound_course b) u q)

-- ---- the third demand

-- the calls of kinds 10 to 15 have the same outcome on both, whatever is asked and whatever list is lent
pub record Agree (a b : Build) : Type 0 where
  pub needs_agree : (u v : ℕ) → needs_outcome (index_of a) u v ≡ needs_outcome (index_of b) u v
  pub is_step_agree : (u v : ℕ) → is_step_outcome (index_of a) u v ≡ is_step_outcome (index_of b) u v
  pub needed_agree : (u : ℕ) (list : List ℕ) (at : ℕ) → needed_outcome (index_of a) u list at ≡ needed_outcome (index_of b) u list at
  pub needing_agree : (u : ℕ) (list : List ℕ) (at : ℕ) → needing_outcome (index_of a) u list at ≡ needing_outcome (index_of b) u list at
  pub steps_agree : (u : ℕ) (list : List ℕ) (at : ℕ) → steps_outcome (index_of a) u list at ≡ steps_outcome (index_of b) u list at
  pub steps_up_agree : (u : ℕ) (list : List ℕ) (at : ℕ) → steps_up_outcome (index_of a) u list at ≡ steps_up_outcome (index_of b) u list at

abbrev pub SameSteps : Build → Build → Type 0
SameSteps a b = (u v : ℕ) → DirectStep a.course.needs u v ↔ DirectStep b.course.needs u v

-- the refusals of a question to a build's index are those of its arguments among the units 1 to n
unit_in : ℕ → ℕ → ℕ → Verdict
unit_in n which u = unless (within 1 n u) (BadArgument which)

module _ (b : Build) where
  whole_fine : whole_verdict (index_of b) ≡ Ok tt
  unfolding whole_verdict
  whole_fine = fine_unless NotWhole (whole-index b)

  pair_by_units : (u v : ℕ) (t : Bool) → pair_outcome (index_of b) u v t ≡ pair_answer (unit_in b.course.n 1 u then unit_in b.course.n 2 v) t
  unfolding pair_outcome unit_in
  pair_by_units u v t = rw (whole_fine, head_units b)

  list_by_units : (u : ℕ) (units list : List ℕ) (at : ℕ) → list_outcome (index_of b) u units list at ≡ list_answer (unit_in b.course.n 1 u then list_room units list at) units list at
  unfolding list_outcome unit_in
  list_by_units u units list at = rw (whole_fine, head_units b)

  fine_unit : (which u : ℕ) → unit_in b.course.n which u ≡ Ok tt → CourseUnit b u
  unfolding unit_in
  fine_unit which u h =
      let r = within_is 1 b.course.n u (unless_fine (within 1 b.course.n u) (BadArgument which) h) in
      record { from = r.0; to = r.1 }

-- what is refused is refused whatever the answer would be
pair_alike : (v : Verdict) (s t : Bool) → (v ≡ Ok tt → s ≡ t) → pair_answer v s ≡ pair_answer v t
pair_alike (Ok _) s t h = rw (h refl)
pair_alike (Err r) s t h = refl

list_alike : (v : Verdict) (xs ys list : List ℕ) (at : ℕ) → (v ≡ Ok tt → xs ≡ ys)
    → list_answer (v then list_room xs list at) xs list at ≡ list_answer (v then list_room ys list at) ys list at
unfolding list_answer
list_alike (Ok _) xs ys list at h = rw (h refl)
list_alike (Err r) xs ys list at h = refl

-- accepted listings of the same units
module _ (a b : Build) (units : b.course.n ≡ a.course.n) where
  same_unit : (u : ℕ) → CourseUnit a u → CourseUnit b u
  same_unit u i = record { from = i.from; to = rw units i.to }

  pairs_alike : (p q : ℕ → ℕ → Bool) → ((u v : ℕ) → CourseUnit a u → CourseUnit a v → p u v ≡ q u v)
      → (u v : ℕ) → pair_outcome (index_of a) u v (p u v) ≡ pair_outcome (index_of b) u v (q u v)
  pairs_alike p q h u v =
      pair_by_units a u v (p u v)
      ∙ pair_alike (unit_in a.course.n 1 u then unit_in a.course.n 2 v) (p u v) (q u v)
      (λ f. let e = then_fine (unit_in a.course.n 1 u) (unit_in a.course.n 2 v) f in h u v (fine_unit a 1 u e.0) (fine_unit a 2 v e.1))
      ∙ sym (rw (sym units) (pair_by_units b u v (q u v)))

  lists_alike : (p q : ℕ → ℕ → Bool) → ((u v : ℕ) → CourseUnit a u → CourseUnit a v → p u v ≡ q u v) → (u : ℕ) (list : List ℕ) (at : ℕ)
      → list_outcome (index_of a) u (units_where (p u) (index_of a).head.n) list at ≡ list_outcome (index_of b) u (units_where (q u) (index_of b).head.n) list at
  lists_alike p q h u list at =
      list_by_units a u (units_where (p u) (index_of a).head.n) list at
      ∙ list_alike (unit_in a.course.n 1 u) _ _ list at (λ f. same (fine_unit a 1 u f))
      ∙ sym (rw (sym units) (list_by_units b u (units_where (q u) (index_of b).head.n) list at))
    where
      same : CourseUnit a u → units_where (p u) (index_of a).head.n ≡ units_where (q u) (index_of b).head.n
      same i =
          ap (units_where (p u)) (head_units a)
          ∙ units_same (p u) (q u) a.course.n (λ v l m. h u v i (record { from = l; to = m }))
          ∙ ap (units_where (q u)) (sym (head_units b ∙ units))

  agree_kinds : ((u v : ℕ) → CourseUnit a u → CourseUnit a v → kind10 (index_of a) u v ≡ kind10 (index_of b) u v)
      → ((u v : ℕ) → CourseUnit a u → CourseUnit a v → kind11 (index_of a) u v ≡ kind11 (index_of b) u v) → Agree a b
  agree_kinds ten eleven = record {
    needs_agree = pairs_alike (kind10 (index_of a)) (kind10 (index_of b)) ten;
    is_step_agree = pairs_alike (kind11 (index_of a)) (kind11 (index_of b)) eleven;
    needed_agree = lists_alike (kind10 (index_of a)) (kind10 (index_of b)) ten;
    needing_agree = lists_alike (λ u v. kind10 (index_of a) v u) (λ u v. kind10 (index_of b) v u) (λ u v i j. ten v u j i);
    steps_agree = lists_alike (kind11 (index_of a)) (kind11 (index_of b)) eleven;
    steps_up_agree = lists_alike (λ u v. kind11 (index_of a) v u) (λ u v. kind11 (index_of b) v u) (λ u v i j. eleven v u j i);
  }

  -- the same needs, as tests
  same_needs : SameSteps a b → (u v : ℕ) → needs a.course.needs u v ≡ needs b.course.needs u v
  same_needs h = needs_same a.course.needs b.course.needs (down a) (down b) (λ u v. same_test _ _
      (λ t. direct_step b.course.needs (down b) ((h u v).0 (step_direct a.course.needs (down a) t)))
      (λ t. direct_step a.course.needs (down a) ((h u v).1 (step_direct b.course.needs (down b) t))))

  agree_needs : ((u v : ℕ) → needs a.course.needs u v ≡ needs b.course.needs u v) → Agree a b
  agree_needs h = agree_kinds
      (λ u v i j. kind10-index a u v i.from i.to j.from j.to ∙ h u v ∙ sym (kind10-index b u v i.from (same_unit u i).to j.from (same_unit v j).to))
      (λ u v i j. kind11-index a u v i.from i.to j.from j.to ∙ steps_same a.course.needs b.course.needs h u v
      ∙ sym (kind11-index b u v i.from (same_unit u i).to j.from (same_unit v j).to))

  -- kind 11 answers the units alike
  abbrev StepsAlike : Type 0
  StepsAlike = (u v : ℕ) → CourseUnit a u → CourseUnit a v → is_step_outcome (index_of a) u v ≡ is_step_outcome (index_of b) u v

  -- then each direct step of one is a direct step of the other
  steps_cross : StepsAlike → (u v : ℕ) → DirectStep a.course.needs u v → DirectStep b.course.needs u v
  steps_cross g u v d =
      let i = needs_units a d.path in
      (step_yes b u v (same_unit u i.0) (same_unit v i.1)).0 (ap told_pair (sym (g u v i.0 i.1)) ∙ (step_yes a u v i.0 i.1).1 d)

-- kind 11 alone, asked of the units, tells the direct steps
steps_told : (a b : Build) (units : b.course.n ≡ a.course.n) → StepsAlike a b units → SameSteps a b
steps_told a b units g u v = (
  steps_cross a b units g u v,
  steps_cross b a (sym units) (λ u v i j. sym (g u v (same_unit b a (sym units) u i) (same_unit b a (sym units) v j))) u v,
)

-- two agree on every pair and every list exactly when their direct steps are the same
pub agree_steps : (a b : Build) → b.course.n ≡ a.course.n → Agree a b ↔ SameSteps a b
agree_steps a b units = (
  (λ g. steps_told a b units (λ u v i j. g.is_step_agree u v)),
  (λ h. agree_needs a b units (same_needs a b units h)),
)

-- so answering alike where kind 11 is asked of the units is enough to have the same outcome everywhere
pub steps_suffice : (a b : Build) → b.course.n ≡ a.course.n
    → ((u v : ℕ) → CourseUnit a u → CourseUnit a v → is_step_outcome (index_of a) u v ≡ is_step_outcome (index_of b) u v) → Agree a b
steps_suffice a b units g = (agree_steps a b units).1 (steps_told a b units g)

-- every accepted listing that answers alike contains them all
pub agree_contains : (a b : Build) → b.course.n ≡ a.course.n → Agree a b → (u v : ℕ) → DirectStep a.course.needs u v → Listed b.course.needs u v
agree_contains a b units g u v d = steps_listed (((agree_steps a b units).0 g u v).0 d)

-- one listing under two accepted divisions into tracks gives the same answers
pub divisions_agree : (a b : Build) → b.course.n ≡ a.course.n → b.course.needs ≡ a.course.needs → Agree a b
divisions_agree a b units same = agree_needs a b units (λ u v. ap (λ (l : List ℕ). needs l u v) (sym same))

-- the direct steps of a course alone, filed with the same tracks
abbrev pub steps_only : Listing → Listing
steps_only c = listing c.n c.k c.tracks (direct_steps c.needs c.n)

module _ (a : Build) where
  same : (u v : ℕ) → needs (direct_steps a.course.needs a.course.n) u v ≡ needs a.course.needs u v
  same = steps_needs (accepted_course a).needs_pairs

  steps_accepted : Accepted (steps_only a.course)
  steps_accepted =
      let c = accepted_course a in
      record {
        n_in = c.n_in;
        k_in = c.k_in;
        tracks_long = c.tracks_long;
        tracks_below = c.tracks_below;
        tracks_used = c.tracks_used;
        needs_even = steps_even a.course.needs a.course.n;
        needs_few = omega (arith, steps_few c.needs_pairs, c.needs_few);
        needs_pairs = steps_pairs c.needs_pairs;
      }

  steps_filled : filled_verdict (steps_only a.course) a.words a.directory a.work ≡ Ok tt
  unfolding filled_verdict room_verdict
  steps_filled = rw (fine_listing (steps_only a.course) steps_accepted) (room_verdict_lem a)

  steps_sound : sound_verdict (steps_only a.course) ≡ Ok tt
  steps_sound =
      sound_redrawn a.course.n a.course.k a.course.tracks (direct_steps a.course.needs a.course.n) a.course.needs same
      ∙ sound_course a

  -- are accepted
  pub steps_alone : build_verdict (steps_only a.course) a.words a.directory a.work ≡ Ok tt
  unfolding build_verdict
  steps_alone = rw (steps_filled, steps_sound)

  -- and build the same index bit for bit: the same answer, and the same entries of every area
  pub steps_rebuild : build_outcome (steps_only a.course) a.words a.directory a.work ≡ outcome_of a
  unfolding build_outcome built_head built_bits
  steps_rebuild =
      rw (
        steps_alone,
        a.accepted,
        steps_filled,
        filled a,
        words_redrawn a.course.n a.course.k a.course.tracks (direct_steps a.course.needs a.course.n) a.course.needs same,
        directory_redrawn a.course.n a.course.k a.course.tracks (direct_steps a.course.needs a.course.n) a.course.needs same,
        work_redrawn a.course.n a.course.k a.course.tracks (direct_steps a.course.needs a.course.n) a.course.needs same,
      )
