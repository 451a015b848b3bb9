-- The first demand, call by call and in document 01's numbers (specs/Told.antt): each refusal, by its number and place, comes exactly in the
-- case that 01 states, together with none of the cases tested before it; a call answers exactly where no case holds; and no other number
-- comes. A theorem's name ends in the number of its refusal. The cases are the propositions of proofs/Cases.antt. Assumes nothing.
use Rattle.std.specs.Prelude.{Ok, Err}
use Prim.Native.Nat.{ℕ, ◌+◌, ◌-◌, ◌*◌, ◌/◌, ◌≤◌, ◌<◌}
use mathlib.Core.Path.{◌≡◌, refl, sym, ap, ◌∙◌}
use mathlib.Core.Bool.{Bool}
use mathlib.Core.List.{List, [], ◌∷◌}
use mathlib.Core.Logic.Iff
use mathlib.Core.Logic.{◌↔◌, ◌⊎◌, inl, inr}
use native.Mathlib.Omega.{arith}
use lib.ListN.{length}
use Rattle.rules.specs.declared.Refusal.{Refusal}
use Rattle.rules.specs.declared.Refusal.TheVariants.{OutOfLimits, NoSuchTrack, EmptyTrack, BadPair, PairOrder, ShortArea, UnsoundTrack, BadArgument, NotWhole, ShortList}
use Rattle.rules.specs.Limits.{max_units}
use Rattle.rules.specs.Refusals.{number_of, unless, ◌then◌, Verdict}
use Rattle.rules.specs.Ranges.{over}
use Rattle.rules.specs.Listing.{Listing, size, pairs, within, counted_needs, listing_verdict}
use Rattle.rules.specs.Order.{sound_verdict}
use Rattle.rules.specs.Layout.{word_count}
use Rattle.rules.specs.Index.{Index, sizes, built_count, built_bits, built_work, whole}
use Rattle.rules.specs.Outcomes.{room_verdict, filled_verdict, build_verdict, empty_head, BuildOutcome, build_outcome, whole_verdict, yes_or_no, pair_outcome, unit_outcome, bound_outcome, list_answer, list_outcome, part_verdict, pairs_from, part_outcome}
use Rattle.rules.specs.Told.{refused, no_refusal, answered_pair, refused_pair, answered_number, refused_number, answered_list, refused_list, told_verdict, told_pair, told_number, told_list}
use Rattle.rules.proofs.Ranges.{not_both}
use Rattle.rules.proofs.Verdicts.{not_yes, then_fine, unless_fine, fine_unless}
use Rattle.rules.proofs.Needs.{Descending}
use Rattle.rules.proofs.Accepted.{listing_fine}
use Rattle.rules.proofs.Wholes.{Whole, whole_is, is_whole, units_sum}
use Rattle.rules.proofs.Layouts.{room_meant, meant_bits_lem}
use Rattle.rules.proofs.Builts.{bits_built}
use Rattle.rules.proofs.Checks.{None, Smallest, Off, Fails, ltb_fails, within_fails, flat3, flat4, flat5, flat_left, then_refused, Never, then_never, here, after, both_fine, unless_at, unless_clear, unless_never}
use Rattle.rules.proofs.Tellings.{verdict_told, pair_told_lem, number_told_lem, list_told_lem, Among, told_among, told_most, told_refused, yes_tells, pair_tells, number_tells}
use Rattle.rules.proofs.Cases.{counted_fails, limits_at, limits_clear, limits_never, tracks_at, tracks_clear, tracks_never, units_never, long_list, units_at, units_clear, pairs_4, pairs_5, pairs_clear, pairs_never, room_never, room_at, room_clear, sound_never, sound_at, sound_clear, argument_at, argument_clear, argument_never, place_at, place_clear, place_never, pair_refused, pair_given, number_refused, number_given, list_refused, list_given, Uncounted, Outside, NoTrack, NoUnit, WrongPair, NotAbove, NoRoom, Unsound, FirstBad, NoPlace, kept_list, given_list}

-- ---- listing::check

-- none of the cases 1 to 5
abbrev pub Clear : Listing → Type 0
Clear c = (Outside c → ⊥) × None (NoTrack c) × None (NoUnit c) × None (WrongPair c.n c.needs) × None (NotAbove c.needs)

module _ (c : Listing) where
  pub listing_1 : (told_verdict (listing_verdict c) ≡ refused 1 0) ↔ Outside c
  unfolding listing_verdict
  listing_1 = Iff.trans (verdict_told _ (Err OutOfLimits)) (here
      (then_never (tracks_never c (λ e. omega arith)) (then_never (units_never c (λ e. omega arith)) (pairs_never c.n c.needs (λ e. omega arith) (λ e. omega arith))))
      (limits_at c))

  pub listing_2 : (u : ℕ) → (told_verdict (listing_verdict c) ≡ refused 2 u) ↔ ((Outside c → ⊥) × Smallest (NoTrack c) u)
  unfolding listing_verdict
  listing_2 u = Iff.trans (verdict_told _ (Err (NoSuchTrack u))) (after (limits_never c (λ e. omega arith)) (limits_clear c)
      (λ f. here (then_never (units_never c (λ e. omega arith)) (pairs_never c.n c.needs (λ e. omega arith) (λ e. omega arith))) (tracks_at c u)))

  pub listing_3 : (q : ℕ) → (told_verdict (listing_verdict c) ≡ refused 3 q) ↔ ((Outside c → ⊥) × None (NoTrack c) × Smallest (NoUnit c) q)
  unfolding listing_verdict
  listing_3 q = Iff.trans (verdict_told _ (Err (EmptyTrack q))) (Iff.trans (after (limits_never c (λ e. omega arith)) (limits_clear c) (λ f. after (tracks_never c (λ e. omega arith)) (tracks_clear c)
      (λ g. here (pairs_never c.n c.needs (λ e. omega arith) (λ e. omega arith)) (units_at c (long_list c f) q)))) flat3)

  pub listing_4 : (i : ℕ) → (told_verdict (listing_verdict c) ≡ refused 4 i)
      ↔ ((Outside c → ⊥) × None (NoTrack c) × None (NoUnit c) × Smallest (WrongPair c.n c.needs) i)
  unfolding listing_verdict
  listing_4 i = Iff.trans (verdict_told _ (Err (BadPair i))) (Iff.trans (after (limits_never c (λ e. omega arith)) (limits_clear c) (λ f. after (tracks_never c (λ e. omega arith)) (tracks_clear c)
      (λ g. after (units_never c (λ e. omega arith)) (units_clear c (long_list c f)) (λ h. pairs_4 c.n c.needs i)))) flat4)

  pub listing_5 : (i : ℕ) → (told_verdict (listing_verdict c) ≡ refused 5 i)
      ↔ ((Outside c → ⊥) × None (NoTrack c) × None (NoUnit c) × None (WrongPair c.n c.needs) × Smallest (NotAbove c.needs) i)
  unfolding listing_verdict
  listing_5 i = Iff.trans (verdict_told _ (Err (PairOrder i))) (Iff.trans (after (limits_never c (λ e. omega arith)) (limits_clear c) (λ f. after (tracks_never c (λ e. omega arith)) (tracks_clear c)
      (λ g. after (units_never c (λ e. omega arith)) (units_clear c (long_list c f)) (λ h. pairs_5 c.n c.needs i)))) flat5)

  listing_clear : (listing_verdict c ≡ Ok tt) ↔ Clear c
  unfolding listing_verdict
  listing_clear = Iff.trans
      (both_fine (limits_clear c) (λ f. both_fine (tracks_clear c) (λ g. both_fine (units_clear c (long_list c f)) (λ h. pairs_clear c.n c.needs))))
      flat5

  pub listing_accepts : (told_verdict (listing_verdict c) ≡ no_refusal) ↔ Clear c
  listing_accepts = Iff.trans (verdict_told _ (Ok tt)) listing_clear

  listing_never : {r : Refusal} → 5 < number_of r → Never (listing_verdict c) r
  unfolding listing_verdict
  listing_never h = then_never (limits_never c (λ e. omega arith)) (then_never (tracks_never c (λ e. omega arith))
      (then_never (units_never c (λ e. omega arith)) (pairs_never c.n c.needs (λ e. omega arith) (λ e. omega arith))))

  -- no other refusal comes
  pub listing_others : (told_verdict (listing_verdict c)).number ≤ 5
  listing_others = told_most (listing_verdict c) 5 (λ r h. listing_never h)

-- ---- listing::part_verdict and listing::part, of a need list and a unit

module _ (l : List ℕ) (u : ℕ) where
  unit_never : {r : Refusal} → (number_of r ≡ 8 → ⊥) → Never (unless (within 1 max_units u) (BadArgument 1)) r
  unit_never = argument_never 1 (within_fails 1024 u)

  unit_clear : (unless (within 1 max_units u) (BadArgument 1) ≡ Ok tt) ↔ (Off 1024 u → ⊥)
  unit_clear = argument_clear 1 (within_fails 1024 u)

  counted_never : {r : Refusal} → (number_of r ≡ 1 → ⊥) → Never (unless (counted_needs l) OutOfLimits) r
  counted_never n = unless_never (counted_needs l) OutOfLimits (λ e. n (sym e))

  counted_clear : (unless (counted_needs l) OutOfLimits ≡ Ok tt) ↔ (Uncounted l → ⊥)
  counted_clear = unless_clear OutOfLimits (counted_fails l)

  pub part_8 : (w : ℕ) → (told_verdict (part_verdict l u) ≡ refused 8 w) ↔ ((w ≡ 1) × Off 1024 u)
  unfolding part_verdict
  part_8 w = Iff.trans (verdict_told _ (Err (BadArgument w))) (here (then_never (counted_never (λ e. omega arith)) (pairs_never 1024 l (λ e. omega arith) (λ e. omega arith))) (argument_at 1 (within_fails 1024 u) w))

  pub part_1 : (told_verdict (part_verdict l u) ≡ refused 1 0) ↔ ((Off 1024 u → ⊥) × Uncounted l)
  unfolding part_verdict
  part_1 = Iff.trans (verdict_told _ (Err OutOfLimits)) (after (unit_never (λ e. omega arith)) unit_clear
      (λ f. here (pairs_never 1024 l (λ e. omega arith) (λ e. omega arith)) (unless_at OutOfLimits (counted_fails l))))

  pub part_4 : (i : ℕ) → (told_verdict (part_verdict l u) ≡ refused 4 i) ↔ ((Off 1024 u → ⊥) × (Uncounted l → ⊥) × Smallest (WrongPair 1024 l) i)
  unfolding part_verdict
  part_4 i = Iff.trans (verdict_told _ (Err (BadPair i))) (Iff.trans (after (unit_never (λ e. omega arith)) unit_clear (λ f. after (counted_never (λ e. omega arith)) counted_clear (λ g. pairs_4 1024 l i))) flat3)

  pub part_5 : (i : ℕ) → (told_verdict (part_verdict l u) ≡ refused 5 i)
      ↔ ((Off 1024 u → ⊥) × (Uncounted l → ⊥) × None (WrongPair 1024 l) × Smallest (NotAbove l) i)
  unfolding part_verdict
  part_5 i = Iff.trans (verdict_told _ (Err (PairOrder i))) (Iff.trans (after (unit_never (λ e. omega arith)) unit_clear (λ f. after (counted_never (λ e. omega arith)) counted_clear (λ g. pairs_5 1024 l i))) flat4)

  pub part_accepts : (told_verdict (part_verdict l u) ≡ no_refusal) ↔ ((Off 1024 u → ⊥) × (Uncounted l → ⊥) × None (WrongPair 1024 l) × None (NotAbove l))
  unfolding part_verdict
  part_accepts = Iff.trans (verdict_told _ (Ok tt)) (Iff.trans (both_fine unit_clear (λ f. both_fine counted_clear (λ g. pairs_clear 1024 l))) flat4)

  pub part_others : Among (0 ∷ 8 ∷ 1 ∷ 4 ∷ 5 ∷ []) (told_verdict (part_verdict l u)).number
  unfolding part_verdict
  part_others = told_among _ (8 ∷ 1 ∷ 4 ∷ 5 ∷ []) (λ r n. then_never (unit_never (λ e. n (inl e)))
      (then_never (counted_never (λ e. n (inr (inl e)))) (pairs_never 1024 l (λ e. n (inr (inr (inl e)))) (λ e. n (inr (inr (inr (inl e))))))))

  -- the part is empty where the verdict refuses, else the pairs that begin with u
  pub part_empty : {number place : ℕ} → 1 ≤ number → told_verdict (part_verdict l u) ≡ refused number place → part_outcome l u ≡ []
  unfolding part_outcome
  part_empty f h = rw (told_refused (part_verdict l u) f h).2

  pub part_given : told_verdict (part_verdict l u) ≡ no_refusal → part_outcome l u ≡ pairs_from l u (pairs l)
  unfolding part_outcome
  part_given h = let e : part_verdict l u ≡ (Ok tt) = (verdict_told _ (Ok tt)).0 h in rw e

-- ---- build::build

-- W, which the cases of 6 speak of
pub words_needed : (c : Listing) → Clear c → built_count c ≡ (2 * (c.n * (c.k - 1)) + 63) / 64
unfolding word_count built_bits
words_needed c f =
    ap (λ (m : ℕ). (m + 63) / 64) (room_meant (size c.tracks) c.k ∙ bits_built c (listing_fine c ((listing_clear c).1 f)))

module _ (c : Listing) (words directory work : List ℕ) where
  -- refusals 1 to 6 do not come
  filled_clear : (filled_verdict c words directory work ≡ Ok tt) ↔ (Clear c × (NoRoom c words directory work → ⊥))
  unfolding filled_verdict
  filled_clear = both_fine (listing_clear c) (λ f. room_clear c words directory work)

  -- where they do not, every pair goes down in number
  filled_down : filled_verdict c words directory work ≡ Ok tt → Descending c.needs
  unfolding filled_verdict
  filled_down h = (listing_fine c (then_fine (listing_verdict c) (room_verdict c words directory work) h).0).needs_pairs.goes_down

  -- the verdict is the one that the build's answer carries
  pub build_told : (build_outcome c words directory work).answer.verdict ≡ build_verdict c words directory work
  unfolding build_outcome
  build_told = refl

  -- refusals 1 to 5 come exactly where the listing meets them
  pub build_1_to_5 : (number place : ℕ) → 1 ≤ number → number ≤ 5
      → (told_verdict (build_verdict c words directory work) ≡ refused number place) ↔ (told_verdict (listing_verdict c) ≡ refused number place)
  unfolding build_verdict filled_verdict
  build_1_to_5 number place a z = (
    (λ h. let r = told_refused (build_verdict c words directory work) a h in
        ap told_verdict ((same r.0 (omega (arith, r.1))).0 r.2 ∙ sym r.2) ∙ h),
    (λ h. let r = told_refused (listing_verdict c) a h in
        ap told_verdict ((same r.0 (omega (arith, r.1))).1 r.2 ∙ sym r.2) ∙ h),
  )
    where
      same : (r : Refusal) → number_of r ≤ 5 → (build_verdict c words directory work ≡ Err r) ↔ (listing_verdict c ≡ Err r)
      same r h = here (sound_never c (λ e. omega arith)) (here (room_never c words directory work (λ e. omega arith)) Iff.rfl)

  pub build_6 : (told_verdict (build_verdict c words directory work) ≡ refused 6 0) ↔ (Clear c × NoRoom c words directory work)
  unfolding build_verdict filled_verdict
  build_6 = Iff.trans (verdict_told _ (Err ShortArea))
      (here (sound_never c (λ e. omega arith)) (after (listing_never c (omega arith)) (listing_clear c) (λ f. room_at c words directory work)))

  pub build_7 : (u : ℕ) → (told_verdict (build_verdict c words directory work) ≡ refused 7 u)
      ↔ (Clear c × (NoRoom c words directory work → ⊥) × Smallest (Unsound c) u)
  unfolding build_verdict filled_verdict
  build_7 u = Iff.trans (verdict_told _ (Err (UnsoundTrack u))) (Iff.trans
      (after (then_never (listing_never c (omega arith)) (room_never c words directory work (λ e. omega arith))) filled_clear
      (λ f. sound_at c (filled_down f) u)) flat_left)

  pub build_accepts : (told_verdict (build_verdict c words directory work) ≡ no_refusal) ↔ (Clear c × (NoRoom c words directory work → ⊥) × None (Unsound c))
  unfolding build_verdict
  build_accepts = Iff.trans (verdict_told _ (Ok tt)) (Iff.trans (both_fine filled_clear (λ f. sound_clear c (filled_down f))) flat_left)

  pub build_others : (told_verdict (build_verdict c words directory work)).number ≤ 7
  unfolding build_verdict filled_verdict
  build_others = told_most _ 7 (λ r h. then_never (then_never (listing_never c (omega arith)) (room_never c words directory work (λ e. omega arith))) (sound_never c (λ e. omega arith)))

-- what a refused build answers, and what it leaves of the areas
abbrev pub refused_build : Verdict → List ℕ → List ℕ → List ℕ → BuildOutcome
refused_build v words directory work = record {
  answer = record { head = empty_head; bits = 0; verdict = v };
  words = words;
  directory = directory;
  work = work;
}

module _ (c : Listing) (words directory work : List ℕ) where
  -- refusals 1 to 6 write nothing
  pub build_writes_none : {number place : ℕ} → 1 ≤ number → number ≤ 6 → told_verdict (build_verdict c words directory work) ≡ refused number place
      → build_outcome c words directory work ≡ refused_build (build_verdict c words directory work) words directory work
  unfolding build_outcome build_verdict
  build_writes_none a z h =
      let r = told_refused (build_verdict c words directory work) a h in
      let s : Never (sound_verdict c) r.0 = sound_never c (λ e. omega (arith, r.1)) in
      let f : filled_verdict c words directory work ≡ Err r.0 = (here s Iff.rfl).0 r.2 in
      rw f

  -- refusal 7 writes the work area and no index area
  pub build_writes_work : {u : ℕ} → told_verdict (build_verdict c words directory work) ≡ refused 7 u
      → build_outcome c words directory work ≡ refused_build (build_verdict c words directory work) words directory (over work (built_work c))
  unfolding build_outcome
  build_writes_work {u} h =
      let g = (build_7 c words directory work u).0 h in
      let f : filled_verdict c words directory work ≡ (Ok tt) = (filled_clear c words directory work).1 (g.0, g.1) in
      let e : build_verdict c words directory work ≡ Err (UnsoundTrack u) = (verdict_told _ (Err (UnsoundTrack u))).0 h in
      rw (e, f)

-- ---- whole::check

module _ (x : Index) where
  whole_at : (whole_verdict x ≡ Err NotWhole) ↔ (Whole x → ⊥)
  unfolding whole_verdict
  whole_at = unless_at NotWhole ((λ h w. not_both (is_whole x w) h), λ n. not_yes (whole x) (λ t. n (whole_is x t)))

  whole_clear : (whole_verdict x ≡ Ok tt) ↔ Whole x
  unfolding whole_verdict
  whole_clear = (λ h. whole_is x (unless_fine (whole x) NotWhole h), λ w. fine_unless NotWhole (is_whole x w))

  whole_never : {r : Refusal} → (number_of r ≡ 9 → ⊥) → Never (whole_verdict x) r
  unfolding whole_verdict
  whole_never n = unless_never (whole x) NotWhole (λ e. n (sym e))

  pub whole_9 : (told_verdict (whole_verdict x) ≡ refused 9 0) ↔ (Whole x → ⊥)
  whole_9 = Iff.trans (verdict_told _ (Err NotWhole)) whole_at

  pub whole_accepts : (told_verdict (whole_verdict x) ≡ no_refusal) ↔ Whole x
  whole_accepts = Iff.trans (verdict_told _ (Ok tt)) whole_clear

  pub whole_others : Among (0 ∷ 9 ∷ []) (told_verdict (whole_verdict x)).number
  whole_others = told_among _ (9 ∷ []) (λ r n. whole_never (λ e. n (inl e)))

  -- W, which the fourth condition speaks of: 2n(k - 1) divided by 64, rounded up
  pub words_whole : Whole x → word_count (sizes x) x.head.k ≡ (2 * (x.head.n * (x.head.k - 1)) + 63) / 64
  unfolding word_count
  words_whole good =
      ap (λ (m : ℕ). (m + 63) / 64)
      (room_meant (sizes x) x.head.k ∙ meant_bits_lem (sizes x) x.head.k ∙ ap (λ (m : ℕ). 2 * (m * (x.head.k - 1))) (units_sum x good))

-- ---- the questions: 9, then 8, then 10

-- two arguments, each with its test
module _ (x : Index) {b d : Bool} {P Q : Type 0} (f : Fails b P) (g : Fails d Q) where
  abbrev asked_two : Verdict
  asked_two = whole_verdict x then unless b (BadArgument 1) then unless d (BadArgument 2)

  two_9 : (asked_two ≡ Err NotWhole) ↔ (Whole x → ⊥)
  two_9 = here (then_never (argument_never 1 f (λ e. omega arith)) (argument_never 2 g (λ e. omega arith))) (whole_at x)

  two_8 : (w : ℕ) → (asked_two ≡ Err (BadArgument w)) ↔ (Whole x × FirstBad P Q w)
  two_8 w = after (whole_never x (λ e. omega arith)) (whole_clear x)
      (λ h. (λ e. to ((then_refused _ _ _).0 e), λ p. (then_refused _ _ _).1 (from p)))
    where
      to : (unless b (BadArgument 1) ≡ Err (BadArgument w)) ⊎ ((unless b (BadArgument 1) ≡ Ok tt) × (unless d (BadArgument 2) ≡ Err (BadArgument w))) → FirstBad P Q w
      to (inl e) = inl ((argument_at 1 f w).0 e)
      to (inr e) = let r = (argument_at 2 g w).0 e.1 in inr (r.0, (argument_clear 1 f).0 e.0, r.1)

      from : FirstBad P Q w → (unless b (BadArgument 1) ≡ Err (BadArgument w)) ⊎ ((unless b (BadArgument 1) ≡ Ok tt) × (unless d (BadArgument 2) ≡ Err (BadArgument w)))
      from (inl p) = inl ((argument_at 1 f w).1 p)
      from (inr p) = inr ((argument_clear 1 f).1 p.1, (argument_at 2 g w).1 (p.0, p.2))

  two_clear : (asked_two ≡ Ok tt) ↔ (Whole x × (P → ⊥) × (Q → ⊥))
  two_clear = Iff.trans (both_fine (whole_clear x) (λ h. both_fine (argument_clear 1 f) (λ k. argument_clear 2 g))) flat3

  two_others : Among (0 ∷ 9 ∷ 8 ∷ []) (told_verdict asked_two).number
  two_others = told_among asked_two (9 ∷ 8 ∷ [])
      (λ r n. then_never (whole_never x (λ e. n (inl e))) (then_never (argument_never 1 f (λ e. n (inr (inl e)))) (argument_never 2 g (λ e. n (inr (inl e))))))

-- kinds 10 and 11: two units, whatever the answer
module _ (x : Index) (u v : ℕ) (answer : Bool) where
  pub pair_9 : (told_pair (pair_outcome x u v answer) ≡ refused_pair 9 0) ↔ (Whole x → ⊥)
  unfolding pair_outcome
  pair_9 = Iff.trans (pair_told_lem _ (Err NotWhole)) (Iff.trans (pair_refused _ answer _) (two_9 x (within_fails x.head.n u) (within_fails x.head.n v)))

  pub pair_8 : (w : ℕ) → (told_pair (pair_outcome x u v answer) ≡ refused_pair 8 w) ↔ (Whole x × FirstBad (Off x.head.n u) (Off x.head.n v) w)
  unfolding pair_outcome
  pair_8 w = Iff.trans (pair_told_lem _ (Err (BadArgument w))) (Iff.trans (pair_refused _ answer _) (two_8 x (within_fails x.head.n u) (within_fails x.head.n v) w))

  pub pair_answers : (told_pair (pair_outcome x u v answer) ≡ answered_pair answer) ↔ (Whole x × (Off x.head.n u → ⊥) × (Off x.head.n v → ⊥))
  unfolding pair_outcome
  pair_answers = rw (sym (yes_tells answer))
      (Iff.trans (pair_told_lem _ (yes_or_no answer)) (Iff.trans (pair_given _ answer) (two_clear x (within_fails x.head.n u) (within_fails x.head.n v))))

  pub pair_others : Among (0 ∷ 9 ∷ 8 ∷ []) (told_pair (pair_outcome x u v answer)).refusal.number
  unfolding pair_outcome
  pair_others = rw (pair_tells _ answer) (two_others x (within_fails x.head.n u) (within_fails x.head.n v))

-- kinds 17 and 18: a unit and a track
module _ (x : Index) (u q answer : ℕ) where
  pub bound_9 : (told_number (bound_outcome x u q answer) ≡ refused_number 9 0) ↔ (Whole x → ⊥)
  unfolding bound_outcome
  bound_9 = Iff.trans (number_told_lem _ (Err NotWhole)) (Iff.trans (number_refused _ answer _) (two_9 x (within_fails x.head.n u) (ltb_fails q x.head.k)))

  pub bound_8 : (w : ℕ) → (told_number (bound_outcome x u q answer) ≡ refused_number 8 w) ↔ (Whole x × FirstBad (Off x.head.n u) (x.head.k ≤ q) w)
  unfolding bound_outcome
  bound_8 w = Iff.trans (number_told_lem _ (Err (BadArgument w))) (Iff.trans (number_refused _ answer _) (two_8 x (within_fails x.head.n u) (ltb_fails q x.head.k) w))

  pub bound_answers : (told_number (bound_outcome x u q answer) ≡ answered_number answer) ↔ (Whole x × (Off x.head.n u → ⊥) × (x.head.k ≤ q → ⊥))
  unfolding bound_outcome
  bound_answers = Iff.trans (number_told_lem _ (Ok answer)) (Iff.trans (number_given _ answer) (two_clear x (within_fails x.head.n u) (ltb_fails q x.head.k)))

  pub bound_others : Among (0 ∷ 9 ∷ 8 ∷ []) (told_number (bound_outcome x u q answer)).refusal.number
  unfolding bound_outcome
  bound_others = rw (number_tells _ answer) (two_others x (within_fails x.head.n u) (ltb_fails q x.head.k))

-- kind 16: a unit
module _ (x : Index) (u answer : ℕ) where
  pub unit_9 : (told_number (unit_outcome x u answer) ≡ refused_number 9 0) ↔ (Whole x → ⊥)
  unfolding unit_outcome
  unit_9 = Iff.trans (number_told_lem _ (Err NotWhole))
      (Iff.trans (number_refused _ answer _) (here (argument_never 1 (within_fails x.head.n u) (λ e. omega arith)) (whole_at x)))

  pub unit_8 : (w : ℕ) → (told_number (unit_outcome x u answer) ≡ refused_number 8 w) ↔ (Whole x × (w ≡ 1) × Off x.head.n u)
  unfolding unit_outcome
  unit_8 w = Iff.trans (number_told_lem _ (Err (BadArgument w))) (Iff.trans (number_refused _ answer _)
      (Iff.trans (after (whole_never x (λ e. omega arith)) (whole_clear x) (λ h. argument_at 1 (within_fails x.head.n u) w)) flat3))

  pub unit_answers : (told_number (unit_outcome x u answer) ≡ answered_number answer) ↔ (Whole x × (Off x.head.n u → ⊥))
  unfolding unit_outcome
  unit_answers = Iff.trans (number_told_lem _ (Ok answer))
      (Iff.trans (number_given _ answer) (both_fine (whole_clear x) (λ h. argument_clear 1 (within_fails x.head.n u))))

  pub unit_others : Among (0 ∷ 9 ∷ 8 ∷ []) (told_number (unit_outcome x u answer)).refusal.number
  unfolding unit_outcome
  unit_others = rw (number_tells _ answer)
      (told_among _ (9 ∷ 8 ∷ []) (λ r n. then_never (whole_never x (λ e. n (inl e))) (argument_never 1 (within_fails x.head.n u) (λ e. n (inr (inl e))))))

-- kinds 12 to 15: a unit, and the units of its list written from a place on
module _ (x : Index) (u : ℕ) (units list : List ℕ) (at : ℕ) where
  pub list_9 : (told_list (list_outcome x u units list at) ≡ refused_list 9 0 list) ↔ (Whole x → ⊥)
  unfolding list_outcome
  list_9 = Iff.trans (list_told_lem _ (kept_list NotWhole list)) (Iff.trans (list_refused _ units list at _)
      (here (then_never (argument_never 1 (within_fails x.head.n u) (λ e. omega arith)) (place_never units list at (λ e. omega arith))) (whole_at x)))

  pub list_8 : (w : ℕ) → (told_list (list_outcome x u units list at) ≡ refused_list 8 w list) ↔ (Whole x × (w ≡ 1) × Off x.head.n u)
  unfolding list_outcome
  list_8 w = Iff.trans (list_told_lem _ (kept_list (BadArgument w) list)) (Iff.trans (list_refused _ units list at _) (Iff.trans (after (whole_never x (λ e. omega arith)) (whole_clear x)
      (λ h. here (place_never units list at (λ e. omega arith)) (argument_at 1 (within_fails x.head.n u) w))) flat3))

  pub list_10 : (count : ℕ) → (told_list (list_outcome x u units list at) ≡ refused_list 10 count list)
      ↔ (Whole x × (Off x.head.n u → ⊥) × (count ≡ length units) × NoPlace units list at)
  unfolding list_outcome
  list_10 count = Iff.trans (list_told_lem _ (kept_list (ShortList count) list)) (Iff.trans (list_refused _ units list at _) (Iff.trans (after (whole_never x (λ e. omega arith)) (whole_clear x)
      (λ h. after (argument_never 1 (within_fails x.head.n u) (λ e. omega arith)) (argument_clear 1 (within_fails x.head.n u)) (λ k. place_at units list at count))) flat4))

  pub list_answers : (told_list (list_outcome x u units list at) ≡ answered_list units list at) ↔ (Whole x × (Off x.head.n u → ⊥) × (NoPlace units list at → ⊥))
  unfolding list_outcome
  list_answers = Iff.trans (list_told_lem _ (given_list units list at)) (Iff.trans (list_given _ units list at) (Iff.trans (both_fine (whole_clear x)
      (λ h. both_fine (argument_clear 1 (within_fails x.head.n u)) (λ k. place_clear units list at))) flat3))

  pub list_others : Among (0 ∷ 9 ∷ 8 ∷ 10 ∷ []) (told_list (list_outcome x u units list at)).answer.refusal.number
  unfolding list_outcome list_answer
  list_others = rw (number_tells _ (length units)) (told_among _ (9 ∷ 8 ∷ 10 ∷ []) (λ r n. then_never (whole_never x (λ e. n (inl e)))
      (then_never (argument_never 1 (within_fails x.head.n u) (λ e. n (inr (inl e)))) (place_never units list at (λ e. n (inr (inr (inl e))))))))
