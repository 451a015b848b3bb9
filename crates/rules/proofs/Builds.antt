-- An accepted build and the index that it leaves in the areas, however long they are: it is whole, its low and high are the listing's, and
-- its kinds 10 and 11 are the listing's needs and direct steps. Assumes nothing.
use Rattle.std.specs.Prelude.{Ok}
use Prim.Native.Nat.{ℕ, ◌*◌, ◌≤◌, ◌<◌}
use mathlib.Core.Path.{◌≡◌, sym, ap, ◌∙◌}
use mathlib.Core.Bool.{true, ◌&&◌}
use mathlib.Core.List.{List}
use native.Mathlib.Omega.{arith}
use lib.ListN.{length}
use lib.Dec.{leb}
use borrow.Author.Tests.{leb-true}
use Rattle.rules.specs.declared.Refusal.TheVariants.{ShortArea}
use Rattle.rules.specs.Ranges.{over}
use Rattle.rules.specs.Listing.{Listing, listing_verdict}
use Rattle.rules.specs.Order.{needs, step, sound_verdict, low, high}
use Rattle.rules.specs.Layout.{word_count}
use Rattle.rules.specs.Index.{Index, index, sizes, low_in, high_in, whole, built_index, built_head, built_words, built_directory, built_count}
use Rattle.rules.specs.Questions.{kind10, kind11}
use Rattle.rules.specs.Outcomes.{room_verdict, filled_verdict, build_verdict, BuildOutcome, build_outcome}
use Rattle.rules.proofs.Overs.{get_d_over, length_over}
use Rattle.rules.proofs.Verdicts.{and_both, then_fine, unless_fine}
use Rattle.rules.proofs.Accepted.{Accepted, listing_fine}
use Rattle.rules.proofs.Wholes.{is_whole}
use Rattle.rules.proofs.Builts.{length_words, length_directory, whole_built, count_built, low_built, high_built, kind10_built, kind11_built}
use Rattle.rules.proofs.FirstWords.{SameBelow, whole_agree, low_in_agree, high_in_agree, kind10_agree, kind11_agree}

-- a listing with areas in which its build is accepted
pub record Build : Type 0 where
  pub course : Listing
  pub words : List ℕ
  pub directory : List ℕ
  pub work : List ℕ
  pub accepted : build_verdict course words directory work ≡ Ok tt

-- what that build leaves
abbrev pub outcome_of : Build → BuildOutcome
outcome_of b = build_outcome b.course b.words b.directory b.work

-- the index that a caller then holds: the head answered, the track list lent, and the two areas as they were left, however long
abbrev pub index_of : Build → Index
index_of b = index (outcome_of b).answer.head b.course.tracks (outcome_of b).words (outcome_of b).directory

module _ (b : Build) where
  pub filled : filled_verdict b.course b.words b.directory b.work ≡ Ok tt
  unfolding build_verdict
  filled = (then_fine (filled_verdict b.course b.words b.directory b.work) (sound_verdict b.course) b.accepted).0

  pub sound_course : sound_verdict b.course ≡ Ok tt
  unfolding build_verdict
  sound_course = (then_fine (filled_verdict b.course b.words b.directory b.work) (sound_verdict b.course) b.accepted).1

  pub accepted_course : Accepted b.course
  unfolding filled_verdict
  accepted_course =
      listing_fine b.course (then_fine (listing_verdict b.course) (room_verdict b.course b.words b.directory b.work) filled).0

  pub room_verdict_lem : room_verdict b.course b.words b.directory b.work ≡ Ok tt
  unfolding filled_verdict
  room_verdict_lem = (then_fine (listing_verdict b.course) (room_verdict b.course b.words b.directory b.work) filled).1

  room : (built_count b.course ≤ length b.words) × (built_count b.course ≤ length b.directory)
  unfolding room_verdict
  room =
      let w = leb (built_count b.course) (length b.words) in
      let d = leb (built_count b.course) (length b.directory) in
      let k = leb (b.course.n * b.course.k) (length b.work) in
      let r = and_both (w && d) k (unless_fine (w && d && k) ShortArea room_verdict_lem) in
      let s = and_both w d r.0 in
      (leb-true _ _ s.0, leb-true _ _ s.1)

  -- the areas hold the built words and directory, whatever follows them
  index_is : index_of b ≡ index (built_head b.course) b.course.tracks (over b.words (built_words b.course)) (over b.directory (built_directory b.course))
  unfolding build_outcome
  index_is = rw b.accepted

  words_agree : SameBelow (built_index b.course).words (over b.words (built_words b.course)) (word_count (sizes (built_index b.course)) b.course.k)
  unfolding built_index
  words_agree j l =
      sym (get_d_over b.words (built_words b.course) j (omega (arith, length_words b.course, count_built b.course accepted_course)))

  directory_agrees : SameBelow (built_index b.course).directory (over b.directory (built_directory b.course)) (word_count (sizes (built_index b.course)) b.course.k)
  unfolding built_index
  directory_agrees j l =
      sym (get_d_over b.directory (built_directory b.course) j (omega (arith, length_directory b.course, count_built b.course accepted_course)))

  words_reach : word_count (sizes (built_index b.course)) b.course.k ≤ length (over b.words (built_words b.course))
  words_reach =
      omega (arith, room, count_built b.course accepted_course, length_words b.course, length_over b.words (built_words b.course) (omega (arith, room, length_words b.course)))

  directory_reach : word_count (sizes (built_index b.course)) b.course.k ≤ length (over b.directory (built_directory b.course))
  directory_reach =
      omega (arith, room, count_built b.course accepted_course, length_directory b.course, length_over b.directory (built_directory b.course) (omega (arith, room, length_directory b.course)))

  -- the index that a build leaves is whole, its low and high are the listing's, and its kinds 10 and 11 are the listing's needs and direct steps
  pub whole-index : whole (index_of b) ≡ true
  unfolding built_index built_head
  whole-index =
      rw index_is
      (is_whole _ (whole_agree (built_index b.course) (over b.words (built_words b.course)) (over b.directory (built_directory b.course))
      words_reach directory_reach words_agree directory_agrees (whole_built b.course accepted_course sound_course)))

  pub low-index : (u q : ℕ) → 1 ≤ u → u ≤ b.course.n → q < b.course.k → low_in (index_of b) u q ≡ low b.course u q
  unfolding built_index built_head
  low-index u q u1 un column =
      ap (λ x. low_in x u q) index_is
      ∙ low_in_agree (built_index b.course) (over b.words (built_words b.course)) (over b.directory (built_directory b.course))
      words_reach directory_reach words_agree directory_agrees (whole_built b.course accepted_course sound_course) u q u1 un column
      ∙ low_built b.course accepted_course sound_course u q u1 un column

  pub high-index : (u q : ℕ) → 1 ≤ u → u ≤ b.course.n → q < b.course.k → high_in (index_of b) u q ≡ high b.course u q
  unfolding built_index built_head
  high-index u q u1 un row =
      ap (λ x. high_in x u q) index_is
      ∙ high_in_agree (built_index b.course) (over b.words (built_words b.course)) (over b.directory (built_directory b.course))
      words_reach directory_reach words_agree directory_agrees (whole_built b.course accepted_course sound_course) u q u1 un row
      ∙ high_built b.course accepted_course sound_course u q u1 un row

  pub kind10-index : (u v : ℕ) → 1 ≤ u → u ≤ b.course.n → 1 ≤ v → v ≤ b.course.n → kind10 (index_of b) u v ≡ needs b.course.needs u v
  unfolding built_index built_head
  kind10-index u v u1 un v1 vn =
      rw index_is
      (kind10_agree (built_index b.course) (over b.words (built_words b.course)) (over b.directory (built_directory b.course))
      words_reach directory_reach words_agree directory_agrees (whole_built b.course accepted_course sound_course) u v u1 un v1 vn
      ∙ kind10_built b.course accepted_course sound_course u v u1 un v1 vn)

  pub kind11-index : (u v : ℕ) → 1 ≤ u → u ≤ b.course.n → 1 ≤ v → v ≤ b.course.n → kind11 (index_of b) u v ≡ step b.course.needs u v
  unfolding built_index built_head
  kind11-index u v u1 un v1 vn =
      rw index_is
      (kind11_agree (built_index b.course) (over b.words (built_words b.course)) (over b.directory (built_directory b.course))
      words_reach directory_reach words_agree directory_agrees (whole_built b.course accepted_course sound_course) u v u1 un v1 vn
      ∙ kind11_built b.course accepted_course sound_course u v u1 un v1 vn)
