-- What each public call answers, and what each lent area then holds, on every input.
use Rattle.std.specs.Prelude.{ℕ, zero, suc, ◌+◌, ◌*◌, Bool, true, false, cond, ◌&&◌, List, [], ◌∷◌, ◌++◌, length, take, drop, replicate, leb, ltb, eqb, Ok, Err}
use Rattle.rules.specs.declared.Head.{Head}
use Rattle.rules.specs.declared.Refusal.TheVariants.{OutOfLimits, ShortArea, BadArgument, NotWhole, ShortList}
use Rattle.rules.specs.Limits.{max_units, max_tracks}
use Rattle.rules.specs.Refusals.{unless, ◌then◌, Verdict, PairAnswer, NumberAnswer}
use Rattle.rules.specs.Ranges.{over}
use Rattle.rules.specs.Listing.{Listing, pairs, upper, lower, within, counted_needs, pairs_verdict, listing_verdict}
use Rattle.rules.specs.Order.{sound_verdict}
use Rattle.rules.specs.Index.{Index, built_count, built_words, built_directory, built_head, built_work, built_bits, whole}
use Rattle.rules.specs.Questions.{kind10, kind11, kind12, kind13, kind14, kind15, kind16, kind17, kind18}

-- what a call that may be refused leaves of an area: refused, as it was
abbrev pub unless_refused {ℓ} : {A : Type ℓ} → Verdict → A → A → A
unless_refused (Ok _) written kept = written
unless_refused (Err r) written kept = kept

-- ---- the build

-- 6: words or directory shorter than W, or work area shorter than n * k
unfoldable pub room_verdict : Listing → List ℕ → List ℕ → List ℕ → Verdict
room_verdict c words directory work =
    unless
    (leb (built_count c) (length words) && leb (built_count c) (length directory) && leb (c.n * c.k) (length work))
    ShortArea

-- refusals 1 to 6, which write nothing
unfoldable pub filled_verdict : Listing → List ℕ → List ℕ → List ℕ → Verdict
filled_verdict c words directory work = listing_verdict c then room_verdict c words directory work

-- refusals 1 to 7
unfoldable pub build_verdict : Listing → List ℕ → List ℕ → List ℕ → Verdict
build_verdict c words directory work = filled_verdict c words directory work then sound_verdict c

abbrev pub empty_head : Head
empty_head = record { lens = replicate max_tracks 0; n = 0; k = 0 }

-- what a build answers: the head and the bits, both 0 where it is refused
pub record BuildAnswer : Type 0 where
  pub head : Head
  pub bits : ℕ
  pub verdict : Verdict

pub record BuildOutcome : Type 0 where
  pub answer : BuildAnswer
  pub words : List ℕ
  pub directory : List ℕ
  pub work : List ℕ

unfoldable pub build_outcome : Listing → List ℕ → List ℕ → List ℕ → BuildOutcome
build_outcome c words directory work =
    let v = build_verdict c words directory work in
    record {
      answer =
          record { head = unless_refused v (built_head c) empty_head; bits = unless_refused v (built_bits c) 0; verdict = v };
      words = unless_refused v (over words (built_words c)) words;
      directory = unless_refused v (over directory (built_directory c)) directory;
      work = unless_refused (filled_verdict c words directory work) (over work (built_work c)) work;
    }

-- ---- the questions: 9, then 8, then 10

-- the argument of that number is a unit
abbrev pub unit_verdict : Index → ℕ → ℕ → Verdict
unit_verdict x which u = unless (within 1 x.head.n u) (BadArgument which)

-- the argument of that number is a track
abbrev pub track_verdict : Index → ℕ → ℕ → Verdict
track_verdict x which q = unless (ltb q x.head.k) (BadArgument which)

unfoldable pub whole_verdict : Index → Verdict
whole_verdict x = unless (whole x) NotWhole

abbrev pub yes_or_no : Bool → PairAnswer
yes_or_no true = Ok true
yes_or_no false = Ok false

abbrev pub pair_answer : Verdict → Bool → PairAnswer
pair_answer (Ok _) answer = yes_or_no answer
pair_answer (Err r) answer = Err r

abbrev pub number_answer : Verdict → ℕ → NumberAnswer
number_answer (Ok _) answer = Ok answer
number_answer (Err r) answer = Err r

-- kinds 10 and 11
unfoldable pub pair_outcome : Index → ℕ → ℕ → Bool → PairAnswer
pair_outcome x u v answer = pair_answer (whole_verdict x then unit_verdict x 1 u then unit_verdict x 2 v) answer

-- kind 16
unfoldable pub unit_outcome : Index → ℕ → ℕ → NumberAnswer
unit_outcome x u answer = number_answer (whole_verdict x then unit_verdict x 1 u) answer

-- kinds 17 and 18
unfoldable pub bound_outcome : Index → ℕ → ℕ → ℕ → NumberAnswer
bound_outcome x u q answer = number_answer (whole_verdict x then unit_verdict x 1 u then track_verdict x 2 q) answer

-- kinds 12 to 15: the units are written into the lent list from the named place on
pub record ListOutcome : Type 0 where
  pub answer : NumberAnswer
  pub list : List ℕ

-- 10: fewer entries from the named place on than the answer has
unfoldable pub list_room : List ℕ → List ℕ → ℕ → Verdict
list_room units list at = unless (leb (at + length units) (length list)) (ShortList (length units))

-- the area with the units from the named place on; every other entry is kept
unfoldable pub written_from : List ℕ → ℕ → List ℕ → List ℕ
written_from list at units = take at list ++ over (drop at list) units

-- the units answered, or refused
unfoldable pub list_answer : Verdict → List ℕ → List ℕ → ℕ → ListOutcome
list_answer v units list at =
    record { answer = number_answer v (length units); list = unless_refused v (written_from list at units) list }

unfoldable pub list_outcome : Index → ℕ → List ℕ → List ℕ → ℕ → ListOutcome
list_outcome x u units list at = list_answer (whole_verdict x then unit_verdict x 1 u then list_room units list at) units list at

-- ---- the nine questions, each by its index and its arguments

-- kinds 10 and 11
abbrev pub needs_outcome : Index → ℕ → ℕ → PairAnswer
needs_outcome x u v = pair_outcome x u v (kind10 x u v)

abbrev pub is_step_outcome : Index → ℕ → ℕ → PairAnswer
is_step_outcome x u v = pair_outcome x u v (kind11 x u v)

-- kinds 12 to 15: the answer, and what the lent list then holds
abbrev pub needed_outcome : Index → ℕ → List ℕ → ℕ → ListOutcome
needed_outcome x u list at = list_outcome x u (kind12 x u) list at

abbrev pub needing_outcome : Index → ℕ → List ℕ → ℕ → ListOutcome
needing_outcome x u list at = list_outcome x u (kind13 x u) list at

abbrev pub steps_outcome : Index → ℕ → List ℕ → ℕ → ListOutcome
steps_outcome x u list at = list_outcome x u (kind14 x u) list at

abbrev pub steps_up_outcome : Index → ℕ → List ℕ → ℕ → ListOutcome
steps_up_outcome x u list at = list_outcome x u (kind15 x u) list at

-- kind 16
abbrev pub stage_outcome : Index → ℕ → NumberAnswer
stage_outcome x u = unit_outcome x u (kind16 x u)

-- kinds 17 and 18
abbrev pub unit_low_outcome : Index → ℕ → ℕ → NumberAnswer
unit_low_outcome x u q = bound_outcome x u q (kind17 x u q)

abbrev pub unit_high_outcome : Index → ℕ → ℕ → NumberAnswer
unit_high_outcome x u q = bound_outcome x u q (kind18 x u q)

-- ---- the part of a need list that begins with a unit

-- which refusal the part call meets: 8, 1, 4 or 5, in that order, for n = 1,024
unfoldable pub part_verdict : List ℕ → ℕ → Verdict
part_verdict l u = unless (within 1 max_units u) (BadArgument 1) then unless (counted_needs l) OutOfLimits then pairs_verdict max_units l

-- the pairs below m that begin with u, one after another
unfoldable pub pairs_from : List ℕ → ℕ → ℕ → List ℕ
pairs_from l u zero = []
pairs_from l u (suc i) = pairs_from l u i ++ cond (eqb (upper l i) u) (upper l i ∷ lower l i ∷ []) []

unfoldable pub part_outcome : List ℕ → ℕ → List ℕ
part_outcome l u = unless_refused (part_verdict l u) (pairs_from l u (pairs l)) []
