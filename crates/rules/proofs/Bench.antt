-- Document 01's six units on the bench: they are accepted, and the proved cases P1 to P12 hold of the calls asked of that build, as one
-- statement over one table, by computation.
use Rattle.std.specs.Prelude.{Ok}
use Prim.Native.Nat.{ℕ}
use mathlib.Core.Path.{◌≡◌, refl, sym, subst}
use mathlib.Core.List.{List, [], ◌∷◌, ◌++◌, map}
use lib.Count.{ones}
use lib.ListN.{replicate}
use Rattle.rules.specs.declared.PairTold.{PairTold}
use Rattle.rules.specs.declared.NumberTold.{NumberTold}
use Rattle.rules.specs.Ranges.{sum, bit1, count, greatest, smallest, first, some, every, keep, table, rows, over}
use Rattle.rules.specs.Listing.{Listing, track, in_track, refuse_first, counted_needs, in_limits, bad_units, bad_pair, units_above, out_of_order, pairs_verdict, listing_verdict}
use Rattle.rules.specs.Order.{leads, needs, unit_before, unsound, sound_verdict, low}
use Rattle.rules.specs.Layout.{vector_bits, vector_room, offset, room_bits, word_count, meant_bits}
use Rattle.rules.specs.Bits.{digit, bit, word_of, ones_before, place_of_one, place_of_zero}
use Rattle.rules.specs.Index.{one_at, built_bit, built_words, built_directory, built_head, built_work, built_bits, Index, vector_of, vector, low_at, low_in, high_at, high_in, in_range, tracks_fit, lengths_true, areas_reach, spare_clear, directory_true, vectors_true, conditions, first_failing, fault, whole}
use Rattle.rules.specs.Questions.{kind10_by, kind11_by, units_where, unit_at}
use Rattle.rules.specs.Outcomes.{room_verdict, filled_verdict, build_verdict, build_outcome, whole_verdict, pair_outcome, bound_outcome, list_room, written_from, list_answer, list_outcome, needs_outcome, is_step_outcome, steps_up_outcome, unit_high_outcome}
use Rattle.rules.specs.Told.{refused, answered_number, refused_list, ListTold, told_verdict, told_pair, told_number, told_list}
use Rattle.rules.proofs.Builds.{Build, outcome_of, index_of}

abbrev pub six : Listing
six = record {
  n = 6;
  k = 2;
  tracks = 0 ∷ 0 ∷ 1 ∷ 0 ∷ 1 ∷ 0 ∷ [];
  needs = 2 ∷ 1 ∷ 3 ∷ 1 ∷ 4 ∷ 2 ∷ 5 ∷ 2 ∷ 5 ∷ 3 ∷ 6 ∷ 1 ∷ 6 ∷ 3 ∷ 6 ∷ 4 ∷ [];
}

-- one unit in one track with no needs
abbrev pub single : Listing
single = record { n = 1; k = 1; tracks = 0 ∷ []; needs = [] }

-- ---- accepted, in areas of just the length that each needs

pub six_accepted : build_verdict six (0 ∷ []) (0 ∷ []) (replicate 12 0) ≡ Ok tt
unfolding build_verdict filled_verdict room_verdict listing_verdict sound_verdict refuse_first first in_limits counted_needs pairs_verdict bad_pair bad_units out_of_order units_above unsound unit_before greatest needs leads some track in_track count word_count room_bits vector_room vector_bits sum
six_accepted = refl

abbrev pub bench : Build
bench = record { course = six; words = 0 ∷ []; directory = 0 ∷ []; work = replicate 12 0; accepted = six_accepted }

pub single_accepted : build_verdict single [] [] (0 ∷ []) ≡ Ok tt
unfolding build_verdict filled_verdict room_verdict listing_verdict sound_verdict refuse_first first in_limits counted_needs pairs_verdict bad_pair bad_units out_of_order units_above unsound unit_before greatest needs leads some track in_track count word_count room_bits vector_room vector_bits sum
single_accepted = refl

abbrev pub alone : Build
alone = record { course = single; words = []; directory = []; work = 0 ∷ []; accepted = single_accepted }

-- ---- the table

-- a case: what the calls give, and what document 01 says
pub record Case : Type 0 where
  pub given : List ℕ
  pub said : List ℕ

-- what a call tells, in a row: the number and the place of its refusal, and its answer
abbrev build_row : Build → List ℕ
build_row b = (told_verdict (outcome_of b).answer.verdict).number ∷ (told_verdict (outcome_of b).answer.verdict).place ∷ (outcome_of b).answer.bits ∷ []

abbrev pair_row : PairTold → List ℕ
pair_row t = t.refusal.number ∷ t.refusal.place ∷ bit1 t.yes ∷ []

abbrev number_row : NumberTold → List ℕ
number_row t = t.refusal.number ∷ t.refusal.place ∷ t.number ∷ []

-- with the lent list as it then is
abbrev list_row : ListTold → List ℕ
list_row t = number_row t.answer ++ t.list

-- yes and no, with no refusal
abbrev said_yes : List ℕ
said_yes = 0 ∷ 0 ∷ 1 ∷ []

abbrev said_no : List ℕ
said_no = 0 ∷ 0 ∷ 0 ∷ []

-- of the build of the six units, the index that it leaves, and the build of the single unit
pub cases : Build → Index → Build → List Case
cases b x second =
    -- accepted, 12 bits
    record { given = build_row b; said = 0 ∷ 0 ∷ 12 ∷ [] }
    -- P1 to P3
    ∷ record { given = table (vector x 0 1) 6; said = 1 ∷ 1 ∷ 1 ∷ 0 ∷ 1 ∷ 0 ∷ [] }
    ∷ record { given = table (vector x 1 0) 6; said = 0 ∷ 1 ∷ 0 ∷ 1 ∷ 0 ∷ 0 ∷ [] }
    ∷ record { given = x.words ++ (ones_before x.words 1 ∷ []); said = 663 ∷ 6 ∷ [] }
    -- P4 to P7
    ∷ record { given = pair_row (told_pair (needs_outcome x 6 1)); said = said_yes }
    ∷ record { given = pair_row (told_pair (is_step_outcome x 6 1)); said = said_no }
    ∷ record { given = pair_row (told_pair (is_step_outcome x 5 2)); said = said_yes }
    ∷ record { given = pair_row (told_pair (needs_outcome x 2 2)); said = said_no }
    -- P8 to P10
    ∷ record { given = high_in x 3 0 ∷ number_row (told_number (unit_high_outcome x 3 0)); said = 4 ∷ 0 ∷ 0 ∷ 6 ∷ [] }
    ∷ record { given = high_in x 2 1 ∷ number_row (told_number (unit_high_outcome x 2 1)); said = 2 ∷ 0 ∷ 0 ∷ 5 ∷ [] }
    ∷ record { given = low_in x 4 1 ∷ []; said = 0 ∷ [] }
    -- P11, written from place 1 of a list of nines on, and P12
    ∷ record { given = list_row (told_list (steps_up_outcome x 1 (9 ∷ 9 ∷ 9 ∷ []) 1)); said = 0 ∷ 0 ∷ 2 ∷ 9 ∷ 2 ∷ 3 ∷ [] }
    ∷ record { given = build_row second; said = 0 ∷ 0 ∷ 0 ∷ [] }
    ∷ []

-- the build's index by computation, so that no case computes it again
bench_is : index_of bench ≡ record { head = built_head six; tracks = six.tracks; words = 663 ∷ []; directory = 0 ∷ [] }
unfolding build_outcome over built_words built_directory table word_of sum ones_before built_bit some one_at offset vector_room vector_bits room_bits word_count low greatest needs leads track in_track count
bench_is = rw six_accepted refl

pub p1_to_p12 : map (λ c. c.given) (cases bench (index_of bench) alone) ≡ map (λ c. c.said) (cases bench (index_of bench) alone)
unfolding cases ones sum count greatest smallest first some every keep table track in_track vector_bits vector_room offset room_bits word_count meant_bits digit bit ones_before place_of_one place_of_zero built_head built_bits vector_of low_at high_at kind10_by kind11_by units_where unit_at build_outcome in_range tracks_fit lengths_true areas_reach spare_clear directory_true vectors_true conditions first_failing fault whole whole_verdict pair_outcome bound_outcome list_room written_from over list_answer list_outcome
p1_to_p12 =
    subst (λ (x : Index). map (λ c. c.given) (cases bench x alone) ≡ map (λ c. c.said) (cases bench x alone)) (sym bench_is)
    (rw (six_accepted, single_accepted) refl)

-- ---- two more cases by computation

-- tracks {1,2}, {3} with only the need (3,1): refusal 7 at unit 2, and the work area all the same
abbrev pub unsound_three : Listing
unsound_three = record { n = 3; k = 2; tracks = 0 ∷ 0 ∷ 1 ∷ []; needs = 3 ∷ 1 ∷ [] }

pub unsound_case : (told_verdict (sound_verdict unsound_three) ≡ refused 7 2) × (built_work unsound_three ≡ 0 ∷ 0 ∷ 0 ∷ 0 ∷ 1 ∷ 0 ∷ [])
unfolding sound_verdict refuse_first first unsound unit_before greatest needs leads some track in_track count built_work rows table low
unsound_case = (refl, refl)

-- the units 2 and 3 written so that they end exactly at the end of the area, and refused one entry past
pub list_ends : (told_list (list_answer (list_room (2 ∷ 3 ∷ []) (9 ∷ 9 ∷ 9 ∷ []) 1) (2 ∷ 3 ∷ []) (9 ∷ 9 ∷ 9 ∷ []) 1)
    ≡ record { answer = answered_number 2; list = 9 ∷ 2 ∷ 3 ∷ [] })
    × (told_list (list_answer (list_room (2 ∷ 3 ∷ []) (9 ∷ 9 ∷ 9 ∷ []) 2) (2 ∷ 3 ∷ []) (9 ∷ 9 ∷ 9 ∷ []) 2)
    ≡ refused_list 10 2 (9 ∷ 9 ∷ 9 ∷ []))
unfolding list_answer list_room written_from over
list_ends = (refl, refl)
