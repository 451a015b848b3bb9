-- Document 01's printed case: for the file given there the course program prints exactly what stands there, by computation.
-- Assumes nothing.
use Prim.Native.Nat.{ℕ}
use mathlib.Core.Path.{◌≡◌, refl}
use mathlib.Core.List.{List, [], ◌∷◌, ◌++◌}
use Rattle.rules.specs.Ranges.{sum, count, greatest, smallest, first, some, every, keep, table}
use Rattle.rules.specs.Listing.{track, in_track, refuse_first, counted_needs, in_limits, bad_units, bad_pair, units_above, out_of_order, pairs_verdict, listing_verdict}
use Rattle.rules.specs.Order.{leads, needs, unit_before, unsound, sound_verdict, low}
use Rattle.rules.specs.Layout.{vector_bits, vector_room, offset, room_bits, word_count, meant_bits}
use Rattle.rules.specs.Bits.{digit, bit, word_of, ones_before, place_of_one, place_of_zero}
use Rattle.rules.specs.Index.{one_at, built_bit, built_words, built_directory, built_head, built_bits, built_index, vector_of, low_at, high_at, in_range, tracks_fit, lengths_true, areas_reach, spare_clear, directory_true, vectors_true, conditions, first_failing, fault, whole}
use Rattle.rules.specs.Questions.{kind10_by, kind11_by, units_where}
use Rattle.rules.specs.Outcomes.{whole_verdict, pair_outcome}
use Rattle.frames.specs.Lines.{digit_of, spelled, four_of, numbers_of, line_of}
use Rattle.answers.specs.Printed.{hex_digit, hex_of, decimal_of, built_line, refused_line, pair_line, units_of, list_line}
use Rattle.reading.specs.Card.{refuse, head_frame, track_frame, need_frame, loaded, end_frame, list_printed, question_frame, frame_in_phase, read_line}
use Rattle.card.specs.Files.{first_line, printed_from, course_prints}

-- the file that 01 gives, a line a row
abbrev pub given_file : List ℕ
given_file =
    (48 ∷ 49 ∷ 48 ∷ 48 ∷ 48 ∷ 51 ∷ 48 ∷ 48 ∷ 48 ∷ 50 ∷ 10 ∷ [])
    ++ (48 ∷ 50 ∷ 48 ∷ 48 ∷ 48 ∷ 49 ∷ 48 ∷ 48 ∷ 48 ∷ 48 ∷ 10 ∷ [])
    ++ (48 ∷ 50 ∷ 48 ∷ 48 ∷ 48 ∷ 50 ∷ 48 ∷ 48 ∷ 48 ∷ 48 ∷ 10 ∷ [])
    ++ (48 ∷ 50 ∷ 48 ∷ 48 ∷ 48 ∷ 51 ∷ 48 ∷ 48 ∷ 48 ∷ 49 ∷ 10 ∷ [])
    ++ (48 ∷ 51 ∷ 48 ∷ 48 ∷ 48 ∷ 50 ∷ 48 ∷ 48 ∷ 48 ∷ 49 ∷ 10 ∷ [])
    ++ (48 ∷ 51 ∷ 48 ∷ 48 ∷ 48 ∷ 51 ∷ 48 ∷ 48 ∷ 48 ∷ 49 ∷ 10 ∷ [])
    ++ (48 ∷ 52 ∷ 48 ∷ 48 ∷ 48 ∷ 50 ∷ 48 ∷ 48 ∷ 48 ∷ 48 ∷ 10 ∷ [])
    ++ (49 ∷ 48 ∷ 48 ∷ 48 ∷ 48 ∷ 51 ∷ 48 ∷ 48 ∷ 48 ∷ 50 ∷ 10 ∷ [])
    ++ (49 ∷ 48 ∷ 48 ∷ 48 ∷ 48 ∷ 51 ∷ 48 ∷ 48 ∷ 48 ∷ 49 ∷ 10 ∷ [])
    ++ (49 ∷ 51 ∷ 48 ∷ 48 ∷ 48 ∷ 49 ∷ 48 ∷ 48 ∷ 48 ∷ 48 ∷ 10 ∷ [])
    ++ (49 ∷ 48 ∷ 48 ∷ 48 ∷ 48 ∷ 52 ∷ 48 ∷ 48 ∷ 48 ∷ 49 ∷ 10 ∷ [])
    ++ (49 ∷ 50 ∷ 48 ∷ 48 ∷ 48 ∷ 49 ∷ 48 ∷ 48 ∷ 48 ∷ 48 ∷ 10 ∷ [])

-- and what the program prints for it
abbrev pub printed_lines : List ℕ
printed_lines =
    (98 ∷ 117 ∷ 105 ∷ 108 ∷ 116 ∷ 32 ∷ 48 ∷ 48 ∷ 48 ∷ 48 ∷ 48 ∷ 48 ∷ 48 ∷ 54 ∷ 10 ∷ [])
    ++ (110 ∷ 111 ∷ 10 ∷ [])
    ++ (121 ∷ 101 ∷ 115 ∷ 10 ∷ [])
    ++ (48 ∷ 48 ∷ 48 ∷ 50 ∷ 32 ∷ 48 ∷ 48 ∷ 48 ∷ 50 ∷ 32 ∷ 48 ∷ 48 ∷ 48 ∷ 51 ∷ 10 ∷ [])
    ++ (114 ∷ 101 ∷ 102 ∷ 117 ∷ 115 ∷ 101 ∷ 100 ∷ 32 ∷ 48 ∷ 56 ∷ 32 ∷ 48 ∷ 48 ∷ 48 ∷ 48 ∷ 48 ∷ 48 ∷ 48 ∷ 49 ∷ 10 ∷ [])
    ++ (48 ∷ 48 ∷ 48 ∷ 48 ∷ 10 ∷ [])

-- the course program prints exactly this
pub printed_case : course_prints given_file ≡ printed_lines
unfolding sum count greatest smallest first some every keep table track in_track refuse_first counted_needs in_limits bad_units bad_pair units_above out_of_order pairs_verdict listing_verdict leads needs unit_before unsound sound_verdict low vector_bits vector_room offset room_bits word_count meant_bits digit bit word_of ones_before place_of_one place_of_zero one_at built_bit built_words built_directory built_head built_bits built_index vector_of low_at high_at in_range tracks_fit lengths_true areas_reach spare_clear directory_true vectors_true conditions first_failing fault whole kind10_by kind11_by units_where whole_verdict pair_outcome digit_of spelled four_of numbers_of line_of hex_digit hex_of decimal_of built_line refused_line pair_line units_of list_line refuse head_frame track_frame need_frame loaded end_frame list_printed question_frame frame_in_phase read_line first_line printed_from course_prints
printed_case = refl
