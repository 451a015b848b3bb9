-- `whole::judge_areas`: each test is a condition, of the bits that the list of first bits ends with. Assumes nothing.
use mathlib.Core.Path.{◌≡◌, sym, ◌∙◌}
use mathlib.Core.Bool.{true, false}
use native.Mathlib.Omega.{arith}
use Rattle.rules.specs.Index.{lens_of, areas_reach, spare_clear, directory_true}
use Rattle.whole.proofs.Judging.{judged_faulty, judged_sound, areas_4, areas_5, areas_6, areas_7, areas_none, last_bits, few_bits, reach_both, reach_words, reach_directory, spare_is, directory_is, areas_known}
use Rattle.whole.proofs.judge_areas.Goals as goal
use Rattle.whole.proofs.judge_areas.Goals.{Else-directory-count, Else-not-directory_true, Else-not-spare_clear}

-- conditions 4, 5 and 6, where their tests are passed
reach : (c : Else-directory-count) → areas_reach (lens_of c.args.lens.now) c.args.k c.args.words.now c.args.directory.now ≡ true
reach c = reach_both _ _ c.args.words.now c.args.directory.now _ (last_bits c.requires c.row_starts-row.ensures) (omega arith) (omega arith)

clear : (c : Else-not-spare_clear) → spare_clear (lens_of c.args.lens.now) c.args.k c.args.words.now ≡ true
clear c =
    spare_is _ _ c.args.words.now c.args.directory.now _ (last_bits c.requires c.row_starts-row.ensures) ∙ sym c.spare_clear.ensures ∙ c.if-not-spare_clear.false

entries : (c : Else-not-directory_true) → directory_true (lens_of c.args.lens.now) c.args.k c.args.words.now c.args.directory.now ≡ true
entries c =
    directory_is _ _ c.args.words.now c.args.directory.now _ (last_bits c.requires c.row_starts-row.ensures) ∙ sym c.directory_true.ensures ∙ c.if-not-directory_true.false

pub returns-then-words-count : goal.returns-then-words-count
returns-then-words-count c =
    let a = c.args in
    let short_words = reach_words _ _ a.words.now a.directory.now _ (last_bits c.requires c.row_starts-row.ensures) in
    let short_directory = reach_directory _ _ a.words.now a.directory.now _ (last_bits c.requires c.row_starts-row.ensures) in
    let no : areas_reach (lens_of a.lens.now) a.k a.words.now a.directory.now ≡ false = grind (arith, short_words, short_directory) in
    judged_faulty _ _ 4 (areas_4 _ _ _ _ no) (omega arith)

pub spare_clear-requires-clause-bits_bound : goal.spare_clear-requires-clause-bits_bound
spare_clear-requires-clause-bits_bound c = few_bits c.requires c.row_starts-row.ensures

pub returns-then-not-spare_clear : goal.returns-then-not-spare_clear
returns-then-not-spare_clear c =
    let at = goal.at.returns-then-not-spare_clear c in
    let no = spare_is _ _ c.args.words.now c.args.directory.now _ (last_bits c.requires c.row_starts-row.ensures) ∙ sym c.spare_clear.ensures ∙ c.if-not-spare_clear.true in
    judged_faulty _ _ 5 (areas_5 _ _ _ _ (reach at.Else-directory-count) no) (omega arith)

pub returns-then-not-directory_true : goal.returns-then-not-directory_true
returns-then-not-directory_true c =
    let at = goal.at.returns-then-not-directory_true c in
    let no = directory_is _ _ c.args.words.now c.args.directory.now _ (last_bits c.requires c.row_starts-row.ensures) ∙ sym c.directory_true.ensures ∙ c.if-not-directory_true.true in
    judged_faulty _ _ 6 (areas_6 _ _ _ _ (reach at.Else-directory-count) (clear at.Else-not-spare_clear) no) (omega arith)

pub vectors_true-requires-clause-true_to : goal.vectors_true-requires-clause-true_to
vectors_true-requires-clause-true_to c =
    let at = goal.at.vectors_true-requires-clause-true_to c in
    areas_known _ _ c.args.words.now c.args.directory.now _ (last_bits c.requires c.row_starts-row.ensures) (omega arith) (omega arith) (entries at.Else-not-directory_true)

pub returns-then-not-vectors_true : goal.returns-then-not-vectors_true
returns-then-not-vectors_true c =
    let at = goal.at.returns-then-not-vectors_true c in
    let no = sym c.vectors_true.ensures ∙ c.if-not-vectors_true.true in
    judged_faulty _ _ 7 (areas_7 _ _ _ _ (reach at.Else-directory-count) (clear at.Else-not-spare_clear) (entries at.Else-not-directory_true) no) (omega arith)

pub returns : goal.returns
returns c =
    let at = goal.at.returns c in
    let yes = sym c.vectors_true.ensures ∙ c.if-not-vectors_true.false in
    let none = areas_none _ _ _ _ (reach at.Else-directory-count) (clear at.Else-not-spare_clear) (entries at.Else-not-directory_true) yes in
    judged_sound _ _ none c.row_starts-row.ensures
