-- Which frames are questions, what each asks for, and what a question leaves.
use Rattle.std.specs.Prelude.{ℕ, ◌≡◌, Bool, true, false, cond, List, take, eqb, Option, Some, None, Ok, Err}
use Rattle.rules.specs.Refusals.{◌then◌, Verdict, PairAnswer, NumberAnswer}
use Rattle.rules.specs.Listing.{within}
use Rattle.rules.specs.Index.{Index}
use Rattle.rules.specs.Questions.{kind10, kind11, kind12, kind13, kind14, kind15}
use Rattle.rules.specs.Outcomes.{unit_verdict, track_verdict, pair_outcome, stage_outcome, unit_low_outcome, unit_high_outcome}
use Rattle.answers.specs.Printed.{refused_line, pair_line, number_line, list_line}
use Rattle.reading.specs.declared.Card.{Card}
use Rattle.reading.specs.declared.Step.{Step}
use Rattle.reading.specs.Card.{Reading, Next, read_index, list_printed, misplaced, answered, question_frame}
use Rattle.reading.specs.Held.{areas, reading_of, Fit, Took}
use Rattle.asking.specs.declared.Question.{Question}
use Rattle.asking.specs.declared.Question.TheVariants.{Needs, IsStep, Needed, Needing, Steps, StepsUp, Stage, UnitLow, UnitHigh}

-- kinds 10 to 18, of which 12 to 16 carry 0 second
abbrev pub is_question : ℕ → ℕ → Bool
is_question kind b = cond (within 0x10 0x18 kind) (cond (within 0x12 0x16 kind) (eqb b 0) true) false

-- what kind 11, or kind 10, answers
abbrev pub pair_asked : Index → Bool → ℕ → ℕ → PairAnswer
pair_asked x direct u v = pair_outcome x u v (cond direct (kind11 x u v) (kind10 x u v))

-- the list that kinds 12 to 15 ask for and what is printed for it, and the number of kinds 16 to 18
abbrev pub units_asked : Index → ℕ → ℕ → List ℕ
units_asked x kind u =
    cond (eqb kind 0x12) (kind12 x u) (cond (eqb kind 0x13) (kind13 x u) (cond (eqb kind 0x14) (kind14 x u) (kind15 x u)))

abbrev pub list_asked : Index → ℕ → ℕ → List ℕ
list_asked x kind u = list_printed x u (units_asked x kind u)

abbrev pub number_asked : Index → ℕ → ℕ → ℕ → NumberAnswer
number_asked x kind u q =
    cond (eqb kind 0x16) (stage_outcome x u)
    (cond (eqb kind 0x17) (unit_low_outcome x u q) (unit_high_outcome x u q))

-- the units that an answer counts, or its refusal
abbrev pub answer_line : NumberAnswer → List ℕ → List ℕ
answer_line (Ok count) list = list_line (take count list)
answer_line (Err refusal) list = refused_line refusal

abbrev pub counts : NumberAnswer → ℕ
counts (Ok count) = count
counts (Err refusal) = 0

-- refusal 8: the first argument that is no unit or no track
abbrev pub arguments_verdict : Index → Question → Verdict
arguments_verdict x (Needs u v) = unit_verdict x 1 u then unit_verdict x 2 v
arguments_verdict x (IsStep u v) = unit_verdict x 1 u then unit_verdict x 2 v
arguments_verdict x (Needed u) = unit_verdict x 1 u
arguments_verdict x (Needing u) = unit_verdict x 1 u
arguments_verdict x (Steps u) = unit_verdict x 1 u
arguments_verdict x (StepsUp u) = unit_verdict x 1 u
arguments_verdict x (Stage u) = unit_verdict x 1 u
arguments_verdict x (UnitLow u q) = unit_verdict x 1 u then track_verdict x 2 q
arguments_verdict x (UnitHigh u q) = unit_verdict x 1 u then track_verdict x 2 q

-- what is printed for a question
abbrev pub printed_for : Index → Question → List ℕ
printed_for x (Needs u v) = pair_line (pair_asked x false u v)
printed_for x (IsStep u v) = pair_line (pair_asked x true u v)
printed_for x (Needed u) = list_asked x 0x12 u
printed_for x (Needing u) = list_asked x 0x13 u
printed_for x (Steps u) = list_asked x 0x14 u
printed_for x (StepsUp u) = list_asked x 0x15 u
printed_for x (Stage u) = number_line (number_asked x 0x16 u 0)
printed_for x (UnitLow u q) = number_line (number_asked x 0x17 u q)
printed_for x (UnitHigh u q) = number_line (number_asked x 0x18 u q)

-- a question is answered, and a frame that asks none is out of order
abbrev pub next_after : Reading → Option Question → Next
next_after r None = misplaced r
next_after r (Some question) = answered r (printed_for (read_index r) question)

-- over any areas that hold the index x, the question is answered; of the areas only the list is written
abbrev pub QuestionTaken : Index → Card → ℕ → ℕ → ℕ → List ℕ → List ℕ → Step → List ℕ → List ℕ → Type 0
QuestionTaken x card kind a b list out step list' out' =
    (tracks needs words directory work : List ℕ) →
    Fit card (areas tracks needs words directory work list) →
    read_index (reading_of card (areas tracks needs words directory work list)) ≡ x →
    Took (question_frame (reading_of card (areas tracks needs words directory work list)) kind a b) out step
    (areas tracks needs words directory work list') out'
