-- Answers in document 01's numbers: for each case of an answer the number and the place of its refusal, both 0 where there is none, and
-- beside them the value answered. Every promise about a number, a place or an answer is stated by these definitions.
use Rattle.std.specs.Prelude.{ℕ, Bool, true, false, List, length, Ok, Err}
use Rattle.rules.specs.declared.Refusal.{Refusal}
use Rattle.rules.specs.declared.Told.{Told}
use Rattle.rules.specs.declared.PairTold.{PairTold}
use Rattle.rules.specs.declared.NumberTold.{NumberTold}
use Rattle.rules.specs.Refusals.{number_of, place_of, Verdict, PairAnswer, NumberAnswer}
use Rattle.rules.specs.Outcomes.{ListOutcome, written_from}

-- ---- what can be told

-- refused by that number, at that place
abbrev pub refused : ℕ → ℕ → Told
refused number place = record { number = number; place = place }

abbrev pub no_refusal : Told
no_refusal = refused 0 0

-- of a pair: yes or no; where it is refused, no
abbrev pub answered_pair : Bool → PairTold
answered_pair holds = record { refusal = no_refusal; yes = holds }

abbrev pub refused_pair : ℕ → ℕ → PairTold
refused_pair number place = record { refusal = refused number place; yes = false }

-- a count, a stage or a unit; where it is refused, 0
abbrev pub answered_number : ℕ → NumberTold
answered_number answer = record { refusal = no_refusal; number = answer }

abbrev pub refused_number : ℕ → ℕ → NumberTold
refused_number number place = record { refusal = refused number place; number = 0 }

-- a list: its count, and the units from the named place on; where it is refused, the lent list as it was
pub record ListTold : Type 0 where
  pub answer : NumberTold
  pub list : List ℕ

abbrev pub answered_list : List ℕ → List ℕ → ℕ → ListTold
answered_list units list at = record { answer = answered_number (length units); list = written_from list at units }

abbrev pub refused_list : ℕ → ℕ → List ℕ → ListTold
refused_list number place list = record { answer = refused_number number place; list = list }

-- ---- what is told of each case

abbrev pub told_refusal : Refusal → Told
told_refusal r = refused (number_of r) (place_of r)

abbrev pub told_verdict : Verdict → Told
told_verdict (Ok _) = no_refusal
told_verdict (Err r) = told_refusal r

abbrev pub told_pair : PairAnswer → PairTold
told_pair (Ok true) = answered_pair true
told_pair (Ok false) = answered_pair false
told_pair (Err r) = refused_pair (number_of r) (place_of r)

abbrev pub told_number : NumberAnswer → NumberTold
told_number (Ok answer) = answered_number answer
told_number (Err r) = refused_number (number_of r) (place_of r)

abbrev pub told_list : ListOutcome → ListTold
told_list o = record { answer = told_number o.answer; list = o.list }
