-- What the answer to each question is on an index that is whole.
-- Assumes nothing.
use Rattle.std.specs.Prelude.{Ok, Err}
use Prim.Native.Nat.{ℕ, ◌+◌, ◌-◌, ◌≤◌}
use mathlib.Core.Path.{◌≡◌, refl, ap, ◌∙◌}
use mathlib.Core.Bool.{Bool, true}
use mathlib.Core.List.{List}
use native.Mathlib.Omega.{arith}
use lib.ListN.{length, get_or, take, drop}
use lib.Seq.{take-append_seam}
use borrow.Author.Tests.{le-leb}
use Rattle.rules.specs.declared.Refusal.{Refusal}
use Rattle.rules.specs.declared.Refusal.TheVariants.{BadArgument, NotWhole, ShortList}
use Rattle.rules.specs.Ranges.{over}
use Rattle.rules.specs.Index.{Index, whole}
use Rattle.rules.specs.Questions.{units_where, kind16}
use Rattle.rules.specs.Outcomes.{pair_outcome, unit_outcome, bound_outcome, whole_verdict, list_room, written_from, list_answer}
use Rattle.rules.proofs.Ranges.{units_most, length-table, get_or-table}
use Rattle.rules.proofs.Verdicts.{fine_unless, is_within}
use Rattle.rules.proofs.Wholes.{whole_is}
use Rattle.known.specs.declared.WholeIndex.{WholeIndex}
use Rattle.known.specs.Asked.{UnitOf}
use Rattle.known.specs.Lent.{index_of}
use Rattle.answers.specs.Printed.{refused_line, pair_line, number_line, list_line}
use Rattle.answers.proofs.Lengths.{length_pair_most, length_number_most, length_list}
use Rattle.reading.specs.Card.{list_printed}
use Rattle.reading.specs.Held.{stages_of}
use Rattle.asking.specs.declared.Question.{Question}
use Rattle.asking.specs.declared.Question.TheVariants.{Needs, IsStep, Needed, Needing, Steps, StepsUp, Stage, UnitLow, UnitHigh}
use Rattle.asking.specs.Asking.{arguments_verdict, printed_for}

-- what is written over the start of a list is read from there
pub take_over : (units list : List ℕ) → take (length units) (over list units) ≡ units
unfolding over
take_over units list = take-append_seam units (drop (length units) list)

-- where an argument is refused, that is what is printed
pub refused : (x : Index) → whole x ≡ true → (question : Question) {r : Refusal} → Err r ≡ arguments_verdict x question → printed_for x question ≡ refused_line r
unfolding whole_verdict pair_outcome unit_outcome bound_outcome list_printed pair_line number_line
refused x good (Needs u v) e = rw (good, ← e)
refused x good (IsStep u v) e = rw (good, ← e)
refused x good (Needed u) e = rw (good, ← e)
refused x good (Needing u) e = rw (good, ← e)
refused x good (Steps u) e = rw (good, ← e)
refused x good (StepsUp u) e = rw (good, ← e)
refused x good (Stage u) e = rw (good, ← e)
refused x good (UnitLow u q) e = rw (good, ← e)
refused x good (UnitHigh u q) e = rw (good, ← e)

module _ (w : WholeIndex) where
  pub whole_fine : whole_verdict (index_of w) ≡ Ok tt
  unfolding whole_verdict
  whole_fine = fine_unless NotWhole w.sure.is_whole

  -- what is printed for a unit's list is its line
  pub list_line_lem : {u : ℕ} (units : List ℕ) → UnitOf w.tracks.now u → list_printed (index_of w) u units ≡ list_line units
  unfolding list_printed
  list_line_lem units h = rw (whole_fine, fine_unless (BadArgument 1) (is_within h.from h.to))

  -- units of the index find room in any list area
  pub units_few : (p : ℕ → Bool) → length (units_where p (length w.tracks.now)) ≤ 1024
  units_few p = omega (arith, units_most p (length w.tracks.now), (whole_is (index_of w) w.sure.is_whole).n_in)

  -- so a list of them is written from its start
  pub list_found : (p : ℕ → Bool) (list : List ℕ) → 1024 ≤ length list
      → list_answer (list_room (units_where p (length w.tracks.now)) list 0) (units_where p (length w.tracks.now)) list 0
      ≡ record { answer = Ok (length (units_where p (length w.tracks.now))); list = over list (units_where p (length w.tracks.now)) }
  unfolding list_answer list_room written_from
  list_found p list h =
      let units = units_where p (length w.tracks.now) in
      rw (fine_unless (ShortList (length units)) (le-leb (0 + length units) (length list) (omega (arith, units_few p)))) refl

  -- entry u - 1 of the stages is that of unit u
  pub stage_read : (u : ℕ) → 1 ≤ u → u ≤ length w.tracks.now → get_or (stages_of (index_of w)) (u - 1) 0 ≡ kind16 (index_of w) u
  stage_read u l h =
      let same : u - 1 + 1 ≡ u = omega arith in
      get_or-table (λ i. kind16 (index_of w) (i + 1)) (length w.tracks.now) (u - 1) (omega arith) ∙ ap (kind16 (index_of w)) same

-- what the answer to a question uses whose numbers are units and tracks
pub ruleset granted_steps = (whole_fine, units_few, list_found, take_over, length-table, stage_read, length_pair_most, length_number_most, length_list)
