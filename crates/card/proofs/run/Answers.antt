-- `card::run`: what the check leaves open; why it holds is said with the invariant. Assumes nothing.
use Prim.Native.Nat.{◌+◌, ◌-◌, ◌^◌, ◌≤◌, ◌<◌}
use mathlib.Core.Path.{◌≡◌, refl, sym, ◌∙◌}
use mathlib.Core.Bool.{true}
use native.Mathlib.Omega.{arith}
use lib.ListN.{length, length-take, length-drop}
use borrow.Author.Rules.{rules}
use Rattle.reading.specs.Card.{reads}
use Rattle.card.proofs.Runs.{running_start, goes_yes, running_next, running_ends}
use Rattle.card.proofs.run.Goals as goal
use Rattle.card.proofs.run.Goals.{In-loop-areas}

-- another line is read
goes : (c : In-loop-areas) → let l = c.loop-areas in
    (11 ≤ length c.args.bytes.now - l.used) × (5125 ≤ length l.out - l.wrote) × (reads l.reached.phase ≡ true)
goes c = goes_yes _ _ _ (sym c.goes_on.ensures ∙ c.loop-areas-test.true)

room_fits : (c : In-loop-areas) → c.loop-areas.wrote + 5125 < 2 ^ 64
room_fits c = omega (arith, goes c)

pub loop-areas-init : goal.loop-areas-init
loop-areas-init c = record { run = running_start _ _ c.requires; same = search rules; lengths = search rules; out_long = refl }

pub slice_bounds-read-end : goal.slice_bounds-read-end
slice_bounds-read-end c = omega (arith, goes c)

pub read-step-requires : goal.read-step-requires
read-step-requires c = record {
  fit = c.loop-areas.invariant.run.ran.fit;
  in_bounds = simp (length-take, length-drop) (omega (arith, goes (goal.at.read-step-requires c).In-loop-areas));
}

pub overflow_add-wrote : goal.overflow_add-wrote
overflow_add-wrote c = record { fits = omega (arith, room_fits (goal.at.overflow_add-wrote c).In-loop-areas, c.read-step.ensures.taken.few) }

pub loop-areas-smaller : goal.loop-areas-smaller
loop-areas-smaller c = omega (arith, goes (goal.at.loop-areas-smaller c).In-loop-areas)

pub loop-areas-preserved : goal.loop-areas-preserved
loop-areas-preserved c =
    let l = c.loop-areas in
    let read = c.read-step in
    let eleven : l.used + 11 - l.used ≡ 11 = omega arith in
    record {
      run = running_next l.invariant.run l.invariant.out_long (sym c.goes_on.ensures ∙ c.loop-areas-test.true) (rw eleven) read.ensures.taken;
      same = search rules;
      lengths = search rules;
      out_long = search rules;
    }

pub returns-clause-ran : goal.returns-clause-ran
returns-clause-ran c =
    let l = c.loop-areas in
    running_ends l.invariant.run l.invariant.out_long (sym c.goes_on.ensures ∙ c.loop-areas-test.false)
