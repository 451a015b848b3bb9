-- `listing::part_span` meets its contract: an Ok says that the pairs ascend, so those that begin with the unit stand between the two
-- places that the searches find; a refusal names nothing. Assumes nothing.
use Rattle.std.specs.Prelude.{Ok}
use Prim.Native.Nat.{ℕ, ◌+◌, ◌≤◌}
use mathlib.Core.Path.{◌≡◌, sym, ◌∙◌}
use mathlib.Core.List.{List}
use native.Mathlib.Omega.{arith}
use lib.Dec.{leb}
use Rattle.rules.specs.Ranges.{first}
use Rattle.rules.specs.Listing.{pairs, upper}
use Rattle.rules.specs.Outcomes.{part_verdict}
use Rattle.listing.specs.Spans.{pair_from}
use Rattle.listing.proofs.Parts.{Rising, pairs_rise, parted, from_le, from_up, span_refused, span_fine}
use Rattle.listing.proofs.part_span.Goals as goal
use Rattle.listing.proofs.part_span.Goals.{In-Ok}

fine : (c : In-Ok) → part_verdict c.args.needs.now c.args.unit ≡ Ok tt
fine c = sym c.part_verdict.ensures ∙ c.in-Ok.is

rising : (l : List ℕ) (u : ℕ) → part_verdict l u ≡ Ok tt → Rising l
rising l u f = pairs_rise (parted l u f).1

first_place : (l : List ℕ) (u a : ℕ) → part_verdict l u ≡ Ok tt → a ≡ first (λ i. leb u (upper l i)) (pairs l) → a ≤ pairs l
first_place l u a f h = omega (arith, from_le l (rising l u f) u)

-- the two places in order, within the list
places : (l : List ℕ) (u a e : ℕ) → part_verdict l u ≡ Ok tt → a ≡ first (λ i. leb u (upper l i)) (pairs l)
    → e ≡ first (λ i. leb (u + 1) (upper l i)) (pairs l) → (a ≤ e) × (e ≤ pairs l)
places l u a e f h q = omega (arith, from_up l (rising l u f) u, from_le l (rising l u f) (u + 1))

pub returns-in_default : goal.returns-in_default
returns-in_default c = record {
  value = span_refused c.args.needs.now c.args.unit _ (sym c.part_verdict.ensures ∙ c.in_default.is);
  held = omega arith;
}

-- ---- past the refusals

pub first_from-start-requires : goal.first_from-start-requires
first_from-start-requires c = rising _ _ (fine c)

pub overflow_mul-start : goal.overflow_mul-start
overflow_mul-start c = omega (arith, first_place _ _ _ (fine (goal.at.overflow_mul-start c).In-Ok) c.first_from-start.ensures)

pub overflow_add-unit : goal.overflow_add-unit
overflow_add-unit c = omega (arith, (parted _ _ (fine (goal.at.overflow_add-unit c).In-Ok)).0)

pub first_from-end-requires : goal.first_from-end-requires
first_from-end-requires c = rising _ _ (fine (goal.at.first_from-end-requires c).In-Ok)

pub overflow_mul-end : goal.overflow_mul-end
overflow_mul-end c =
    omega (arith, places _ _ _ _ (fine (goal.at.overflow_mul-end c).In-Ok) c.first_from-start.ensures c.first_from-end.ensures)

pub overflow_sub-result : goal.overflow_sub-result
overflow_sub-result c =
    omega (arith, places _ _ _ _ (fine (goal.at.overflow_sub-result c).In-Ok) c.first_from-start.ensures c.first_from-end.ensures)

pub returns : goal.returns
unfolding pair_from
returns c =
    let f = fine (goal.at.returns c).In-Ok in
    record {
      value = rw (c.first_from-start.ensures, c.first_from-end.ensures) (span_fine c.args.needs.now c.args.unit f);
      held = omega (arith, places _ _ _ _ f c.first_from-start.ensures c.first_from-end.ensures);
    }
