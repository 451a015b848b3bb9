-- `stages::fill_stages`: what the check leaves open; why it holds is said with the invariant. Assumes nothing.
use Rattle.std.proofs.Common.{◌≡◌, ◌≤◌, ◌∙◌, length, rules, arith}
use Rattle.std.specs.Slice.Iter.{chunks_exact_rest}
use Rattle.std.proofs.lemmas.List.{length_push}
use Rattle.rules.specs.Ranges.{table}
use Rattle.rules.specs.Listing.{pairs}
use Rattle.rules.proofs.Ranges.{table_is}
use Rattle.rules.proofs.Needs.{pairs_fine}
use Rattle.stages.proofs.Lasts.{stages_by, stages_none, stages_next, stages_all}
use Rattle.stages.proofs.PairReads.{PairRead, pair_read, pairs_read, Entries, pair_entries}
use Rattle.stages.proofs.fill_stages.Goals as goal
use Rattle.stages.proofs.fill_stages.Goals.{After-from-v}

-- the pair at hand
read : (c : After-from-v) → PairRead c.args.needs.now c.in-Some.pair.now (chunks_exact_rest c.next.new.self) (length c.loop-pair.yielded)
read c = let s = c.in-Some.ensures.steps in pair_read _ _ c.loop-pair.invariant.left s.1.0 (s.1.1 ∙ c.loop-pair.invariant.by_two)

-- the entries keep their number
filled : (c : After-from-v) → c.loop-pair.stages ≡ stages_by c.args.needs.now (length c.loop-pair.yielded) (length c.args.stages.now)
filled c = rw c.fill.ensures.len at c.loop-pair.invariant.filled

-- the entries that the pair names
entries : (c : After-from-v) → Entries c.loop-pair.stages c.from-u.result c.from-v.result
entries c = rw (c.from-u.ensures, c.from-v.ensures) (pair_entries (pairs_fine _ _ c.requires.0) c.requires.1 (filled c) (read c))

pub loop-pair-init : goal.loop-pair-init
loop-pair-init c =
    let ones : c.fill.new.self ≡ table (λ i. 1) (length c.args.stages.now) = table_is _ _ _ (search rules) (λ i h. search rules) in
    record {
      can_next = search rules;
      is_finite = search rules;
      upto = omega arith;
      by_two = search rules;
      left = search rules;
      filled = stages_none _ _ ones;
    }

pub overflow_sub-stages : goal.overflow_sub-stages
overflow_sub-stages c = omega (arith, entries (goal.at.overflow_sub-stages c).After-from-v)

pub bounds-stages-v : goal.bounds-stages-v
bounds-stages-v c = omega (arith, entries (goal.at.bounds-stages-v c).After-from-v)

pub overflow_add-stages : goal.overflow_add-stages
overflow_add-stages c = omega (arith, entries (goal.at.overflow_add-stages c).After-from-v)

pub overflow_sub-stages-in-loop-pair : goal.overflow_sub-stages-in-loop-pair
overflow_sub-stages-in-loop-pair c = omega (arith, entries (goal.at.overflow_sub-stages-in-loop-pair c).After-from-v)

pub bounds-stages-u : goal.bounds-stages-u
bounds-stages-u c = omega (arith, entries (goal.at.bounds-stages-u c).After-from-v)

pub loop-pair-preserved : goal.loop-pair-preserved
loop-pair-preserved c =
    let v = (goal.at.loop-pair-preserved c).After-from-v in
    let r = read v in
    let more = length_push c.loop-pair.yielded c.in-Some.pair in
    record {
      can_next = search rules;
      is_finite = search rules;
      upto = omega (arith, r.inside);
      by_two = search rules;
      left = rw more r.left;
      filled = rw (more, c.from-u.ensures, c.from-v.ensures, r.first_is, r.second_is) (stages_next (pairs_fine _ _ c.requires.0) _ r.inside (filled v) c.fill.ensures.len);
    }

pub returns : goal.returns
returns c =
    let s = c.in-None.ensures.steps in
    let past : pairs c.args.needs.now ≤ length c.loop-pair.yielded = pairs_read _ _ c.loop-pair.invariant.left (omega (arith, s.1.0, c.loop-pair.invariant.by_two)) in
    stages_all (pairs_fine _ _ c.requires.0) (rw c.fill.ensures.len at c.loop-pair.invariant.filled) (omega arith)
