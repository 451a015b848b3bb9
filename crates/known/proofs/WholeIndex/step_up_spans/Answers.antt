-- `known::WholeIndex::step_up_spans`: of the units at the highs of u those that pass have u as a direct step. Assumes nothing.
use Prim.Native.Nat.{ℕ, ◌≤◌, ◌<◌}
use mathlib.Core.Path.{◌≡◌, sym, ◌∙◌}
use mathlib.Core.Bool.{◌&&◌}
use lib.ListN.{get_or}
use lib.Dec.{leb}
use Rattle.std.proofs.Common.{rules, tests}
use Rattle.lists.specs.declared.Spans.{Spans}
use Rattle.bounds.specs.Known.{reaches_none}
use Rattle.bounds.specs.Places.{size}
use Rattle.known.specs.Asked.{step_up_at}
use Rattle.known.specs.Lent.{index_of}
use Rattle.known.proofs.Asking.{highs_of, highs_from}
use Rattle.known.proofs.StepSpans.{steps_up_from, steps_up_to, step_up_below, step_up_past, steps_up_held, steps_up_spanned}
use Rattle.known.proofs.WholeIndex.step_up_spans.Goals as goal
use Rattle.known.proofs.WholeIndex.step_up_spans.Goals.{After-highs-at, After-kept}

highs_are : (c : After-highs-at) → c.highs-at.result ≡ highs_of (index_of c.args.self.now) c.args.u
highs_are c = rw c.spot.ensures.place at c.highs-at.ensures

pub kept-requires : goal.kept-requires
kept-requires c =
    let v = c.args.self.now.vectors in
    let highs = c.highs-at.result in
    let from : (q : ℕ) → q < v.k → 1 ≤ get_or highs q 0 = λ q l. rw (highs_are (goal.at.kept-requires c).After-highs-at) (highs_from c.args.self.now.sure c.requires.unit_of q l) in
    record {
      callable = λ q l.
          let high = from q l in
          search rules;
    }

spans_are : (c : After-kept)
    → ◌≡◌ {A = Spans} c.kept.result (record { from = steps_up_from (index_of c.args.self.now) c.args.u; to = steps_up_to (index_of c.args.self.now) c.args.u })
spans_are c =
    let v = c.args.self.now.vectors in
    let highs = c.highs-at.result in
    let s = size v in
    let kept = c.kept.ensures (step_up_at s v.k v.words.now highs)
    (λ q b l e.
    let told : b ≡ (leb (get_or highs q 0) (s q) && reaches_none s v.k v.words.now q (get_or highs q 0) highs) = search (rules, tests) in
    told ∙ sym (step_up_below s v.k v.words.now highs q l))
    (λ q l. step_up_past s v.k v.words.now highs q l) in
    kept ∙ rw (highs_are (goal.at.returns-clause-held c).After-highs-at)

pub returns-clause-held : goal.returns-clause-held
returns-clause-held c = rw (spans_are c) (steps_up_held c.args.self.now.sure c.requires.unit_of)

pub returns-clause-units : goal.returns-clause-units
returns-clause-units c = rw (spans_are c, steps_up_spanned c.args.self.now.sure c.requires.unit_of)
