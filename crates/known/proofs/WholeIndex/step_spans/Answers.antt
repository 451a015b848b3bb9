-- `known::WholeIndex::step_spans`: of the units at the lows of u those that pass are its direct steps. Assumes nothing.
use Prim.Native.Nat.{ℕ, ◌≤◌, ◌<◌}
use mathlib.Core.Path.{◌≡◌, sym, ◌∙◌}
use mathlib.Core.Bool.{◌&&◌}
use lib.ListN.{get_or}
use lib.Dec.{leb}
use Rattle.std.proofs.Common.{rules, tests}
use Rattle.lists.specs.declared.Spans.{Spans}
use Rattle.bounds.specs.Known.{none_reaches}
use Rattle.bounds.specs.Places.{size}
use Rattle.known.specs.Asked.{step_at}
use Rattle.known.specs.Lent.{index_of}
use Rattle.known.proofs.Asking.{lows_of, lows_within}
use Rattle.known.proofs.StepSpans.{steps_from, steps_to, step_below, step_past, steps_held, steps_spanned, steps_last}
use Rattle.known.proofs.WholeIndex.step_spans.Goals as goal
use Rattle.known.proofs.WholeIndex.step_spans.Goals.{After-lows-at, After-kept}

lows_are : (c : After-lows-at) → c.lows-at.result ≡ lows_of (index_of c.args.self.now) c.args.u
lows_are c = rw c.spot.ensures.place at c.lows-at.ensures

pub kept-requires : goal.kept-requires
kept-requires c =
    let v = c.args.self.now.vectors in
    let lows = c.lows-at.result in
    let within : (q : ℕ) → q < v.k → get_or lows q 0 ≤ size v q = λ q l. rw (lows_are (goal.at.kept-requires c).After-lows-at) (lows_within c.args.self.now.sure c.requires.unit_of q l) in
    record {
      callable = λ q l.
          let low = within q l in
          search rules;
    }

spans_are : (c : After-kept)
    → ◌≡◌ {A = Spans} c.kept.result (record { from = steps_from (index_of c.args.self.now) c.args.u; to = steps_to (index_of c.args.self.now) c.args.u })
spans_are c =
    let v = c.args.self.now.vectors in
    let lows = c.lows-at.result in
    let s = size v in
    let kept = c.kept.ensures (step_at s v.k v.words.now lows)
    (λ q b l e.
    let told : b ≡ (leb 1 (get_or lows q 0) && none_reaches s v.k v.words.now lows q (get_or lows q 0)) = search (rules, tests) in
    told ∙ sym (step_below s v.k v.words.now lows q l))
    (λ q l. step_past s v.k v.words.now lows q l) in
    kept ∙ rw (lows_are (goal.at.returns-clause-held c).After-lows-at)

pub returns-clause-held : goal.returns-clause-held
returns-clause-held c = rw (spans_are c) (steps_held c.args.self.now.sure c.requires.unit_of)

pub returns-clause-units : goal.returns-clause-units
returns-clause-units c = rw (spans_are c, steps_spanned c.args.self.now.sure c.requires.unit_of)

pub returns-clause-last : goal.returns-clause-last
returns-clause-last c = rw (spans_are c, steps_last c.args.self.now.sure c.requires.unit_of)
