-- A turn writes the position where the place passes, and leaves both arrays where it does not. Assumes nothing.
use mathlib.Core.Path.{◌≡◌, sym, ap, ◌∙◌}
use mathlib.Core.Bool.{true, false}
use native.Mathlib.Omega.{arith}
use Rattle.known.proofs.StepSpans.{filled_none, filled_yes, filled_no, filled_spans}
use Rattle.known.proofs.WholeIndex.kept.Goals as goal
use Rattle.known.proofs.WholeIndex.kept.Goals.{then-passes, else-passes}

pub loop-q-init : goal.loop-q-init
loop-q-init g c = λ p is. (filled_none p c.args.at.now 1, filled_none p c.args.at.now 0)

pub loop-q-preserved : goal.loop-q-preserved
loop-q-preserved g c = λ p is.
    let at = c.args.at.now in
    let q = c.loop-q.q in
    let told : c.passes.result ≡ p q = is q _ (omega arith) (rw c.from.ensures at c.passes.ensures) in
    let before = c.loop-q.invariant p is in
    elim c.if-passes.branch [
      | then-passes w ↦
          let t : p q ≡ true = sym told ∙ w.if-passes.true in
          (ap (λ s. s.from) w.spans-is ∙ rw before.0 (filled_yes p at 1 q (omega arith) t), ap (λ s. s.to) w.spans-is ∙ rw before.1 (filled_yes p at 0 q (omega arith) t))
      | else-passes w ↦
          let f : p q ≡ false = sym told ∙ w.if-passes.false in
          (ap (λ s. s.from) w.spans-is ∙ before.0 ∙ filled_no p at 1 q f, ap (λ s. s.to) w.spans-is ∙ before.1 ∙ filled_no p at 0 q f)
    ]

pub returns : goal.returns
returns g c = λ p is past.
    let before = c.loop-q.invariant p is in
    filled_spans p c.args.at.now c.loop-q.q before.0 before.1 (λ q h. past q (omega arith))
