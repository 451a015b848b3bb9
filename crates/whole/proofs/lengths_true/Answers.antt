-- One entry is judged right or not by `Lengths`, and the condition is that all 32 are right. Assumes nothing.
use mathlib.Core.Path.{◌≡◌, sym}
use mathlib.Core.Bool.{and-true, and-false}
use native.Mathlib.Omega.{arith}
use Rattle.rules.specs.Ranges.{every}
use Rattle.rules.specs.Index.{lengths_true}
use Rattle.rules.proofs.Ranges.{every_all, every-next}
use Rattle.whole.proofs.Lengths.{length_true, length_right, length_miscounted, length_misused}
use Rattle.whole.proofs.lengths_true.Goals as goal

pub loop-q-init : goal.loop-q-init
loop-q-init c = sym (every_all _ 0 (λ q l. absurd (omega arith)))

pub loop-q-preserved : goal.loop-q-preserved
loop-q-preserved c =
    let a = c.args in
    let q = c.loop-q.q in
    let p = length_true a.lens.now a.k a.tracks.now in
    let right = length_right a.lens.now a.k a.tracks.now _ c.track_lengths-counts.ensures q (omega arith) in
    let miscounted = length_miscounted a.lens.now a.k a.tracks.now _ c.track_lengths-counts.ensures q (omega arith) in
    let misused = length_misused a.lens.now a.k a.tracks.now _ c.track_lengths-counts.ensures q (omega arith) in
    grind (arith, right, miscounted, misused, every-next p q, and-true (every p q), and-false (every p q), c.loop-q.invariant)

pub returns : goal.returns
unfolding lengths_true
returns c =
    let e : c.loop-q.q ≡ 32 = omega arith in
    rw e at c.loop-q.invariant
