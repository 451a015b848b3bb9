-- `bounds::Vectors::highs`: the closure gives high, which is at most one more than the length of the track. Assumes nothing.
use mathlib.Core.Path.{◌≡◌}
use native.Mathlib.Omega.{arith}
use Rattle.std.proofs.Common.{rules}
use Rattle.rules.proofs.Vectors.{high_at_most}
use Rattle.bounds.specs.Places.{high}
use Rattle.bounds.proofs.Covering.{ones_true, length_few}
use Rattle.bounds.proofs.Vectors.highs.Goals as goal

pub in_each-requires-clause-narrow : goal.in_each-requires-clause-narrow
in_each-requires-clause-narrow c = λ q i l e.
    let v = c.args.self.now in
    let at = c.requires.standing in
    let is : i ≡ high v c.args.a q = search rules in
    omega (arith, high_at_most (ones_true v.known) q c.args.a.track l at.in_track c.args.a.at at.from at.to, length_few v.known q l)

pub returns : goal.returns
returns c = c.in_each.ensures (high c.args.self.now c.args.a) (λ q i l e. search rules)
