-- `bounds::Vectors::lows`: the closure gives low, which is at most the length of the track. Assumes nothing.
use mathlib.Core.Path.{◌≡◌}
use native.Mathlib.Omega.{arith}
use Rattle.std.proofs.Common.{rules}
use Rattle.rules.proofs.Vectors.{low_at_most}
use Rattle.bounds.specs.Places.{low}
use Rattle.bounds.proofs.Covering.{ones_true, length_few}
use Rattle.bounds.proofs.Vectors.lows.Goals as goal

pub in_each-requires-clause-narrow : goal.in_each-requires-clause-narrow
in_each-requires-clause-narrow c = λ q i l e.
    let v = c.args.self.now in
    let at = c.requires.standing in
    let is : i ≡ low v c.args.a q = search rules in
    omega (arith, low_at_most (ones_true v.known) c.args.a.track q at.in_track l c.args.a.at at.from at.to, length_few v.known q l)

pub returns : goal.returns
returns c = c.in_each.ensures (low c.args.self.now c.args.a) (λ q i l e. search rules)
