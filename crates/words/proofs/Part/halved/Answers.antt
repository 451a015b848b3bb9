-- `words::Part::halved`: where the low bits have ones enough nothing is passed, else they are. Assumes nothing.
use mathlib.Core.Path.{ap}
use native.Mathlib.Omega.{arith}
use lib.Count.{ones}
use Rattle.words.proofs.Operators.{mask_low}
use Rattle.words.proofs.Halves.{seeks_low, seeks_high}
use Rattle.words.proofs.Part.halved.Goals as goal

pub returns-then-self-low : goal.returns-then-self-low
returns-then-self-low c =
    let mask = mask_low c.args.self.word c.args.width (omega arith) in
    λ w i s. seeks_low s (omega (arith, ap ones mask))

pub returns-else-self-low : goal.returns-else-self-low
returns-else-self-low c =
    let mask = mask_low c.args.self.word c.args.width (omega arith) in
    λ w i s. rw mask (seeks_high s (omega (arith, ap ones mask)))
