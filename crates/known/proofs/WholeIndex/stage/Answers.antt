-- The highest step has a smaller number and its stage is one less, so a turn keeps what is left and v falls. Assumes nothing.
use native.Mathlib.Omega.{arith}
use Rattle.rules.specs.Order.{stage}
use Rattle.rules.specs.Questions.{kind11}
use Rattle.rules.proofs.Stages.{above_unit, highest_under, stage-next}
use Rattle.known.specs.Lent.{index_of}
use Rattle.known.proofs.WholeIndex.stage.Goals as goal

pub loop-v-smaller : goal.loop-v-smaller
loop-v-smaller c =
    omega (arith, c.highest_step-v.ensures, highest_under (kind11 (index_of c.args.self.now)) c.loop-v.v (omega arith))

pub loop-v-preserved : goal.loop-v-preserved
loop-v-preserved c =
    let r = kind11 (index_of c.args.self.now) in
    rw c.highest_step-v.ensures (
      omega (arith, highest_under r c.loop-v.v (omega arith)),
      omega (arith, stage-next r c.loop-v.v, above_unit (stage r) c.loop-v.v (omega arith), c.loop-v.invariant.1),
    )
