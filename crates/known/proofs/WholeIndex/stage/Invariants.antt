-- `known::WholeIndex::stage`: the stages passed and those from v down are the stage of u, since the highest step has a smaller number and its stage is
-- one less. Assumes nothing.
use Prim.Native.Nat.{suc, ◌+◌, ◌≤◌}
use mathlib.Core.Path.{◌≡◌}
use Rattle.rules.specs.Order.{above, stage}
use Rattle.rules.specs.Questions.{kind11, kind16}
use Rattle.known.specs.Lent.{index_of}
use Rattle.known.proofs.WholeIndex.stage.Given as goal

-- one stage more than those from v down is left, since unit 0 has none
abbrev pub invariant-loop-v : goal.invariant-loop-v
invariant-loop-v l = (l.stage + l.v ≤ l.u)
    × (l.stage + above (stage (kind11 (index_of l.self))) l.v ≡ suc (kind16 (index_of l.self) l.u))

abbrev pub decreases-loop-v : goal.decreases-loop-v
decreases-loop-v l = l.v
