-- `layout::times`: a product of at most 32 and a number is at most 32 times the number. Assumes nothing.
use Prim.Native.Nat.{◌*◌, ◌≤◌}
use native.Mathlib.Omega.{arith}
use native.Mathlib.Nat.{mul-le-mul, le_refl}
use Rattle.layout.proofs.times.Goals as goal
use Rattle.layout.proofs.times.Goals.{Start}

few : (c : Start) → c.args.count * c.args.number ≤ 32 * c.args.number
few c = mul-le-mul c.requires.0 (le_refl c.args.number)

pub overflow_mul-result : goal.overflow_mul-result
overflow_mul-result c = omega (arith, few c)

pub returns : goal.returns
returns c = omega (arith, few c)
