-- `words::one_in_word`: what the check leaves open; why it holds is said with the invariant. Assumes nothing.
use Prim.Native.Nat.{ℕ, zero, suc, ◌+◌, ◌-◌, ◌*◌, ◌^◌, ◌<◌}
use mathlib.Core.Path.{◌≡◌, refl}
use mathlib.Core.List.{[], ◌∷◌}
use native.Mathlib.Omega.{arith}
use lib.ListN.{get_or}
use Rattle.words.proofs.Halves.{seeks_last}
use Rattle.words.proofs.one_in_word.Goals as goal

width_at : ℕ → ℕ
width_at k = get_or (32 ∷ 16 ∷ 8 ∷ 4 ∷ 2 ∷ 1 ∷ []) k 0

-- each width is half of what is left
half : (k : ℕ) → k < 6 → (2 * width_at k ≡ 2 ^ (6 - k)) × (width_at k ≡ 2 ^ (6 - (k + 1)))
unfolding width_at
half zero h = (refl, refl)
half (suc zero) h = (refl, refl)
half (suc (suc zero)) h = (refl, refl)
half (suc (suc (suc zero))) h = (refl, refl)
half (suc (suc (suc (suc zero)))) h = (refl, refl)
half (suc (suc (suc (suc (suc zero))))) h = (refl, refl)
half (suc (suc (suc (suc (suc (suc k)))))) h = absurd (omega arith)

pub loop-width-preserved : goal.loop-width-preserved
unfolding width_at
loop-width-preserved c =
    let a = c.args in
    let e = half c.loop-width.width-index (omega arith) in
    rw e.1 at (c.halved-part.ensures a.w a.i (rw e.0 c.loop-width.invariant))

pub returns : goal.returns
returns c =
    let e : 6 - c.loop-width.width-index ≡ 0 = omega arith in
    seeks_last (rw e at c.loop-width.invariant)
