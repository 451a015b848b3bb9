-- The rank of a bit as the machine counts it: the directory's entry, and the ones of a part of the word.
-- Assumes nothing.
use Prim.Native.Nat.{ℕ, ◌+◌, ◌-◌, ◌*◌, ◌/◌, ◌%◌, ◌^◌, ◌≤◌}
use mathlib.Core.Path.{◌≡◌, sym, ap, ◌∙◌}
use mathlib.Core.List.{List}
use native.Mathlib.Omega.{arith}
use lib.ListN.{get_or}
use lib.Bits.{bit_and}
use lib.Count.{ones}
use Rattle.rules.specs.Bits.{rank}
use Rattle.rules.proofs.Bits.{Words, rank_in}
use Rattle.words.specs.Words.{TrueAt}
use Rattle.words.proofs.Operators.{mask_low, ones_shl}

module _ (ws ds : List ℕ) (x : ℕ) (whole : Words ws) (there : TrueAt ws ds (x / 64)) where
  -- bit x is bit x mod 64 of its word
  rank_at : (y r : ℕ) → y ≡ 64 * (x / 64) + r → r ≤ 64 → get_or ds (x / 64) 0 + ones (get_or ws (x / 64) 0 % 2 ^ r) ≡ rank ws y
  rank_at y r e h = sym (ap (rank ws) e ∙ rank_in ws whole (x / 64) r h ∙ ap (λ n. n + ones (get_or ws (x / 64) 0 % 2 ^ r)) (sym there.true_there))

  pub rank_masked : get_or ds (x / 64) 0 + ones (bit_and (get_or ws (x / 64) 0) (1 * 2 ^ (x % 64) % 2 ^ 64 - 1)) ≡ rank ws x
  rank_masked = rw (mask_low (get_or ws (x / 64) 0) (x % 64) (omega arith)) (rank_at x (x % 64) (omega arith) (omega arith))

  pub rank_shifted : get_or ds (x / 64) 0 + ones (get_or ws (x / 64) 0 * 2 ^ (63 - x % 64) % 2 ^ 64) ≡ rank ws (x + 1)
  rank_shifted = rw (ones_shl (get_or ws (x / 64) 0) (x % 64) (omega arith)) (rank_at (x + 1) (x % 64 + 1) (omega arith) (omega arith))
