-- The bits past the vectors: none where the vectors fill their words, else the top of the last word. Assumes nothing.
use Prim.Native.Nat.{ℕ, ◌+◌, ◌-◌, ◌*◌, ◌/◌, ◌%◌, ◌^◌, ◌≤◌, ◌<◌}
use mathlib.Core.Path.{◌≡◌, sym, ◌∙◌}
use mathlib.Core.Bool.{Bool, true}
use mathlib.Core.List.{List}
use native.Mathlib.Omega.{arith}
use lib.ListN.{get_or}
use lib.Dec.{eqb}
use borrow.Author.Tests.{eqb-true, eq-eqb}
use Rattle.rules.specs.Ranges.{every}
use Rattle.rules.specs.Bits.{digit, bit}
use Rattle.rules.proofs.Ranges.{every_all, every_one}
use Rattle.rules.proofs.Verdicts.{same_test}
use Rattle.rules.proofs.Bits.{Words, bit_in, digits_none, none_digits}

module _ (ws : List ℕ) (bits : ℕ) where
  -- the spare bit i is 0
  abbrev clear : ℕ → Bool
  clear i = eqb (bit ws (bits + i)) 0

  -- how many spare bits there are
  abbrev spares : ℕ
  spares = 64 * ((bits + 63) / 64) - bits

  pub spare_none : bits % 64 ≡ 0 → every clear spares ≡ true
  spare_none e = every_all clear spares (λ i l. absurd (omega arith))

  -- a spare bit is a bit of the last word
  spare_at : (i : ℕ) → i < spares → bit ws (bits + i) ≡ digit (get_or ws (bits / 64) 0) (bits % 64 + i)
  spare_at i l =
      let e : bits + i ≡ 64 * (bits / 64) + (bits % 64 + i) = omega arith in
      rw e (bit_in ws (bits / 64) (bits % 64 + i) (omega arith))

  pub spare_last : Words ws → (bits % 64 ≡ 0 → ⊥) → eqb (get_or ws (bits / 64) 0 / 2 ^ (bits % 64)) 0 ≡ every clear spares
  spare_last small part = same_test _ _ to from
    where
      to : eqb (get_or ws (bits / 64) 0 / 2 ^ (bits % 64)) 0 ≡ true → every clear spares ≡ true
      to t =
          every_all clear spares (λ i l. eq-eqb _ 0 (spare_at i l
          ∙ digits_none (get_or ws (bits / 64) 0) (bits % 64) (bits % 64 + i) (eqb-true _ 0 t) (omega arith)))

      each : every clear spares ≡ true → (i : ℕ) → bits % 64 ≤ i → i < 64 → digit (get_or ws (bits / 64) 0) i ≡ 0
      each t i h l =
          let e : bits % 64 + (i - bits % 64) ≡ i = omega arith in
          let below : i - bits % 64 < spares = omega arith in
          rw e at (sym (spare_at (i - bits % 64) below) ∙ eqb-true _ 0 (every_one clear spares (i - bits % 64) t below))

      from : every clear spares ≡ true → eqb (get_or ws (bits / 64) 0 / 2 ^ (bits % 64)) 0 ≡ true
      from t = eq-eqb _ 0 (none_digits (get_or ws (bits / 64) 0) (bits % 64) (small (bits / 64)) (each t))
