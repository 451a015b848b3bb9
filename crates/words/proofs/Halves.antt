-- The search for a 1 within a word, halving by halving: what one halving keeps, and what the last leaves.
-- Assumes nothing.
use Prim.Native.Nat.{ℕ, ◌+◌, ◌-◌, ◌*◌, ◌/◌, ◌%◌, ◌^◌, ◌≤◌, ◌<◌, zero-le}
use mathlib.Core.Path.{◌≡◌, sym, ap, ◌∙◌}
use native.Mathlib.Omega.{arith}
use native.Mathlib.Nat.{add_comm, div-one, mod-one, mod-eq_of_lt}
use lib.Pow.{shr-shr}
use lib.Count.{ones}
use Rattle.rules.specs.Bits.{digit}
use Rattle.rules.proofs.Bits.{ones-digit}
use Rattle.words.specs.declared.Part.{Part}
use Rattle.words.specs.Words.{IsOne, Seeks}
use Rattle.words.proofs.Operators.{ones_split}

-- the whole word
pub seeks_all : (w i : ℕ) → w < 2 ^ 64 → 1 ≤ i → i ≤ ones w → Seeks w i (record { word = w; left = i; at = 0 }) 64
seeks_all w i h some among = record {
  rest = sym (div-one w);
  passed = omega (arith, ap ones (mod-one w), ones-digit 0 zero-le);
  some = some;
  among = rw (mod-eq_of_lt h) among;
  narrow = omega arith;
}

module _ {w i width : ℕ} {part : Part} (seeks : Seeks w i part (2 * width)) where
  -- enough ones below bit width
  pub seeks_low : part.left ≤ ones (part.word % 2 ^ width) → Seeks w i part width
  seeks_low h = record {
    rest = seeks.rest;
    passed = seeks.passed;
    some = seeks.some;
    among = h;
    narrow = omega arith;
  }

  -- too few: they are passed
  pub seeks_high : ones (part.word % 2 ^ width) < part.left
      → Seeks w i (record { word = part.word / 2 ^ width; left = part.left - ones (part.word % 2 ^ width); at = part.at + width }) width
  seeks_high h = record {
    rest = ap (λ (x : ℕ). x / 2 ^ width) seeks.rest ∙ shr-shr w part.at width;
    passed = omega (arith, ap (λ (x : ℕ). ones (w % 2 ^ x)) (add_comm part.at width), ones_split w width part.at, ap (λ (x : ℕ). ones (x % 2 ^ width)) seeks.rest);
    some = omega arith;
    among = omega (arith, ones_split part.word width width, ap (λ (x : ℕ). ones (part.word % 2 ^ x)) (let e : 2 * width ≡ width + width = omega arith in e));
    narrow = omega arith;
  }

-- one bit is left
pub seeks_last : {w i : ℕ} {part : Part} → Seeks w i part 1 → IsOne w i part.at
unfolding digit
seeks_last {part = part} s =
    let one : ones (part.word % 2 ^ 1) ≡ part.word % 2 = ones-digit (part.word % 2) (omega arith) in
    record {
      inside = omega arith;
      set_there = omega (arith, ap (λ (x : ℕ). x % 2) s.rest);
      before = omega arith;
    }
