-- A word and a list of words with one bit changed: that bit is the new one, every other is as it was.
-- Assumes nothing.
use Prim.Native.Nat.{ℕ, ◌+◌, ◌-◌, ◌*◌, ◌/◌, ◌%◌, ◌^◌, ◌≤◌, ◌<◌}
use mathlib.Core.Path.{◌≡◌, sym, ap, ◌∙◌, subst}
use mathlib.Core.List.{List}
use mathlib.Core.Logic.{◌≢◌, ◌⊎◌, inl, inr}
use native.Mathlib.Omega.{arith}
use native.Mathlib.Nat.{add-mul, mod-lt}
use native.Mathlib.Decide.{dec_lt, ℕ_discrete}
use lib.ListN.{length, get_or, set, length-set}
use lib.Seq.{get_or-set_same, get_or-set_other, set_out}
use lib.Arith.{digits_lt, lt_of_le-ne}
use lib.Bits.{bit_and, bit_or, and_lt, or_lt}
use lib.Pow.{pow_pos, shr-shr, split, high}
use mir.Syntax.{w64}
use Rattle.std.proofs.lemmas.Nat.Bits.{bit_at_cat_low, bit_at_set_same, bit_at_set_other, bit_at_clear_same, bit_at_clear_other}
use Rattle.rules.specs.Bits.{digit, bit}
use Rattle.rules.proofs.Bits.{Words, digit_low, digits_same}
use Rattle.words.specs.Words.{with_digit, with_bit}
use Rattle.words.proofs.Operators.{word_parts, shr_word}

-- ---- one word

-- digits above bit i are those of what stands above it
digit-above : (v w i k : ℕ) → v / 2 ^ i / 2 ≡ w / 2 ^ i / 2 → i < k → digit v k ≡ digit w k
unfolding digit
digit-above v w i k e h =
    let n : i + 1 + (k - i - 1) ≡ k = omega arith in
    subst (λ (x : ℕ). v / 2 ^ x % 2 ≡ w / 2 ^ x % 2) n
    (rw (sym (shr-shr v (i + 1) (k - i - 1)), sym (shr-shr w (i + 1) (k - i - 1)), sym (shr-shr v i 1), sym (shr-shr w i 1), e))

-- what stands above bit i, the new bit, what stands below it
with_parts : (w i b : ℕ) → with_digit w i b ≡ (w / 2 ^ i / 2 * 2 + b) * 2 ^ i + w % 2 ^ i
unfolding with_digit digit
with_parts w i b =
    let q : w / 2 ^ i ≡ w / 2 ^ i / 2 * 2 + w / 2 ^ i % 2 = omega arith in
    omega (arith, split w i, ap (λ (x : ℕ). x * 2 ^ i) q, add-mul (w / 2 ^ i / 2 * 2) (w / 2 ^ i % 2) (2 ^ i), add-mul (w / 2 ^ i / 2 * 2) b (2 ^ i))

module _ (w i b : ℕ) (small : b ≤ 1) where
  with_shr : with_digit w i b / 2 ^ i ≡ w / 2 ^ i / 2 * 2 + b
  with_shr = rw (with_parts w i b) (high (w / 2 ^ i / 2 * 2 + b) i (mod-lt w (pow_pos i)))

  pub digit_with_same : digit (with_digit w i b) i ≡ b
  unfolding digit
  digit_with_same = rw with_shr (omega arith)

  pub digit_with_other : (k : ℕ) → k ≢ i → digit (with_digit w i b) k ≡ digit w k
  unfolding digit
  digit_with_other k ne = go (dec_lt k i)
    where
      go : Dec (k < i) → digit (with_digit w i b) k ≡ digit w k
      go (yes l) = rw (with_parts w i b) (bit_at_cat_low (w / 2 ^ i / 2 * 2 + b) i (w % 2 ^ i) k l ∙ digit_low w i k l)
      go (no n) = digit-above (with_digit w i b) w i k (omega (arith, with_shr)) (lt_of_le-ne (omega arith) (λ e. ne (sym e)))

  pub with_lt : w < 2 ^ 64 → i < 64 → with_digit w i b < 2 ^ 64
  with_lt h l =
      let q = shr_word w i h l in
      let t : w / 2 ^ i / 2 * 2 + b < 2 ^ (63 - i) * 2 = omega arith in
      rw (with_parts w i b, sym (word_parts i l)) (digits_lt t (mod-lt w (pow_pos i)))

-- ---- what the machine does

-- `w | (1 << i)`
pub set_digit : (w i : ℕ) → w < 2 ^ 64 → i < 64 → bit_or w (1 * 2 ^ i % 2 ^ 64) ≡ with_digit w i 1
unfolding digit
set_digit w i h l =
    digits_same (bit_or w (1 * 2 ^ i % 2 ^ 64)) (with_digit w i 1) (or_lt 64 w (1 * 2 ^ i % 2 ^ 64) h (mod-lt (1 * 2 ^ i) (pow_pos 64))) (with_lt w i 1 (omega arith) h l)
    (λ k p. go k (ℕ_discrete k i))
  where
    go : (k : ℕ) → Dec (k ≡ i) → digit (bit_or w (1 * 2 ^ i % 2 ^ 64)) k ≡ digit (with_digit w i 1) k
    go k (yes e) = rw e (bit_at_set_same w64 w i l ∙ sym (digit_with_same w i 1 (omega arith)))
    go k (no n) = bit_at_set_other w64 w i l k n ∙ sym (digit_with_other w i 1 (omega arith) k n)

-- `w & !(1 << i)`
pub clear_digit : (w i : ℕ) → w < 2 ^ 64 → i < 64 → bit_and w (2 ^ 64 - 1 - 1 * 2 ^ i % 2 ^ 64) ≡ with_digit w i 0
unfolding digit
clear_digit w i h l =
    digits_same (bit_and w (2 ^ 64 - 1 - 1 * 2 ^ i % 2 ^ 64)) (with_digit w i 0) (and_lt 64 w (2 ^ 64 - 1 - 1 * 2 ^ i % 2 ^ 64) h (omega arith)) (with_lt w i 0 (omega arith) h l)
    (λ k p. go k p (ℕ_discrete k i))
  where
    go : (k : ℕ) → k < 64 → Dec (k ≡ i) → digit (bit_and w (2 ^ 64 - 1 - 1 * 2 ^ i % 2 ^ 64)) k ≡ digit (with_digit w i 0) k
    go k p (yes e) = rw e (bit_at_clear_same w64 w i l ∙ sym (digit_with_same w i 0 (omega arith)))
    go k p (no n) = bit_at_clear_other w64 w i l k p n ∙ sym (digit_with_other w i 0 (omega arith) k n)

-- ---- words

pub set_there : (ws : List ℕ) (x : ℕ) → Words ws → set ws (x / 64) (bit_or (get_or ws (x / 64) 0) (1 * 2 ^ (x % 64) % 2 ^ 64)) ≡ with_bit ws x 1
unfolding with_bit
set_there ws x h = rw (set_digit (get_or ws (x / 64) 0) (x % 64) (h (x / 64)) (omega arith))

pub clear_there : (ws : List ℕ) (x : ℕ) → Words ws → set ws (x / 64) (bit_and (get_or ws (x / 64) 0) (2 ^ 64 - 1 - 1 * 2 ^ (x % 64) % 2 ^ 64)) ≡ with_bit ws x 0
unfolding with_bit
clear_there ws x h = rw (clear_digit (get_or ws (x / 64) 0) (x % 64) (h (x / 64)) (omega arith))

pub length_with : (ws : List ℕ) (x b : ℕ) → length (with_bit ws x b) ≡ length ws
unfolding with_bit
length_with ws x b = length-set ws (x / 64) _

-- a word of the list is the one with the bit changed, or as it was
word_with : (ws : List ℕ) (x b j : ℕ)
    → ((j ≡ x / 64) × (get_or (with_bit ws x b) j 0 ≡ with_digit (get_or ws j 0) (x % 64) b)) ⊎ (get_or (with_bit ws x b) j 0 ≡ get_or ws j 0)
unfolding with_bit
word_with ws x b j = go (ℕ_discrete j (x / 64)) (dec_lt (x / 64) (length ws))
  where
    v : ℕ
    v = with_digit (get_or ws (x / 64) 0) (x % 64) b

    go : Dec (j ≡ x / 64) → Dec (x / 64 < length ws)
        → ((j ≡ x / 64) × (get_or (set ws (x / 64) v) j 0 ≡ with_digit (get_or ws j 0) (x % 64) b)) ⊎ (get_or (set ws (x / 64) v) j 0 ≡ get_or ws j 0)
    go (yes e) (yes l) = inl (e, rw e (get_or-set_same ws (x / 64) v 0 l))
    go (yes e) (no n) = inr (rw (set_out ws (x / 64) v (omega arith)))
    go (no n) l = inr (get_or-set_other ws (x / 64) j v 0 n)

pub bit_with_same : (ws : List ℕ) (x b : ℕ) → x / 64 < length ws → b ≤ 1 → bit (with_bit ws x b) x ≡ b
unfolding bit with_bit
bit_with_same ws x b h small = rw (get_or-set_same ws (x / 64)) (digit_with_same (get_or ws (x / 64) 0) (x % 64) b small)

pub bit_with_other : (ws : List ℕ) (x b y : ℕ) → b ≤ 1 → y ≢ x → bit (with_bit ws x b) y ≡ bit ws y
unfolding bit
bit_with_other ws x b y small ne = go (word_with ws x b (y / 64))
  where
    go : ((y / 64 ≡ x / 64) × (get_or (with_bit ws x b) (y / 64) 0 ≡ with_digit (get_or ws (y / 64) 0) (x % 64) b)) ⊎ (get_or (with_bit ws x b) (y / 64) 0 ≡ get_or ws (y / 64) 0)
        → digit (get_or (with_bit ws x b) (y / 64) 0) (y % 64) ≡ digit (get_or ws (y / 64) 0) (y % 64)
    go (inl e) = rw e.1 (digit_with_other (get_or ws (y / 64) 0) (x % 64) b small (y % 64) (λ r. ne (let q = e.0 in omega arith)))
    go (inr e) = rw e
