-- What the machine's operators do to a word, in the words of its digits and ones.
-- Assumes nothing.
use Prim.Native.Nat.{ℕ, ◌+◌, ◌-◌, ◌*◌, ◌/◌, ◌%◌, ◌^◌, ◌<◌, zero-le}
use mathlib.Core.Path.{◌≡◌, sym, ap, ◌∙◌}
use mathlib.Core.List.{List}
use native.Mathlib.Omega.{arith}
use native.Mathlib.Nat.{one-mul, mul-mod_left, mod-lt, div-lt_iff_lt-mul}
use lib.Dec.{lit<}
use lib.ListN.{get_or}
use lib.Pow.{pow_pos, pow-add, shl_exact, shl-shr, mod-pow-add}
use lib.Bits.{bit_and, and_mask}
use lib.Count.{ones, ones_cat}
use Rattle.std.proofs.lemmas.Nat.Bits.{shr_and_one}
use Rattle.rules.specs.Bits.{digit, bit}
use Rattle.rules.proofs.Bits.{ones-digit}

-- `1 << k`
pub one_shl : (k : ℕ) → k < 64 → 1 * 2 ^ k % 2 ^ 64 ≡ 2 ^ k
one_shl k h = shl_exact {a = 1} 1 k 64 (lit< tt) (omega arith) ∙ one-mul (2 ^ k)

-- `w & 1`
pub mask_one : (w : ℕ) → bit_and w 1 ≡ w % 2
mask_one w = and_mask w 1

-- `(words[x / 64] >> (x % 64)) & 1`
pub bit_read : (ws : List ℕ) (x : ℕ) → bit_and (get_or ws (x / 64) 0 / 2 ^ (x % 64)) 1 ≡ bit ws x
unfolding bit digit
bit_read ws x = shr_and_one (get_or ws (x / 64) 0) (x % 64)

-- `w & ((1 << k) - 1)`
pub mask_low : (w k : ℕ) → k < 64 → bit_and w (1 * 2 ^ k % 2 ^ 64 - 1) ≡ w % 2 ^ k
mask_low w k h = rw (one_shl k h) (and_mask w k)

-- 64 bits are i bits and those from bit i on
pub word_parts : (i : ℕ) → i < 64 → 2 ^ (63 - i) * 2 * 2 ^ i ≡ 2 ^ 64
word_parts i l =
    let e : 63 - i + 1 + i ≡ 64 = omega arith in
    rw (sym (pow-add 2 (63 - i) 1), sym (pow-add 2 (63 - i + 1) i), e)

pub shr_word : (w i : ℕ) → w < 2 ^ 64 → i < 64 → w / 2 ^ i < 2 ^ (63 - i) * 2
shr_word w i h l = (div-lt_iff_lt-mul (pow_pos i)).1 (rw (word_parts i l) h)

-- the ones below bit j + k are those below bit k and those of the j bits from it on
pub ones_split : (w j k : ℕ) → ones (w % 2 ^ (j + k)) ≡ ones (w / 2 ^ k % 2 ^ j) + ones (w % 2 ^ k)
ones_split w j k = ap ones (mod-pow-add w j k) ∙ ones_cat k (w / 2 ^ k % 2 ^ j) (w % 2 ^ k) (mod-lt w (pow_pos k))

-- `w << (63 - r)` keeps the r + 1 lowest bits
pub ones_shl : (w r : ℕ) → r < 64 → ones (w * 2 ^ (63 - r) % 2 ^ 64) ≡ ones (w % 2 ^ (r + 1))
ones_shl w r h =
    let e : r + 1 + (63 - r) ≡ 64 = omega arith in
    let s = ones_split (w * 2 ^ (63 - r)) (r + 1) (63 - r) in
    omega (arith, ap (λ (x : ℕ). ones (w * 2 ^ (63 - r) % 2 ^ x)) e, s, ap (λ (x : ℕ). ones (x % 2 ^ (r + 1))) (shl-shr w (63 - r)), ap ones (mul-mod_left w (2 ^ (63 - r))), ones-digit 0 zero-le)
