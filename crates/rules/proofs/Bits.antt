-- Laws of bits in words: digits of a word and their count, ranks by words, words made of bits, and the place of a 1 or a 0 by what stands before it.
-- Assumes nothing.
use Prim.Native.Nat.{ℕ, zero, suc, ◌+◌, ◌-◌, ◌*◌, ◌/◌, ◌%◌, ◌^◌, ◌≤◌, ◌<◌, zero-le}
use mathlib.Core.Path.{◌≡◌, refl, sym, ap, ◌∙◌, subst}
use mathlib.Core.List.{List}
use mathlib.Core.Logic.{◌⊎◌, inl, inr}
use native.Mathlib.Omega.{arith}
use native.Mathlib.Numerals.{add-one}
use native.Mathlib.Decide.{dec_lt}
use native.Mathlib.Nat.{mod-lt, mod-le, mod-one, div-eq_of_lt, div-add-mod', mod-eq_of_lt, add_comm, mul-one, pow-suc, mul-le-mul_right}
use lib.ListN.{length, get_or}
use lib.Seq.{ext_get_or}
use lib.Dec.{leb}
use lib.Pow.{pow_pos, pow_mono, mod-pow-add, field, mod-mod-pow, high, low}
use lib.Count.{ones, ones_cat}
use borrow.Author.Tests.{le-leb, lt-leb}
use Rattle.rules.specs.Ranges.{sum}
use Rattle.rules.specs.Bits.{digit, bit, word_of, ones_before, rank, place_of_one, place_of_zero}
use Rattle.rules.proofs.Ranges.{last_or_before, sum_none, sum-next, sum-suc, sum_same, sum_add, sum_up, sum_most, first_is, first_same}

-- every word has 64 bits, and past the last word stands 0
abbrev pub Words : List ℕ → Type 0
Words ws = (j : ℕ) → get_or ws j 0 < 2 ^ 64

-- ---- digits of a word

pub digit_le : (w i : ℕ) → digit w i ≤ 1
unfolding digit
digit_le w i = omega arith

-- one more digit, above the k lowest
pub digit_top : (w k : ℕ) → w % 2 ^ suc k ≡ digit w k * 2 ^ k + w % 2 ^ k
unfolding digit
digit_top w k = rw (sym (add-one k), add_comm k 1) (mod-pow-add w 1 k)

-- the digits below m do not see what stands from m on
pub digit_low : (w m i : ℕ) → i < m → digit (w % 2 ^ m) i ≡ digit w i
unfolding digit
digit_low w m i h =
    let e : (m - i - 1 + 1) + i ≡ m = omega arith in
    subst (λ (x : ℕ). w % 2 ^ x / 2 ^ i % 2 ≡ w / 2 ^ i % 2) e
    (ap (λ (x : ℕ). x % 2) (field w (m - i - 1 + 1) i) ∙ mod-mod-pow (w / 2 ^ i) (m - i - 1) 1)

-- the digit on top of m lower ones
pub digit-high : (d m : ℕ) {r : ℕ} → d ≤ 1 → r < 2 ^ m → digit (d * 2 ^ m + r) m ≡ d
unfolding digit
digit-high d m small h = rw (high d m h) (omega arith)

pub ones-digit : (d : ℕ) → d ≤ 1 → ones d ≡ d
unfolding ones
ones-digit zero h = refl
ones-digit (suc zero) h = refl
ones-digit (suc (suc d)) h = absurd (omega arith)

-- the digits below k, summed, are the ones below bit k
pub digits-ones : (w k : ℕ) → sum (digit w) k ≡ ones (w % 2 ^ k)
digits-ones w zero = sum_none (digit w) ∙ sym (ap ones (mod-one w) ∙ ones-digit 0 zero-le)
digits-ones w (suc k) =
    sum-suc (digit w) k
    ∙ omega (arith, digits-ones w k, ones-digit (digit w k) (digit_le w k), ap ones (digit_top w k), ones_cat k (digit w k) (w % 2 ^ k) (mod-lt w (pow_pos k)))

mod_same : (v w k : ℕ) → ((i : ℕ) → i < k → digit v i ≡ digit w i) → v % 2 ^ k ≡ w % 2 ^ k
mod_same v w zero h = mod-one v ∙ sym (mod-one w)
mod_same v w (suc k) h =
    digit_top v k ∙ rw (h k (omega arith), mod_same v w k (λ i l. h i (omega arith))) (sym (digit_top w k))

-- a word is its digits
pub digits_same : (v w : ℕ) → v < 2 ^ 64 → w < 2 ^ 64 → ((i : ℕ) → i < 64 → digit v i ≡ digit w i) → v ≡ w
digits_same v w hv hw h = sym (mod-eq_of_lt hv) ∙ mod_same v w 64 h ∙ mod-eq_of_lt hw

-- a word shifted by r to 0 has no 1 from bit r on
pub digits_none : (w r i : ℕ) → w / 2 ^ r ≡ 0 → r ≤ i → digit w i ≡ 0
unfolding digit
digits_none w r i e h =
    let d : 0 * 2 ^ r + w % 2 ^ r ≡ w = rw e at (div-add-mod' w (2 ^ r)) in
    let l : w < 2 ^ i = omega (arith, mod-lt w (pow_pos r), pow_mono h) in
    rw (div-eq_of_lt l)

-- and a word with no 1 from bit r on is shifted by r to 0
pub none_digits : (w r : ℕ) → w < 2 ^ 64 → ((i : ℕ) → r ≤ i → i < 64 → digit w i ≡ 0) → w / 2 ^ r ≡ 0
none_digits w r small none = div-eq_of_lt (omega (arith, mod-lt w (pow_pos r), digits_same w (w % 2 ^ r) small (omega (arith, mod-le w (2 ^ r))) (λ i l. same i l (dec_lt i r))))
  where
    same : (i : ℕ) → i < 64 → Dec (i < r) → digit w i ≡ digit (w % 2 ^ r) i
    same i l (yes b) = sym (digit_low w r i b)
    same i l (no n) =
        none i (omega arith) l ∙ sym (digits_none (w % 2 ^ r) r i (div-eq_of_lt (mod-lt w (pow_pos r))) (omega arith))

-- ---- words made of bits

module _ (f : ℕ → ℕ) (small : (i : ℕ) → f i ≤ 1) where
  packed_lt : (m : ℕ) → sum (λ i. f i * 2 ^ i) m < 2 ^ m
  packed_lt zero = rw sum_none (pow_pos 0)
  packed_lt (suc m) =
      rw (sum-suc (λ i. f i * 2 ^ i) m, pow-suc) (omega (arith, packed_lt m, mul-le-mul_right (2 ^ m) (small m)))

  packed_digit : (m i : ℕ) → i < m → digit (sum (λ i. f i * 2 ^ i) m) i ≡ f i
  packed_digit zero i h = absurd (omega arith)
  packed_digit (suc m) i h = rw (sum-suc (λ i. f i * 2 ^ i) m, add_comm) (go (packed_digit m i) (last_or_before h))
    where
      go : (i < m → digit (sum (λ i. f i * 2 ^ i) m) i ≡ f i) → (i ≡ m) ⊎ (i < m) → digit (f m * 2 ^ m + sum (λ i. f i * 2 ^ i) m) i ≡ f i
      go below (inl e) = rw e (digit-high (f m) m (small m) (packed_lt m))
      go below (inr l) = sym (digit_low _ m i l) ∙ rw (low (f m) m (packed_lt m)) (below l)

  pub digit_word : (i : ℕ) → i < 64 → digit (word_of f) i ≡ f i
  unfolding word_of
  digit_word i h = packed_digit 64 i h

  pub word_lt : word_of f < 2 ^ 64
  unfolding word_of
  word_lt = packed_lt 64

-- ---- bits of words

pub bit_le : (ws : List ℕ) (x : ℕ) → bit ws x ≤ 1
unfolding bit
bit_le ws x = digit_le (get_or ws (x / 64) 0) (x % 64)

-- bit i of word j
pub bit_in : (ws : List ℕ) (j i : ℕ) → i < 64 → bit ws (64 * j + i) ≡ digit (get_or ws j 0) i
unfolding bit
bit_in ws j i h =
    let q : (64 * j + i) / 64 ≡ j = omega arith in
    let r : (64 * j + i) % 64 ≡ i = omega arith in
    rw (q, r)

-- words are their bits
pub words_by_bits : (l m : List ℕ) → length l ≡ length m → Words l → Words m → ((x : ℕ) → x < 64 * length l → bit l x ≡ bit m x) → l ≡ m
words_by_bits l m e hl hm h =
    ext_get_or 0 l m e (λ j q. digits_same (get_or l j 0) (get_or m j 0) (hl j) (hm j) (λ i r.
    sym (bit_in l j i r) ∙ h (64 * j + i) (omega arith) ∙ bit_in m j i r))

-- ---- ranks

module _ (ws : List ℕ) where
  pub rank_add : (off y : ℕ) → rank ws (off + y) ≡ rank ws off + sum (λ z. bit ws (off + z)) y
  unfolding rank
  rank_add off y = sum_add (bit ws) off y

  pub rank_le : (x : ℕ) → rank ws x ≤ x
  unfolding rank
  rank_le x = rw (mul-one x) at (sum_most (bit ws) 1 x (λ i l. bit_le ws i))

  pub ones_before_none : ones_before ws 0 ≡ 0
  unfolding ones_before
  ones_before_none = sum_none (λ i. ones (get_or ws i 0))

  pub ones_before-next : (j : ℕ) → ones_before ws (j + 1) ≡ ones_before ws j + ones (get_or ws j 0)
  unfolding ones_before
  ones_before-next j = sum-next (λ i. ones (get_or ws i 0)) j

  pub ones_before_up : (i j : ℕ) → i ≤ j → ones_before ws i ≤ ones_before ws j
  unfolding ones_before
  ones_before_up i j h = sum_up (λ z. ones (get_or ws z 0)) i j h

  -- the ones of word j below its bit r, after those of the words before it
  rank-part : (j r : ℕ) → r ≤ 64 → rank ws (64 * j + r) ≡ rank ws (64 * j) + ones (get_or ws j 0 % 2 ^ r)
  rank-part j r h =
      let s : sum (λ z. bit ws (64 * j + z)) r ≡ sum (digit (get_or ws j 0)) r = sum_same _ _ r (λ i l. bit_in ws j i (omega arith)) in
      omega (arith, rank_add (64 * j) r, digits-ones (get_or ws j 0) r)

  module _ (whole : Words ws) where
    pub rank_word : (j : ℕ) → rank ws (64 * j) ≡ ones_before ws j
    unfolding rank ones_before sum
    rank_word zero = refl
    rank_word (suc j) =
        let e : 64 * suc j ≡ 64 * j + 64 = omega arith in
        rw (e, rank-part j 64 (omega arith), mod-eq_of_lt (whole j), rank_word j)

    pub rank_in : (j r : ℕ) → r ≤ 64 → rank ws (64 * j + r) ≡ ones_before ws j + ones (get_or ws j 0 % 2 ^ r)
    rank_in j r h = omega (arith, rank-part j r h, rank_word j)

    pub ones_before_le : (j : ℕ) → ones_before ws j ≤ 64 * j
    ones_before_le j = omega (arith, rank_word j, rank_le (64 * j))

-- ---- places

pub place_of_one_is : (f : ℕ → ℕ) (m y i : ℕ) → y < m → f y ≡ 1 → sum f y + 1 ≡ i → place_of_one f m i ≡ y + 1
unfolding place_of_one
place_of_one_is f m y i h one e =
    first_is (λ z. leb i (sum f z)) (suc m) (y + 1) (omega arith)
    (λ j l. lt-leb i (sum f j) (omega (arith, sum_up f j y (omega arith))))
    (le-leb i (sum f (y + 1)) (omega (arith, sum-next f y)))

-- where bits are summed, the zeros are what is left of their number
pub zeros_sum : (f : ℕ → ℕ) → ((z : ℕ) → f z ≤ 1) → (y : ℕ) → sum (λ z. 1 - f z) y ≡ y - sum f y
zeros_sum f small zero = omega (arith, sum_none (λ z. 1 - f z))
zeros_sum f small (suc y) =
    omega (arith, sum-suc (λ z. 1 - f z) y, sum-suc f y, zeros_sum f small y, small y, sum_most f 1 y (λ z l. small z))

-- a 0 is a 1 of the bits turned over
pub place_of_zero_lem : (f : ℕ → ℕ) → ((z : ℕ) → f z ≤ 1) → (m i : ℕ) → place_of_zero f m i ≡ place_of_one (λ z. 1 - f z) m i
unfolding place_of_zero place_of_one
place_of_zero_lem f small m i = first_same _ _ (suc m) (λ y l. ap (leb i) (sym (zeros_sum f small y)))
