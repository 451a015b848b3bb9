-- A word or a list of words with one bit changed, what the directory must say of the words that a search looks at, and what the search finds.
use Rattle.std.specs.Prelude.{ℕ, ◌+◌, ◌-◌, ◌*◌, ◌/◌, ◌%◌, ◌^◌, ◌≤◌, ◌<◌, ◌≡◌, List, length, get_or, set}
use Rattle.std.specs.Int.Count.{ones}
use Rattle.rules.specs.Ranges.{sum}
use Rattle.rules.specs.Bits.{digit, ones_before}
use Rattle.words.specs.declared.Part.{Part}

-- the word w with bit i now b, which is 0 or 1
unfoldable pub with_digit : ℕ → ℕ → ℕ → ℕ
with_digit w i b = w - digit w i * 2 ^ i + b * 2 ^ i

-- the words with bit x now b
unfoldable pub with_bit : List ℕ → ℕ → ℕ → List ℕ
with_bit ws x b = set ws (x / 64) (with_digit (get_or ws (x / 64) 0) (x % 64) b)

-- bit r of the word w is its i-th 1, counted from 1 and from the lowest
pub record IsOne (w i r : ℕ) : Type 0 where
  pub inside : r < 64
  pub set_there : digit w r ≡ 1
  pub before : ones (w % 2 ^ r) + 1 ≡ i

-- words and directory reach past word j, and the directory is true there
pub record TrueAt (ws ds : List ℕ) (j : ℕ) : Type 0 where
  pub word : j < length ws
  pub entry : j < length ds
  pub true_there : get_or ds j 0 ≡ ones_before ws j

-- the directory is true at each of the first count words
abbrev pub TrueTo : List ℕ → List ℕ → ℕ → Type 0
TrueTo ws ds count = (j : ℕ) → j < count → TrueAt ws ds j

-- the directory is true at each word that a vector of m bits from bit off on touches
pub record Covers (ws ds : List ℕ) (off m : ℕ) : Type 0 where
  pub some_bits : 0 < m
  pub narrow : off + m ≤ 64 * 4096
  pub at_each : (j : ℕ) → off / 64 ≤ j → 64 * j < off + m → TrueAt ws ds j

-- the i-th 1 of the word w is the part.left-th among the lowest span bits of part.word, which is w without its lowest part.at bits
pub record Seeks (w i : ℕ) (part : Part) (span : ℕ) : Type 0 where
  pub rest : part.word ≡ w / 2 ^ part.at
  pub passed : ones (w % 2 ^ part.at) + part.left ≡ i
  pub some : 1 ≤ part.left
  pub among : part.left ≤ ones (part.word % 2 ^ span)
  pub narrow : part.at + span ≤ 64

-- the word w has the bits b of word j
abbrev pub Shows : (ℕ → ℕ) → ℕ → ℕ → Type 0
Shows b j w = (r : ℕ) → r < 64 → digit w r ≡ b (64 * j + r)

-- the t-th of the bits b that are 1 is in the vector of m bits from bit off on
pub record InVector (b : ℕ → ℕ) (off m t : ℕ) : Type 0 where
  pub after : sum b off < t
  pub among : t ≤ sum b (off + m)

-- each call at a word from lo to hi returns what f says
abbrev pub Returns : (ℕ → ℕ → Type 0) → ℕ → ℕ → (ℕ → ℕ) → Type 0
Returns call lo hi f = (j r : ℕ) → lo ≤ j → j ≤ hi → call j r → r ≡ f j

-- the t-th of the bits b is in the vector, and at each word that the vector touches the one call returns how many of them stand before it,
-- and the other a word that shows them
pub record Finds (b : ℕ → ℕ) (before word : ℕ → ℕ → Type 0) (off m t : ℕ) : Type 0 where
  pub in_vector : InVector b off m t
  pub standing : Returns before (off / 64) ((off + m - 1) / 64) (λ j. sum b (64 * j))
  pub shown : (j w : ℕ) → off / 64 ≤ j → j ≤ (off + m - 1) / 64 → word j w → Shows b j w

-- word j is among those from lo to hi, fewer than t stand before it, and t or more before the next of them
pub record LastBelow (before : ℕ → ℕ) (lo hi t j : ℕ) : Type 0 where
  pub from_lo : lo ≤ j
  pub to_hi : j ≤ hi
  pub fewer : before j < t
  pub enough : j < hi → t ≤ before (j + 1)
