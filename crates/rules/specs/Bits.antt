-- Bits in 64-bit words, ones before a bit or a word, and the place of the i-th 1 and the i-th 0.
use Rattle.std.specs.Prelude.{ℕ, suc, ◌-◌, ◌*◌, ◌/◌, ◌%◌, ◌^◌, List, get_or, leb}
use Rattle.std.specs.Int.Count.{ones}
use Rattle.rules.specs.Ranges.{sum, first}

-- bit i of the word w, counted from the lowest
unfoldable pub digit : ℕ → ℕ → ℕ
digit w i = w / 2 ^ i % 2

-- bit x of the words: bit x mod 64 of word x div 64
unfoldable pub bit : List ℕ → ℕ → ℕ
bit ws x = digit (get_or ws (x / 64) 0) (x % 64)

-- the word whose bits are f 0, f 1, .. f 63
unfoldable pub word_of : (ℕ → ℕ) → ℕ
word_of f = sum (λ i. f i * 2 ^ i) 64

-- the ones in all words before word j: what the directory holds
unfoldable pub ones_before : List ℕ → ℕ → ℕ
ones_before ws j = sum (λ i. ones (get_or ws i 0)) j

-- the ones before bit x
unfoldable pub rank : List ℕ → ℕ → ℕ
rank ws x = sum (bit ws) x

-- the place, from 1, of the i-th 1 among the m bits f 0 .. f (m - 1), and m + 1 where there is none
unfoldable pub place_of_one : (ℕ → ℕ) → ℕ → ℕ → ℕ
place_of_one f m i = first (λ y. leb i (sum f y)) (suc m)

-- the place, from 1, of the i-th 0
unfoldable pub place_of_zero : (ℕ → ℕ) → ℕ → ℕ → ℕ
place_of_zero f m i = first (λ y. leb i (y - sum f y)) (suc m)
