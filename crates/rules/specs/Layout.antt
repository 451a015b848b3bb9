-- Where each vector stands among the bits. `s` gives the length of each track.
use Rattle.std.specs.Prelude.{ℕ, ◌+◌, ◌/◌, cond, eqb}
use Rattle.rules.specs.Ranges.{sum}

-- the bits of vector p,q; there is no vector p,p
unfoldable pub vector_bits : (ℕ → ℕ) → ℕ → ℕ → ℕ
vector_bits s p q = cond (eqb p q) 0 (s p + s q)

-- the room of vector p,q: the bits from its start to the start of the next
unfoldable pub vector_room : (ℕ → ℕ) → ℕ → ℕ → ℕ
vector_room s p q = vector_bits s p q

-- the first bit of vector p,q: the vectors follow one another by p and then q
unfoldable pub offset : (ℕ → ℕ) → ℕ → ℕ → ℕ → ℕ
offset s k p q = sum (λ p'. sum (vector_room s p') k) p + sum (vector_room s p) q

-- the bits of all vectors with their room, and the words that these take
unfoldable pub room_bits : (ℕ → ℕ) → ℕ → ℕ
room_bits s k = sum (λ p. sum (vector_room s p) k) k

unfoldable pub word_count : (ℕ → ℕ) → ℕ → ℕ
word_count s k = (room_bits s k + 63) / 64

-- the bits that carry meaning
unfoldable pub meant_bits : (ℕ → ℕ) → ℕ → ℕ
meant_bits s k = sum (λ p. sum (vector_bits s p) k) k
