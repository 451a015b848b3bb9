-- The index: what a build writes, when an index is whole, and low and high read off any index by the two formulas.
use Rattle.std.specs.Prelude.{ℕ, suc, ◌+◌, ◌-◌, ◌*◌, Bool, true, false, cond, not, ◌&&◌, List, [], ◌∷◌, length, get_or, leb, ltb, eqb}
use Rattle.rules.specs.declared.Head.{Head}
use Rattle.rules.specs.Limits.{max_units, max_tracks}
use Rattle.rules.specs.Ranges.{sum, bit1, some, every, table, rows}
use Rattle.rules.specs.Listing.{Listing, track, size, position, within}
use Rattle.rules.specs.Order.{low}
use Rattle.rules.specs.Layout.{vector_bits, offset, room_bits, word_count, meant_bits}
use Rattle.rules.specs.Bits.{bit, word_of, ones_before, place_of_one, place_of_zero}

-- ---- what a build writes for an accepted listing

-- the bit that is the 1 of unit u in vector p,q, where p is the track of u: its place, from 1, is u's position plus low(u, q)
unfoldable pub one_at : Listing → ℕ → ℕ → ℕ
one_at c u q =
    offset (size c.tracks) c.k (track c.tracks u) q + (position c.tracks u + low c u q - 1)

-- bit x of the index: 1 where it is the 1 of some unit in some vector, else 0
unfoldable pub built_bit : Listing → ℕ → ℕ
built_bit c x =
    bit1 (some (λ i. some (λ q. not (eqb q (track c.tracks (i + 1))) && eqb (one_at c (i + 1) q) x) c.k) c.n)

-- W
abbrev pub built_count : Listing → ℕ
built_count c = word_count (size c.tracks) c.k

unfoldable pub built_words : Listing → List ℕ
built_words c = table (λ j. word_of (λ i. built_bit c (64 * j + i))) (built_count c)

unfoldable pub built_directory : Listing → List ℕ
built_directory c = table (ones_before (built_words c)) (built_count c)

unfoldable pub built_head : Listing → Head
built_head c = record { lens = table (size c.tracks) max_tracks; n = c.n; k = c.k }

-- entry (u - 1) * k + q is low(u, q)
unfoldable pub built_work : Listing → List ℕ
built_work c = rows (λ i q. low c (i + 1) q) c.n c.k

-- the bits that the vectors take: 2n(k - 1)
unfoldable pub built_bits : Listing → ℕ
built_bits c = meant_bits (size c.tracks) c.k

-- ---- any index

pub record Index : Type 0 where
  pub head : Head
  pub tracks : List ℕ
  pub words : List ℕ
  pub directory : List ℕ

-- the index that a build gives
unfoldable pub built_index : Listing → Index
built_index c = record { head = built_head c; tracks = c.tracks; words = built_words c; directory = built_directory c }

abbrev pub index : Head → List ℕ → List ℕ → List ℕ → Index
index head tracks words directory = record { head = head; tracks = tracks; words = words; directory = directory }

-- the length of each track, by a list of lengths and by the head
abbrev pub lens_of : List ℕ → ℕ → ℕ
lens_of lens q = get_or lens q 0

abbrev pub sizes : Index → ℕ → ℕ
sizes x = lens_of x.head.lens

-- vector p,q among the words, for k tracks of lengths s
unfoldable pub vector_of : (ℕ → ℕ) → ℕ → List ℕ → ℕ → ℕ → ℕ → ℕ
vector_of s k words p q y = bit words (offset s k p q + y)

-- of position i of track p: low = (place of the i-th 1 in vector p,q) - i; for its own track it is i - 1
unfoldable pub low_at : (ℕ → ℕ) → ℕ → List ℕ → ℕ → ℕ → ℕ → ℕ
low_at s k words p i q = cond (eqb p q) (i - 1) (place_of_one (vector_of s k words p q) (vector_bits s p q) i - i)

-- of position i of track p: high = (place of the i-th 0 in vector q,p) - i + 1; for its own track it is i + 1
unfoldable pub high_at : (ℕ → ℕ) → ℕ → List ℕ → ℕ → ℕ → ℕ → ℕ
high_at s k words p i q = cond (eqb p q) (i + 1) (place_of_zero (vector_of s k words q p) (vector_bits s q p) i - i + 1)

-- vector p,q of the index, and low(u, q) and high(u, q) read off it
abbrev pub vector : Index → ℕ → ℕ → ℕ → ℕ
vector x = vector_of (sizes x) x.head.k x.words

abbrev pub low_in : Index → ℕ → ℕ → ℕ
low_in x u q = low_at (sizes x) x.head.k x.words (track x.tracks u) (position x.tracks u) q

abbrev pub high_in : Index → ℕ → ℕ → ℕ
high_in x u q = high_at (sizes x) x.head.k x.words (track x.tracks u) (position x.tracks u) q

-- ---- whole: seven conditions, in document 01's order

unfoldable pub in_range : ℕ → ℕ → Bool
in_range n k = within 1 max_units n && within 1 max_tracks k

unfoldable pub tracks_fit : ℕ → ℕ → List ℕ → Bool
tracks_fit n k tracks = eqb (length tracks) n && every (λ i. ltb (get_or tracks i 0) k) n

-- the lengths are the counts in the track list, at least 1 for each track below k and 0 beyond
unfoldable pub lengths_true : List ℕ → ℕ → List ℕ → Bool
lengths_true lens k tracks =
    every
    (λ q. eqb (lens_of lens q) (size tracks q) && cond (ltb q k) (leb 1 (lens_of lens q)) (eqb (lens_of lens q) 0))
    max_tracks

unfoldable pub areas_reach : (ℕ → ℕ) → ℕ → List ℕ → List ℕ → Bool
areas_reach s k words directory = leb (word_count s k) (length words) && leb (word_count s k) (length directory)

-- the bits past the vectors are 0
unfoldable pub spare_clear : (ℕ → ℕ) → ℕ → List ℕ → Bool
spare_clear s k words = every (λ i. eqb (bit words (room_bits s k + i)) 0) (64 * word_count s k - room_bits s k)

unfoldable pub directory_true : (ℕ → ℕ) → ℕ → List ℕ → List ℕ → Bool
directory_true s k words directory = every (λ j. eqb (get_or directory j 0) (ones_before words j)) (word_count s k)

-- vector p,q has exactly as many ones as p has units
unfoldable pub vectors_true : (ℕ → ℕ) → ℕ → List ℕ → Bool
vectors_true s k words =
    every (λ p. every (λ q. eqb (sum (vector_of s k words p q) (vector_bits s p q)) (cond (eqb p q) 0 (s p))) k) k

unfoldable pub conditions : Index → List Bool
conditions x =
    in_range x.head.n x.head.k
    ∷ tracks_fit x.head.n x.head.k x.tracks
    ∷ lengths_true x.head.lens x.head.k x.tracks
    ∷ areas_reach (sizes x) x.head.k x.words x.directory
    ∷ spare_clear (sizes x) x.head.k x.words
    ∷ directory_true (sizes x) x.head.k x.words x.directory
    ∷ vectors_true (sizes x) x.head.k x.words
    ∷ []

-- the number, from 1, of the first condition that fails, 0 where all hold
unfoldable pub first_failing : ℕ → List Bool → ℕ
first_failing number [] = 0
first_failing number (true ∷ holds) = first_failing (suc number) holds
first_failing number (false ∷ holds) = number

unfoldable pub fault : Index → ℕ
fault x = first_failing 1 (conditions x)

unfoldable pub whole : Index → Bool
whole x = eqb (fault x) 0
