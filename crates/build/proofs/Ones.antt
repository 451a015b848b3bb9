-- The ones of a unit set vector by vector, and the words with the ones of the units so far: at the end these are the words of the index.
-- Assumes nothing.
use Prim.Native.Nat.{ℕ, ◌+◌, ◌*◌, ◌/◌, ◌≤◌, ◌<◌, max}
use mathlib.Core.Path.{◌≡◌, refl, sym, ap, ◌∙◌}
use mathlib.Core.Bool.{Bool, not, ◌&&◌}
use mathlib.Core.List.{List}
use mathlib.Core.Logic.{◌≢◌}
use native.Mathlib.Omega.{arith}
use native.Mathlib.Decide.{dec_lt, ℕ_discrete}
use native.Mathlib.Nat.{zero-div, le_refl}
use lib.ListN.{length, get_or, get_or-eq_default, replicate, length-replicate, get_or-replicate}
use lib.Pow.{pow_pos}
use lib.Dec.{eqb}
use borrow.Author.Tests.{eq-eqb, ne_eqb}
use Rattle.rules.specs.Ranges.{bit1, some, table, over}
use Rattle.rules.specs.Listing.{Listing, track, size}
use Rattle.rules.specs.Order.{low}
use Rattle.rules.specs.Layout.{offset, room_bits, word_count}
use Rattle.rules.specs.Bits.{digit, bit, ones_before}
use Rattle.rules.specs.Index.{one_at, built_bit, built_count, built_words, built_directory, built_work, lens_of}
use Rattle.rules.proofs.Ranges.{bit1_le, some-bit, some_same, length-table, get_or-table, get_d_rows}
use Rattle.rules.proofs.Overs.{over-whole}
use Rattle.rules.proofs.Bits.{Words, bit_le, words_by_bits}
use Rattle.rules.proofs.Layouts.{offset_same, offset-within, vector_other, room_holds, words_hold, words_most, offset_last}
use Rattle.rules.proofs.Layouts as layouts
use Rattle.rules.proofs.Accepted.{Accepted}
use Rattle.rules.proofs.Tracks.{track-next, position-size}
use Rattle.rules.proofs.Bounds.{low-size, low_under, sound_own}
use Rattle.rules.proofs.Builts.{length_words, words_built, bit_built, units_built, ones_few, length_work}
use Rattle.layout.specs.Starts.{row_starts}
use Rattle.layout.proofs.Rows.{starts_at}
use Rattle.rows.proofs.RowsWritten.{row_end}
use Rattle.words.specs.Words.{with_bit}
use Rattle.words.proofs.WithBit.{bit_with_same, bit_with_other, length_with}
use Rattle.build.specs.Ones.{one_of, OnesSet, Given}

-- ---- the ones of one unit

module _ (s : ℕ → ℕ) (k : ℕ) (work : List ℕ) (p i : ℕ) (words : List ℕ) where
  pub ones_none : OnesSet s k work p i 0 words words
  unfolding some
  ones_none = record { same_length = refl; each_bit = λ x. omega arith }

  -- there is no vector p,p
  pub ones_own : (now-words : List ℕ) (m : ℕ) → m ≡ p → OnesSet s k work p i m words now-words → OnesSet s k work p i (m + 1) words now-words
  unfolding one_of
  ones_own now-words m e o = record {
    same_length = o.same_length;
    each_bit = λ x.
        let none : bit1 (one_of s k work p i x m) ≡ 0 = rw (eq-eqb m p e) in
        omega (arith, o.each_bit x, some-bit (one_of s k work p i x) m);
  }

  -- one vector more
  pub ones-next : (now-words : List ℕ) (m y : ℕ) → m ≢ p → y ≡ offset s k p m + get_or work (i * k + p) 0 + get_or work (i * k + m) 0
      → y / 64 < length now-words → OnesSet s k work p i m words now-words → OnesSet s k work p i (m + 1) words (with_bit now-words y 1)
  unfolding one_of
  ones-next now-words m y ne e l o = record {
    same_length = length_with now-words y 1 ∙ o.same_length;
    each_bit = λ x. at_bit x (ℕ_discrete x y);
  }
    where
      at_bit : (x : ℕ) → Dec (x ≡ y) → bit (with_bit now-words y 1) x ≡ max (bit words x) (bit1 (some (one_of s k work p i x) (m + 1)))
      at_bit x (yes h) =
          let one : bit1 (one_of s k work p i x m) ≡ 1 = rw (ne_eqb m p ne, eq-eqb _ x (sym e ∙ sym h)) in
          let set : bit (with_bit now-words y 1) x ≡ 1 = rw h (bit_with_same now-words y 1 l (omega arith)) in
          omega (arith, bit_le words x, bit1_le (some (one_of s k work p i x) m), some-bit (one_of s k work p i x) m)
      at_bit x (no n) =
          let none : bit1 (one_of s k work p i x m) ≡ 0 = rw (ne_eqb m p ne, ne_eqb (offset s k p m + get_or work (i * k + p) 0 + get_or work (i * k + m) 0) x (λ f. n (sym f ∙ sym e))) in
          omega (arith, bit_with_other now-words y 1 x (omega arith) n, o.each_bit x, some-bit (one_of s k work p i x) m)

-- the place of a 1 is within the words
pub one_within : (s : ℕ → ℕ) (k p q own low : ℕ) → p < k → q < k → q ≢ p → own < s p → low ≤ s q → offset s k p q + own + low < 64 * word_count s k
one_within s k p q own low row column ne l h =
    omega (arith, offset-within s k p q row column, room_holds s p q, vector_other s p q (λ e. ne (sym e)), words_hold s k)

-- ---- what the rows say of a unit

-- bit x is the 1 of unit i + 1 in some vector
abbrev one_here : Listing → ℕ → ℕ → Bool
one_here c x i = some (λ q. not (eqb q (track c.tracks (i + 1))) && eqb (one_at c (i + 1) q) x) c.k

module _ {c : Listing} {lens : List ℕ} (a : Accepted c) (lens_are : lens ≡ table (size c.tracks) 32) where
  pub lens_at : (q : ℕ) → q < c.k → lens_of lens q ≡ size c.tracks q
  lens_at q l = rw lens_are (get_or-table (size c.tracks) 32 q (omega (arith, a.k_in)))

  pub count_is : word_count (lens_of lens) c.k ≡ built_count c
  count_is = layouts.words_same (lens_of lens) (size c.tracks) c.k lens_at

pub count_few : {c : Listing} → Accepted c → built_count c ≤ 1024
count_few {c} a =
    omega (arith, words_most (size c.tracks) c.k (omega (arith, units_built c a, a.n_in)) a.k_in.1)

-- W by where the vectors of each track start: behind the last stand the bits of all
pub rows-count : {c : Listing} {lens : List ℕ} (row : List ℕ) → Accepted c → lens ≡ table (size c.tracks) 32 → row ≡ row_starts (lens_of lens) c.k
    → (get_or row c.k 0 ≤ 65536) × ((get_or row c.k 0 + 63) / 64 ≡ built_count c)
unfolding word_count
rows-count {c} {lens} row a lens_are row_is =
    let s = lens_of lens in
    let e : get_or row c.k 0 ≡ room_bits s c.k = ap (λ r. get_or r c.k 0) row_is ∙ starts_at s c.k c.k (le_refl c.k) a.k_in.1 ∙ offset_last s c.k in
    (omega (arith, e, words_hold s c.k, count_is a lens_are, count_few a), omega (arith, e, count_is a lens_are))

module _ {c : Listing} {lens work : List ℕ} (g : Given c lens work) where
  work_at : (i q : ℕ) → i < c.n → q < c.k → get_or work (i * c.k + q) 0 ≡ low c (i + 1) q
  unfolding built_work
  work_at i q h l = rw g.work_is (get_d_rows (λ i q. low c (i + 1) q) c.k c.n i q h l)

  module _ (i : ℕ) (h : i < c.n) where
    pub track_in : get_or c.tracks i 0 < c.k
    track_in = g.accepted.tracks_below i h

    pub row_fits : i * c.k + c.k ≤ length work
    row_fits = rw (g.work_is, length_work c) (row_end i c.n c.k h)

    pub own_fits : get_or work (i * c.k + get_or c.tracks i 0) 0 < lens_of lens (get_or c.tracks i 0)
    own_fits =
        let t = track-next c.tracks i in
        omega (
          arith,
          lens_at g.accepted g.lens_are (get_or c.tracks i 0) track_in,
          work_at i (get_or c.tracks i 0) h track_in,
          ap (low c (i + 1)) t,
          ap (size c.tracks) t,
          low_under c g.accepted (i + 1) (omega arith),
          position-size c.tracks (i + 1) (omega (arith, g.accepted.tracks_long)),
        )

    pub low_fits : (q : ℕ) → q < c.k → get_or work (i * c.k + q) 0 ≤ lens_of lens q
    low_fits q l = omega (arith, lens_at g.accepted g.lens_are q l, work_at i q h l, low-size c g.accepted (i + 1) q)

    -- own low plus 1 is the position: the place by the rows is the place by the definition
    one_place : (q : ℕ) → q < c.k
        → offset (lens_of lens) c.k (get_or c.tracks i 0) q + get_or work (i * c.k + get_or c.tracks i 0) 0 + get_or work (i * c.k + q) 0 ≡ one_at c (i + 1) q
    unfolding one_at
    one_place q l =
        let t = track-next c.tracks i in
        omega (
          arith,
          offset_same (lens_of lens) (size c.tracks) c.k (lens_at g.accepted g.lens_are) (get_or c.tracks i 0) q track_in (omega arith),
          ap (λ p. offset (size c.tracks) c.k p q) t,
          work_at i (get_or c.tracks i 0) h track_in,
          work_at i q h l,
          ap (low c (i + 1)) t,
          sound_own c g.accepted g.sound (i + 1) (omega arith) (omega arith),
        )

    ones_same : (x : ℕ) → some (one_of (lens_of lens) c.k work (get_or c.tracks i 0) i x) c.k ≡ one_here c x i
    unfolding one_of
    ones_same x = some_same _ _ c.k (λ q l. rw (one_place q l, track-next c.tracks i))

-- ---- the words so far

-- the words with the ones of the first i units
pub record Filled (c : Listing) (words : List ℕ) (i : ℕ) : Type 0 where
  pub upto : i ≤ c.n
  pub long : length words ≡ built_count c
  pub narrow : Words words
  pub each_bit : (x : ℕ) → bit words x ≡ bit1 (some (one_here c x) i)

zero_there : (m j : ℕ) → get_or (replicate {A = ℕ} m 0) j 0 ≡ 0
zero_there m j = go (dec_lt j m)
  where
    go : Dec (j < m) → get_or (replicate {A = ℕ} m 0) j 0 ≡ 0
    go (yes l) = get_or-replicate m j 0 0 l
    go (no n) = get_or-eq_default (replicate {A = ℕ} m 0) 0 (omega (arith, length-replicate {A = ℕ} m 0))

pub filled_start : (c : Listing) (words : List ℕ) → words ≡ replicate (built_count c) 0 → Filled c words 0
unfolding some bit digit
filled_start c words e = record {
  upto = omega arith;
  long = rw e (length-replicate (built_count c) 0);
  narrow = λ j. rw (e, zero_there (built_count c) j) (pow_pos 64);
  each_bit = λ x. rw (e, zero_there (built_count c) (x / 64), zero-div);
}

pub filled_next : {c : Listing} {lens work : List ℕ} (g : Given c lens work) (words now-words : List ℕ) (i : ℕ) → i < c.n → Filled c words i
    → OnesSet (lens_of lens) c.k work (get_or c.tracks i 0) i c.k words now-words → Words now-words → Filled c now-words (i + 1)
filled_next {c} g words now-words i h f o w = record {
  upto = omega arith;
  long = o.same_length ∙ f.long;
  narrow = w;
  each_bit = λ x. omega (arith, o.each_bit x, ap bit1 (ones_same g i h x), f.each_bit x, some-bit (one_here c x) i);
}

pub filled_all : (c : Listing) (words : List ℕ) (i : ℕ) → c.n ≤ i → Filled c words i → words ≡ built_words c
unfolding built_bit
filled_all c words i h f =
    let e : i ≡ c.n = omega (arith, f.upto) in
    words_by_bits words (built_words c) (f.long ∙ sym (length_words c)) f.narrow (words_built c) (λ x l.
    f.each_bit x ∙ ap (λ m. bit1 (some (one_here c x) m)) e ∙ sym (bit_built c x (omega (arith, f.long))))

-- ---- the directory

module _ (c : Listing) (ws : List ℕ) (m : ℕ) (filled : ws ≡ built_words c) (long : m ≡ built_count c) where
  pub directory_fits : Accepted c → (m ≤ length ws) × (ones_before ws m < 65536)
  directory_fits a = rw (filled, long, length_words c) (omega arith, ones_few c a)

  pub directory_is : (area : List ℕ) → length area ≡ m → over area (table (ones_before ws) m) ≡ built_directory c
  unfolding built_directory
  directory_is area e = over-whole area (table (ones_before ws) m) (e ∙ sym (length-table (ones_before ws) m)) ∙ rw (filled, long)
