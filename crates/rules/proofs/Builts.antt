-- The index that a build gives for a sound, accepted listing: its bits, that it is whole, and that its answers are those of the listing.
-- Each 1 has one home, the vector of its unit's track and another, so a vector's ones are those of the units of one track; their lows rise
-- along it, so the vector reads as those lows, and low and high and the questions follow. Assumes nothing.
use Rattle.std.specs.Prelude.{Ok}
use Prim.Native.Nat.{ℕ, ◌+◌, ◌-◌, ◌*◌, ◌/◌, ◌%◌, ◌^◌, ◌≤◌, ◌<◌}
use mathlib.Core.Path.{◌≡◌, refl, sym, ap, ◌∙◌, subst}
use mathlib.Core.Bool.{Bool, true, false, not, ◌&&◌}
use mathlib.Core.Logic.{◌⊎◌, inl, inr}
use native.Mathlib.Omega.{arith}
use native.Mathlib.Nat.{le_antisymm}
use native.Mathlib.Decide.{dec_lt, dec_le, ℕ_discrete}
use lib.ListN.{length, get_or, get_or-eq_default}
use lib.Pow.{pow_pos}
use lib.Dec.{leb, ltb, eqb}
use borrow.Author.Tests.{le-leb, leb-true, eq-eqb, ne_eqb, eqb-true, eqb-false, not-true}
use Rattle.rules.specs.Ranges.{sum, some}
use Rattle.rules.specs.Listing.{Listing, track, size, position}
use Rattle.rules.specs.Order.{needs, step, sound_verdict, low, high}
use Rattle.rules.specs.Layout.{vector_room, offset, room_bits, word_count}
use Rattle.rules.specs.Bits.{bit, word_of, ones_before}
use Rattle.rules.specs.Index.{one_at, built_bit, built_count, built_words, built_directory, built_head, built_work, built_bits, built_index, sizes, vector_of, vector, low_in, high_in, whole}
use Rattle.rules.specs.Questions.{kind10_by, kind11_by, kind10, kind11, unit_at}
use Rattle.rules.proofs.Ranges.{true_or_false, bit1_le, some_yes, some_find, every_same, length-table, get_or-table, length-rows}
use Rattle.rules.proofs.Verdicts.{and_both}
use Rattle.rules.proofs.Bits.{Words, digit_word, word_lt, bit_in, ones_before_le}
use Rattle.rules.proofs.Places.{FromLow, vector_from_low}
use Rattle.rules.proofs.Layouts.{BitHome, bit_home_one, offset-within, room_holds, vector_other, meant_bits_lem, words_hold, words_most, offset_same, room_bits_same, words_same}
use Rattle.rules.proofs.Tracks.{position_pos, position-size, sizes_all, UnitAt, unit_found, unit_is}
use Rattle.rules.proofs.Accepted.{Accepted}
use Rattle.rules.proofs.Bounds.{track_below, low-size, sound_own, needs-low, low_rises, high_most, high_pos, needs-high, step-between}
use Rattle.rules.proofs.Vectors.{low_at_own, low_at_other, vector_le}
use Rattle.rules.proofs.Wholes.{Whole, is_whole, needs_by_high, high_in_most, unit_track, unit_position}

-- ---- the words

-- bit y is the 1 of unit i + 1 in some vector
abbrev one_here : Listing → ℕ → ℕ → Bool
one_here c y i = some (λ q. not (eqb q (track c.tracks (i + 1))) && eqb (one_at c (i + 1) q) y) c.k

module _ (c : Listing) where
  built_bit_le : (y : ℕ) → built_bit c y ≤ 1
  unfolding built_bit
  built_bit_le y = bit1_le (some (one_here c y) c.n)

  pub length_words : length (built_words c) ≡ built_count c
  unfolding built_words
  length_words = length-table _ (built_count c)

  pub length_directory : length (built_directory c) ≡ built_count c
  unfolding built_directory
  length_directory = length-table _ (built_count c)

  pub word_built : (j : ℕ) → j < built_count c → get_or (built_words c) j 0 ≡ word_of (λ i. built_bit c (64 * j + i))
  unfolding built_words
  word_built j l = get_or-table (λ j. word_of (λ i. built_bit c (64 * j + i))) (built_count c) j l

  pub directory_built : (j : ℕ) → j < built_count c → get_or (built_directory c) j 0 ≡ ones_before (built_words c) j
  unfolding built_directory
  directory_built j l = get_or-table (ones_before (built_words c)) (built_count c) j l

  pub words_built : Words (built_words c)
  words_built j = go (dec_lt j (built_count c))
    where
      go : Dec (j < built_count c) → get_or (built_words c) j 0 < 2 ^ 64
      go (yes l) = rw (word_built j l) (word_lt (λ i. built_bit c (64 * j + i)) (λ i. built_bit_le (64 * j + i)))
      go (no n) =
          let past : length (built_words c) ≤ j = omega (arith, length_words) in
          rw (get_or-eq_default (built_words c) 0 past) (pow_pos 64)

  pub bit_built : (y : ℕ) → y < 64 * built_count c → bit (built_words c) y ≡ built_bit c y
  bit_built y l =
      let e : 64 * (y / 64) + y % 64 ≡ y = omega arith in
      let r : y % 64 < 64 = omega arith in
      subst (λ (z : ℕ). bit (built_words c) z ≡ built_bit c z) e
      (bit_in (built_words c) (y / 64) (y % 64) r
      ∙ rw (word_built (y / 64) (omega arith)) (digit_word (λ i. built_bit c (64 * (y / 64) + i)) (λ i. built_bit_le (64 * (y / 64) + i)) (y % 64) r))

-- ---- the ones

-- bit y is the 1 of some unit in some vector
pub record OneOf (c : Listing) (y : ℕ) : Type 0 where
  pub unit : ℕ
  pub from : 1 ≤ unit
  pub to : unit ≤ c.n
  pub q : ℕ
  pub column : q < c.k
  pub other : track c.tracks unit ≡ q → ⊥
  pub at : one_at c unit q ≡ y

module _ (c : Listing) (y : ℕ) where
  pub one_bit : OneOf c y → built_bit c y ≡ 1
  unfolding built_bit
  one_bit o =
      let e : o.unit - 1 + 1 ≡ o.unit = omega (arith, o.from) in
      let l : o.unit - 1 < c.n = omega (arith, o.from, o.to) in
      rw
      (some_yes (one_here c y) c.n (o.unit - 1) l
      (some_yes (λ q. not (eqb q (track c.tracks (o.unit - 1 + 1))) && eqb (one_at c (o.unit - 1 + 1) q) y) c.k o.q o.column
      (rw (e, ne_eqb o.q (track c.tracks o.unit) (λ e. o.other (sym e))) (eq-eqb _ _ o.at))))

  pub bit_one : built_bit c y ≡ 1 → OneOf c y
  unfolding built_bit
  bit_one h = go (true_or_false (some (one_here c y) c.n))
    where
      at_track : (i : ℕ) → i < c.n → (q : ℕ) × (q < c.k) × ((not (eqb q (track c.tracks (i + 1))) && eqb (one_at c (i + 1) q) y) ≡ true) → OneOf c y
      at_track i l r =
          let t = and_both (not (eqb r.0 (track c.tracks (i + 1)))) (eqb (one_at c (i + 1) r.0) y) r.2 in
          record {
            unit = i + 1;
            from = omega arith;
            to = omega arith;
            q = r.0;
            column = r.1;
            other = λ e. eqb-false r.0 (track c.tracks (i + 1)) (not-true _ t.0) (sym e);
            at = eqb-true _ _ t.1;
          }

      go : (some (one_here c y) c.n ≡ true) ⊎ (some (one_here c y) c.n ≡ false) → OneOf c y
      go (inl t) = let r = some_find (one_here c y) c.n t in at_track r.0 r.1 (some_find _ c.k r.2)
      go (inr t) = absurd (let z : ◌≡◌ {A = ℕ} 0 1 = rw t at h in omega arith)

  pub no_bit : (OneOf c y → ⊥) → built_bit c y ≡ 0
  no_bit none = go (dec_lt 0 (built_bit c y))
    where
      go : Dec (0 < built_bit c y) → built_bit c y ≡ 0
      go (yes l) = absurd (none (bit_one (omega (arith, built_bit_le c y))))
      go (no n) = omega arith

-- what the unit at position i of track p needs of track q
abbrev pub lows : Listing → ℕ → ℕ → ℕ → ℕ
lows c p q i = low c (unit_at c.tracks p i) q

module _ (c : Listing) (a : Accepted c) where
  -- the vector of a unit's 1 is that of its track and the other
  one_home : (y : ℕ) → OneOf c y → BitHome (size c.tracks) c.k y
  unfolding one_at
  one_home y o =
      let long : o.unit ≤ length c.tracks = omega (arith, o.to, a.tracks_long) in
      record {
        p = track c.tracks o.unit;
        q = o.q;
        row = track_below c a o.unit o.from o.to;
        column = o.column;
        from = omega (arith, o.at);
        below =
            omega (
              arith,
              o.at,
              position_pos c.tracks o.unit o.from,
              position-size c.tracks o.unit long,
              low-size c a o.unit o.q,
              vector_other (size c.tracks) (track c.tracks o.unit) o.q o.other,
              room_holds (size c.tracks) (track c.tracks o.unit) o.q,
            );
      }

  -- past the vectors there is no 1
  pub past_built : (y : ℕ) → room_bits (size c.tracks) c.k ≤ y → built_bit c y ≡ 0
  past_built y l = no_bit c y (λ o. past (one_home y o))
    where
      past : BitHome (size c.tracks) c.k y → ⊥
      past h = omega (arith, h.below, offset-within (size c.tracks) c.k h.p h.q h.row h.column)

  one_at_lem : (u q : ℕ) {p i : ℕ} → track c.tracks u ≡ p → position c.tracks u ≡ i
      → one_at c u q ≡ offset (size c.tracks) c.k p q + (i + low c u q - 1)
  unfolding one_at
  one_at_lem u q e f = omega (arith, ap (λ z. offset (size c.tracks) c.k z q) e)

  -- a bit of vector p,q
  module _ (p q : ℕ) (row : p < c.k) (column : q < c.k) (other : p ≡ q → ⊥) where
    vector_room_lem : {y : ℕ} → y < size c.tracks p + size c.tracks q → y < vector_room (size c.tracks) p q
    vector_room_lem l = omega (arith, vector_other (size c.tracks) p q other, room_holds (size c.tracks) p q)

    vector-bit : (y : ℕ) → y < size c.tracks p + size c.tracks q
        → vector_of (size c.tracks) c.k (built_words c) p q y ≡ built_bit c (offset (size c.tracks) c.k p q + y)
    unfolding vector_of
    vector-bit y l =
        bit_built c _ (omega (arith, vector_room_lem l, offset-within (size c.tracks) c.k p q row column, words_hold (size c.tracks) c.k))

    lows_at : {i : ℕ} (u : ℕ) → 1 ≤ u → u ≤ c.n → track c.tracks u ≡ p → position c.tracks u ≡ i → lows c p q i ≡ low c u q
    lows_at {i} u from to e f = ap (λ v. low c v q) (unit_is c.tracks p i u from (omega (arith, a.tracks_long)) e f)

    lows_most : (i : ℕ) → lows c p q i ≤ size c.tracks q
    lows_most i = low-size c a (unit_at c.tracks p i) q

    -- vector p,q has its ones at i + low(unit at i of p, q) - 1
    pub vector_one : (i : ℕ) → 1 ≤ i → i ≤ size c.tracks p → vector_of (size c.tracks) c.k (built_words c) p q (i + lows c p q i - 1) ≡ 1
    vector_one i from to = vector-bit (i + lows c p q i - 1) (omega (arith, lows_most i)) ∙ one_bit c _ (go (unit_found c.tracks p i from to))
      where
        go : UnitAt c.tracks p i → OneOf c (offset (size c.tracks) c.k p q + (i + lows c p q i - 1))
        go w =
            let l : w.unit ≤ c.n = omega (arith, w.to, a.tracks_long) in
            record {
              unit = w.unit;
              from = w.from;
              to = l;
              q = q;
              column = column;
              other = λ e. other (sym w.in_q ∙ e);
              at = rw (lows_at w.unit w.from l w.in_q w.at_i) (one_at_lem w.unit q w.in_q w.at_i);
            }

    -- and nowhere else
    pub vector_only : (y : ℕ) → y < size c.tracks p + size c.tracks q → vector_of (size c.tracks) c.k (built_words c) p q y ≡ 1
        → (i : ℕ) × (1 ≤ i) × (i ≤ size c.tracks p) × (y ≡ i + lows c p q i - 1)
    unfolding one_home
    vector_only y l h = go (bit_one c _ (sym (vector-bit y l) ∙ h))
      where
        here : BitHome (size c.tracks) c.k (offset (size c.tracks) c.k p q + y)
        here = record { p = p; q = q; row = row; column = column; from = omega arith; below = omega (arith, vector_room_lem l) }

        go : OneOf c (offset (size c.tracks) c.k p q + y) → (i : ℕ) × (1 ≤ i) × (i ≤ size c.tracks p) × (y ≡ i + lows c p q i - 1)
        go o =
            let same = bit_home_one (size c.tracks) c.k _ (one_home _ o) here in
            let e : track c.tracks o.unit ≡ p = same.0 in
            let d : o.q ≡ q = same.1 in
            let long : o.unit ≤ length c.tracks = omega (arith, o.to, a.tracks_long) in (
              position c.tracks o.unit,
              position_pos c.tracks o.unit o.from,
              omega (arith, position-size c.tracks o.unit long, ap (size c.tracks) e),
              omega (arith, o.at, ap (one_at c o.unit) d, one_at_lem o.unit q e refl, lows_at o.unit o.from o.to e refl),
            )

    rises : sound_verdict c ≡ Ok tt → (i j : ℕ) → 1 ≤ i → i < j → j ≤ size c.tracks p → lows c p q i ≤ lows c p q j
    rises sound i j from up to = go (unit_found c.tracks p i from (omega arith)) (unit_found c.tracks p j (omega arith) to)
      where
        go : UnitAt c.tracks p i → UnitAt c.tracks p j → lows c p q i ≤ lows c p q j
        go v w =
            let vn : v.unit ≤ c.n = omega (arith, v.to, a.tracks_long) in
            let wn : w.unit ≤ c.n = omega (arith, w.to, a.tracks_long) in
            rw (lows_at v.unit v.from vn v.in_q v.at_i, lows_at w.unit w.from wn w.in_q w.at_i)
            (low_rises c a sound v.unit w.unit q v.from wn (v.in_q ∙ sym w.in_q) (omega (arith, v.at_i, w.at_i)))

-- ---- the vectors

module _ (c : Listing) where
  pub sizes_built : (q : ℕ) → q < 32 → sizes (built_index c) q ≡ size c.tracks q
  unfolding built_index built_head
  sizes_built q l = get_or-table (size c.tracks) 32 q l

module _ (c : Listing) (a : Accepted c) where
  -- the layout of the built index is that of the listing
  same_sizes : (q : ℕ) → q < c.k → sizes (built_index c) q ≡ size c.tracks q
  same_sizes q l = sizes_built c q (omega (arith, a.k_in))

  pub count_built : word_count (sizes (built_index c)) c.k ≡ built_count c
  count_built = words_same (sizes (built_index c)) (size c.tracks) c.k same_sizes

  pub room_built : room_bits (sizes (built_index c)) c.k ≡ room_bits (size c.tracks) c.k
  room_built = room_bits_same (sizes (built_index c)) (size c.tracks) c.k same_sizes

  vectors_same : (p q : ℕ) → p < c.k → q < c.k → vector (built_index c) p q ≡ vector_of (size c.tracks) c.k (built_words c) p q
  unfolding built_index built_head vector_of
  vectors_same p q row column =
      ap {B = ℕ → ℕ} (λ o y. bit (built_words c) (o + y)) (offset_same (sizes (built_index c)) (size c.tracks) c.k same_sizes p q row (omega arith))

  -- the lengths add up to the units
  pub units_built : sum (size c.tracks) c.k ≡ c.n
  units_built = sizes_all c.tracks c.k (λ i l. a.tracks_below i (omega (arith, a.tracks_long))) ∙ a.tracks_long

  pub bits_built : built_bits c ≡ 2 * (c.n * (c.k - 1))
  unfolding built_bits
  bits_built = meant_bits_lem (size c.tracks) c.k ∙ ap (λ m. 2 * (m * (c.k - 1))) units_built

  pub ones_few : ones_before (built_words c) (built_count c) < 65536
  ones_few =
      let few : word_count (size c.tracks) c.k ≤ 992 = words_most (size c.tracks) c.k (omega (arith, units_built, a.n_in)) (omega (arith, a.k_in)) in
      omega (arith, ones_before_le (built_words c) (words_built c) (built_count c))

module _ (c : Listing) (a : Accepted c) (sound : sound_verdict c ≡ Ok tt) where
  -- so the vector reads as the lows of the units of p
  pub vector_built : (p q : ℕ) → p < c.k → q < c.k → (p ≡ q → ⊥)
      → FromLow (vector (built_index c) p q) (lows c p q) (sizes (built_index c) p) (sizes (built_index c) q)
  vector_built p q row column other =
      rw (vectors_same c a p q row column, same_sizes c a p row, same_sizes c a q column)
      (vector_from_low (vector_of (size c.tracks) c.k (built_words c) p q) (lows c p q) (size c.tracks p) (size c.tracks q)
      (vector_le (size c.tracks) c.k (built_words c) p q)
      (rises c a p q row column other sound)
      (λ i from to. lows_most c a p q row column other i)
      (vector_one c a p q row column other)
      (vector_only c a p q row column other))

  -- ---- the built index is whole

  -- no unit is of a track past the last
  size_beyond : (q : ℕ) → c.k ≤ q → size c.tracks q ≡ 0
  size_beyond q l = go (dec_lt 0 (size c.tracks q))
    where
      none : UnitAt c.tracks q 1 → ⊥
      none w = omega (arith, track_below c a w.unit w.from (omega (arith, w.to, a.tracks_long)), w.in_q)

      go : Dec (0 < size c.tracks q) → size c.tracks q ≡ 0
      go (yes h) = absurd (none (unit_found c.tracks q 1 (omega arith) h))
      go (no n) = omega arith

  pub whole_built : Whole (built_index c)
  unfolding built_index built_head
  whole_built = record {
    n_in = a.n_in;
    k_in = a.k_in;
    tracks_long = a.tracks_long;
    tracks_below = a.tracks_below;
    lengths = sizes_built c;
    used = λ q l. rw (same_sizes c a q l) (a.tracks_used q l);
    beyond = λ q l h. sizes_built c q h ∙ size_beyond q l;
    words_reach = omega (arith, count_built c a, length_words c);
    directory_reach = omega (arith, count_built c a, length_directory c);
    spare = λ y l h. bit_built c y (omega (arith, count_built c a)) ∙ past_built c a y (omega (arith, room_built c a));
    true_there = λ j l. directory_built c j (omega (arith, count_built c a));
    ones = record { each = λ p q row column other. (vector_built p q row column other).ones };
  }

  pub built_whole : whole (built_index c) ≡ true
  built_whole = is_whole (built_index c) whole_built

  -- ---- low and high

  pub low_built : (u q : ℕ) → 1 ≤ u → u ≤ c.n → q < c.k → low_in (built_index c) u q ≡ low c u q
  unfolding built_index built_head
  low_built u q u1 un column = go (ℕ_discrete (track c.tracks u) q)
    where
      go : Dec (track c.tracks u ≡ q) → low_in (built_index c) u q ≡ low c u q
      go (yes e) =
          low_at_own (sizes (built_index c)) c.k (built_words c) (track c.tracks u) q (position c.tracks u) e
          ∙ omega (arith, sound_own c a sound u u1 un, ap (low c u) e)
      go (no n) =
          let p = track c.tracks u in
          let row = unit_track (built_index c) whole_built u u1 un in
          let i = unit_position (built_index c) whole_built u u1 un in
          let long : u ≤ length c.tracks = omega (arith, a.tracks_long) in
          low_at_other (sizes (built_index c)) c.k (built_words c) p q (position c.tracks u) n
          ∙ (vector_built p q row column n).low (position c.tracks u) i.0 i.1
          ∙ ap (λ v. low c v q) (unit_is c.tracks p (position c.tracks u) u u1 long refl refl)

  pub kind10_built : (u v : ℕ) → 1 ≤ u → u ≤ c.n → 1 ≤ v → v ≤ c.n → kind10 (built_index c) u v ≡ needs c.needs u v
  unfolding built_index kind10_by
  kind10_built u v u1 un v1 vn =
      ap (leb (position c.tracks v)) (low_built u (track c.tracks v) u1 un (track_below c a v v1 vn)) ∙ sym (needs-low c a sound u v v1 vn)

  -- where each unit from f on stands from g on, g is not above f: the unit at f tells
  high_le : (f g : ℕ → ℕ) (q : ℕ)
      → ((w : ℕ) → 1 ≤ w → w ≤ c.n → f (track c.tracks w) ≤ position c.tracks w → g (track c.tracks w) ≤ position c.tracks w)
      → 1 ≤ f q → g q ≤ size c.tracks q + 1 → g q ≤ f q
  high_le f g q h from most = go (dec_le (f q) (size c.tracks q))
    where
      at_unit : UnitAt c.tracks q (f q) → g q ≤ f q
      at_unit w =
          omega (arith, h w.unit w.from (omega (arith, w.to, a.tracks_long)) (omega (arith, w.at_i, ap f w.in_q)), w.at_i, ap g w.in_q)

      go : Dec (f q ≤ size c.tracks q) → g q ≤ f q
      go (yes l) = at_unit (unit_found c.tracks q (f q) from l)
      go (no n) = omega arith

  pub high_built : (u q : ℕ) → 1 ≤ u → u ≤ c.n → q < c.k → high_in (built_index c) u q ≡ high c u q
  unfolding built_index built_head
  high_built u q u1 un column =
      le_antisymm
      (high_le (high c u) (high_in (built_index c) u) q (λ w w1 wn l. leb-true _ _ (same w w1 wn ∙ le-leb _ _ l)) (high_pos c a sound u q) (omega (arith, in_most, same_sizes c a q column)))
      (high_le (high_in (built_index c) u) (high c u) q (λ w w1 wn l. leb-true _ _ (sym (same w w1 wn) ∙ le-leb _ _ l)) in_most.0 (high_most c a sound u q))
    where
      in_most : (1 ≤ high_in (built_index c) u q) × (high_in (built_index c) u q ≤ sizes (built_index c) q + 1)
      in_most = high_in_most (built_index c) whole_built u u1 un q column

      same : (w : ℕ) → 1 ≤ w → w ≤ c.n
          → leb (high_in (built_index c) u (track c.tracks w)) (position c.tracks w) ≡ leb (high c u (track c.tracks w)) (position c.tracks w)
      same w w1 wn =
          sym (needs_by_high (built_index c) whole_built u w u1 un w1 wn) ∙ kind10_built w u w1 wn u1 un ∙ needs-high c a sound u w u1 w1 wn

  pub kind11_built : (u v : ℕ) → 1 ≤ u → u ≤ c.n → 1 ≤ v → v ≤ c.n → kind11 (built_index c) u v ≡ step c.needs u v
  unfolding built_index built_head kind11_by
  kind11_built u v u1 un v1 vn =
      rw
      (kind10_built u v u1 un v1 vn ∙ needs-low c a sound u v v1 vn, every_same (λ p. ltb (low_in (built_index c) u p) (high_in (built_index c) v p)) (λ p. ltb (low c u p) (high c v p)) c.k each)
      (sym (step-between c a sound u v v1 vn))
    where
      each : (p : ℕ) → p < c.k → ltb (low_in (built_index c) u p) (high_in (built_index c) v p) ≡ ltb (low c u p) (high c v p)
      each p row = rw (low_built u p u1 un row, high_built v p v1 vn row)

-- ---- the work area

pub length_work : (c : Listing) → length (built_work c) ≡ c.n * c.k
unfolding built_work
length_work c = length-rows (λ i q. low c (i + 1) q) c.k c.n
