-- A whole index, built or not: the seven conditions as facts, low and high of each unit, and kinds 10 to 15 by the few units that can answer.
-- Of the words only that each vector has its ones is used (Vectors); the rest is the order of numbers. Assumes nothing.
use Prim.Native.Nat.{ℕ, suc, ◌+◌, ◌-◌, ◌*◌, ◌≤◌, ◌<◌}
use mathlib.Core.Path.{◌≡◌, refl, sym, ap, ◌∙◌}
use mathlib.Core.Bool.{Bool, true, false, cond, not, ◌&&◌}
use mathlib.Core.List.{List, ◌∷◌}
use native.Mathlib.Omega.{arith}
use native.Mathlib.Decide.{dec_lt, ℕ_discrete}
use lib.ListN.{length, get_or}
use lib.Dec.{leb, ltb, eqb}
use borrow.Author.Tests.{lt-ltb, le-ltb, ltb-true, le-leb, lt-leb, leb-true, eq-eqb, ne_eqb, eqb-true}
use Rattle.rules.specs.Ranges.{sum, every}
use Rattle.rules.specs.Limits.{max_units, max_tracks}
use Rattle.rules.specs.Listing.{track, size, position, within}
use Rattle.rules.specs.Layout.{vector_bits, room_bits, word_count}
use Rattle.rules.specs.Bits.{bit, ones_before}
use Rattle.rules.specs.Index.{Index, sizes, vector, low_at, low_in, high_in, in_range, tracks_fit, lengths_true, areas_reach, spare_clear, directory_true, vectors_true, conditions, first_failing, fault, whole}
use Rattle.rules.specs.Questions.{kind10_by, kind11_by, kind10, kind11}
use Rattle.rules.proofs.Ranges.{sum_none, sum_same, every_all, every_one, every_same}
use Rattle.rules.proofs.Verdicts.{and_both, both_and, and_no, same_test, within_is, is_within}
use Rattle.rules.proofs.Layouts.{vector_own, vector_other}
use Rattle.rules.proofs.Vectors.{OnesTrue, low_at_own, high_at_own, low_at_most, high_at_most, low-high}
use Rattle.rules.proofs.Tracks.{position_pos, position-size, sizes_all, UnitAt, unit_found}

-- ---- the seven conditions as facts

pub record Whole (x : Index) : Type 0 where
  pub n_in : (1 ≤ x.head.n) × (x.head.n ≤ 1024)
  pub k_in : (1 ≤ x.head.k) × (x.head.k ≤ 32)
  pub tracks_long : length x.tracks ≡ x.head.n
  pub tracks_below : (i : ℕ) → i < x.head.n → get_or x.tracks i 0 < x.head.k
  pub lengths : (q : ℕ) → q < 32 → sizes x q ≡ size x.tracks q
  pub used : (q : ℕ) → q < x.head.k → 1 ≤ sizes x q
  pub beyond : (q : ℕ) → x.head.k ≤ q → q < 32 → sizes x q ≡ 0
  pub words_reach : word_count (sizes x) x.head.k ≤ length x.words
  pub directory_reach : word_count (sizes x) x.head.k ≤ length x.directory
  pub spare : (y : ℕ) → room_bits (sizes x) x.head.k ≤ y → y < 64 * word_count (sizes x) x.head.k → bit x.words y ≡ 0
  pub true_there : (j : ℕ) → j < word_count (sizes x) x.head.k → get_or x.directory j 0 ≡ ones_before x.words j
  pub ones : OnesTrue (sizes x) x.head.k x.words

-- the first condition that fails has a number above 0, so 0 says that this one holds, and so do the others
failing_none : (number : ℕ) (b : Bool) (holds : List Bool) → 1 ≤ number → first_failing number (b ∷ holds) ≡ 0 → (b ≡ true) × (first_failing (suc number) holds ≡ 0)
unfolding first_failing
failing_none number true holds l h = (refl, h)
failing_none number false holds l h = absurd (omega arith)

module _ (x : Index) where
  pub fault_zero : whole x ≡ true → fault x ≡ 0
  unfolding whole
  fault_zero h = eqb-true (fault x) 0 h

  pub zero_fault : fault x ≡ 0 → whole x ≡ true
  unfolding whole
  zero_fault h = eq-eqb (fault x) 0 h

  -- the seven tests, each passed
  record Passed : Type 0 where
    first : in_range x.head.n x.head.k ≡ true
    second : tracks_fit x.head.n x.head.k x.tracks ≡ true
    third : lengths_true x.head.lens x.head.k x.tracks ≡ true
    fourth : areas_reach (sizes x) x.head.k x.words x.directory ≡ true
    fifth : spare_clear (sizes x) x.head.k x.words ≡ true
    sixth : directory_true (sizes x) x.head.k x.words x.directory ≡ true
    seventh : vectors_true (sizes x) x.head.k x.words ≡ true

  passed : fault x ≡ 0 → Passed
  unfolding fault conditions
  passed h =
      let a = failing_none 1 _ _ (omega arith) h in
      let b = failing_none 2 _ _ (omega arith) a.1 in
      let c = failing_none 3 _ _ (omega arith) b.1 in
      let d = failing_none 4 _ _ (omega arith) c.1 in
      let e = failing_none 5 _ _ (omega arith) d.1 in
      let f = failing_none 6 _ _ (omega arith) e.1 in
      let g = failing_none 7 _ _ (omega arith) f.1 in
      record { first = a.0; second = b.0; third = c.0; fourth = d.0; fifth = e.0; sixth = f.0; seventh = g.0 }

  all_passed : Passed → fault x ≡ 0
  unfolding fault conditions first_failing
  all_passed t = rw (t.first, t.second, t.third, t.fourth, t.fifth, t.sixth, t.seventh)

  -- what the second, the third and the seventh test ask of one number
  fits_at : ℕ → Bool
  fits_at i = ltb (get_or x.tracks i 0) x.head.k

  length_at : ℕ → Bool
  length_at q = eqb (sizes x q) (size x.tracks q) && cond (ltb q x.head.k) (leb 1 (sizes x q)) (eqb (sizes x q) 0)

  vector_at : ℕ → ℕ → Bool
  vector_at p q = eqb (sum (vector x p q) (vector_bits (sizes x) p q)) (cond (eqb p q) 0 (sizes x p))

  passed_whole : Passed → Whole x
  unfolding in_range tracks_fit lengths_true areas_reach spare_clear directory_true vectors_true fits_at length_at vector_at
  passed_whole t = record {
    n_in = within_is 1 max_units x.head.n ranges.0;
    k_in = within_is 1 max_tracks x.head.k ranges.1;
    tracks_long = eqb-true _ _ fits.0;
    tracks_below = λ i l. ltb-true _ _ (every_one fits_at x.head.n i fits.1 l);
    lengths = λ q l. eqb-true _ _ (lens q l).0;
    used = λ q l. leb-true 1 (sizes x q) (rw (lt-ltb q x.head.k l) at (lens q (omega (arith, within_is 1 max_tracks x.head.k ranges.1))).1);
    beyond = λ q l h. eqb-true (sizes x q) 0 (rw (le-ltb q x.head.k l) at (lens q h).1);
    words_reach = leb-true _ _ areas.0;
    directory_reach = leb-true _ _ areas.1;
    spare = spare;
    true_there = λ j l. eqb-true _ _ (every_one (λ j. eqb (get_or x.directory j 0) (ones_before x.words j)) (word_count (sizes x) x.head.k) j t.sixth l);
    ones = record { each = ones };
  }
    where
      ranges : (within 1 max_units x.head.n ≡ true) × (within 1 max_tracks x.head.k ≡ true)
      ranges = and_both _ _ t.first

      fits : (eqb (length x.tracks) x.head.n ≡ true) × (every fits_at x.head.n ≡ true)
      fits = and_both _ _ t.second

      lens : (q : ℕ) → q < 32
          → (eqb (sizes x q) (size x.tracks q) ≡ true) × (cond (ltb q x.head.k) (leb 1 (sizes x q)) (eqb (sizes x q) 0) ≡ true)
      lens q l = and_both _ _ (every_one length_at max_tracks q t.third l)

      areas : (leb (word_count (sizes x) x.head.k) (length x.words) ≡ true) × (leb (word_count (sizes x) x.head.k) (length x.directory) ≡ true)
      areas = and_both _ _ t.fourth

      spare : (y : ℕ) → room_bits (sizes x) x.head.k ≤ y → y < 64 * word_count (sizes x) x.head.k → bit x.words y ≡ 0
      spare y l h =
          let e : room_bits (sizes x) x.head.k + (y - room_bits (sizes x) x.head.k) ≡ y = omega arith in
          let t' : eqb (bit x.words (room_bits (sizes x) x.head.k + (y - room_bits (sizes x) x.head.k))) 0 ≡ true =
          every_one (λ i. eqb (bit x.words (room_bits (sizes x) x.head.k + i)) 0) _ (y - room_bits (sizes x) x.head.k) t.fifth (omega arith) in
          eqb-true _ _ (rw e at t')

      ones : (p q : ℕ) → p < x.head.k → q < x.head.k → (p ≡ q → ⊥) → sum (vector x p q) (sizes x p + sizes x q) ≡ sizes x p
      ones p q l h n =
          let t' : vector_at p q ≡ true = every_one (vector_at p) x.head.k q (every_one (λ p. every (vector_at p) x.head.k) x.head.k p t.seventh l) h in
          eqb-true _ _ (rw (vector_other (sizes x) p q n, ne_eqb p q n) at t')

  whole_passed : Whole x → Passed
  unfolding in_range tracks_fit lengths_true areas_reach spare_clear directory_true vectors_true fits_at length_at vector_at
  whole_passed good = record {
    first = both_and (is_within good.n_in.0 good.n_in.1) (is_within good.k_in.0 good.k_in.1);
    second = both_and (eq-eqb _ _ good.tracks_long) (every_all fits_at x.head.n (λ i l. lt-ltb _ _ (good.tracks_below i l)));
    third = every_all length_at max_tracks (λ q l. both_and (eq-eqb _ _ (good.lengths q l)) (lens q l (dec_lt q x.head.k)));
    fourth = both_and (le-leb _ _ good.words_reach) (le-leb _ _ good.directory_reach);
    fifth = every_all (λ i. eqb (bit x.words (room_bits (sizes x) x.head.k + i)) 0) _ (λ i l. eq-eqb _ _ (good.spare (room_bits (sizes x) x.head.k + i) (omega arith) (omega arith)));
    sixth = every_all (λ j. eqb (get_or x.directory j 0) (ones_before x.words j)) _ (λ j l. eq-eqb _ _ (good.true_there j l));
    seventh = every_all (λ p. every (vector_at p) x.head.k) x.head.k (λ p l. every_all (vector_at p) x.head.k (λ q h. eq-eqb _ _ (counts p q l h (ℕ_discrete p q))));
  }
    where
      lens : (q : ℕ) → q < 32 → Dec (q < x.head.k) → cond (ltb q x.head.k) (leb 1 (sizes x q)) (eqb (sizes x q) 0) ≡ true
      lens q l (yes h) = rw (lt-ltb q x.head.k h) (le-leb 1 (sizes x q) (good.used q h))
      lens q l (no n) = rw (le-ltb q x.head.k (omega arith)) (eq-eqb (sizes x q) 0 (good.beyond q (omega arith) l))

      counts : (p q : ℕ) → p < x.head.k → q < x.head.k → Dec (p ≡ q) → sum (vector x p q) (vector_bits (sizes x) p q) ≡ cond (eqb p q) 0 (sizes x p)
      counts p q l h (yes e) = rw (eq-eqb p q e, e, vector_own (sizes x) q) (sum_none (vector x q q))
      counts p q l h (no n) = rw (ne_eqb p q n, vector_other (sizes x) p q n) (good.ones.each p q l h n)

  pub whole_is : whole x ≡ true → Whole x
  whole_is h = passed_whole (passed (fault_zero h))

  pub is_whole : Whole x → whole x ≡ true
  is_whole good = zero_fault (all_passed (whole_passed good))

-- ---- units

module _ (x : Index) (good : Whole x) where
  pub unit_track : (u : ℕ) → 1 ≤ u → u ≤ x.head.n → track x.tracks u < x.head.k
  unfolding track
  unit_track u u1 un = good.tracks_below (u - 1) (omega arith)

  pub sizes_are : (q : ℕ) → q < x.head.k → sizes x q ≡ size x.tracks q
  sizes_are q h = good.lengths q (omega (arith, good.k_in))

  pub unit_position : (u : ℕ) → 1 ≤ u → u ≤ x.head.n
      → (1 ≤ position x.tracks u) × (position x.tracks u ≤ sizes x (track x.tracks u))
  unit_position u u1 un =
      let l : u ≤ length x.tracks = omega (arith, good.tracks_long) in
      omega (arith, position_pos x.tracks u u1, position-size x.tracks u l, sizes_are (track x.tracks u) (unit_track u u1 un))

  pub units_sum : sum (sizes x) x.head.k ≡ x.head.n
  units_sum =
      sum_same (sizes x) (size x.tracks) x.head.k sizes_are
      ∙ sizes_all x.tracks x.head.k (λ i l. good.tracks_below i (omega (arith, good.tracks_long)))
      ∙ good.tracks_long

-- ---- the questions

ltb-not : (a b : ℕ) → ltb a b ≡ not (leb b a)
ltb-not a b = go (dec_lt a b)
  where
    go : Dec (a < b) → ltb a b ≡ not (leb b a)
    go (yes l) = lt-ltb a b l ∙ ap not (sym (lt-leb b a l))
    go (no n) = let l : b ≤ a = omega arith in le-ltb a b l ∙ ap not (sym (le-leb b a l))

module _ (x : Index) (u : ℕ) where
  pub low_in_own : low_in x u (track x.tracks u) ≡ position x.tracks u - 1
  low_in_own = low_at_own (sizes x) x.head.k x.words _ _ (position x.tracks u) refl

  pub high_in_own : high_in x u (track x.tracks u) ≡ position x.tracks u + 1
  high_in_own = high_at_own (sizes x) x.head.k x.words _ _ (position x.tracks u) refl

module _ (x : Index) (good : Whole x) (u : ℕ) (u1 : 1 ≤ u) (un : u ≤ x.head.n) where
  pub low_in_most : (q : ℕ) → q < x.head.k → low_in x u q ≤ sizes x q
  low_in_most q h =
      let i = unit_position x good u u1 un in
      low_at_most good.ones (track x.tracks u) q (unit_track x good u u1 un) h (position x.tracks u) i.0 i.1

  pub high_in_most : (q : ℕ) → q < x.head.k → (1 ≤ high_in x u q) × (high_in x u q ≤ sizes x q + 1)
  high_in_most q h =
      let i = unit_position x good u u1 un in
      high_at_most good.ones q (track x.tracks u) h (unit_track x good u u1 un) (position x.tracks u) i.0 i.1

  -- position i of track p reaches down to u exactly from high(u, p) on
  pub reaches_from_high : (p i : ℕ) → p < x.head.k → 1 ≤ i → i ≤ sizes x p
      → leb (position x.tracks u) (low_at (sizes x) x.head.k x.words p i (track x.tracks u)) ≡ leb (high_in x u p) i
  reaches_from_high p i row i1 ip =
      let j = unit_position x good u u1 un in
      low-high good.ones p (track x.tracks u) row (unit_track x good u u1 un) i (position x.tracks u) i1 ip j.0 j.1

-- kinds 10 and 11 as facts
module _ (x : Index) (u v : ℕ) where
  pub kind10_is : kind10 x u v ≡ true → position x.tracks v ≤ low_in x u (track x.tracks v)
  unfolding kind10_by
  kind10_is h = leb-true _ _ h

  pub is_kind10 : position x.tracks v ≤ low_in x u (track x.tracks v) → kind10 x u v ≡ true
  unfolding kind10_by
  is_kind10 h = le-leb _ _ h

  pub kind11_is : kind11 x u v ≡ true → (kind10 x u v ≡ true) × ((p : ℕ) → p < x.head.k → low_in x u p < high_in x v p)
  unfolding kind11_by
  kind11_is h =
      let r = and_both (kind10 x u v) (every (λ p. ltb (low_in x u p) (high_in x v p)) x.head.k) h in
      (r.0, λ p row. ltb-true _ _ (every_one (λ p. ltb (low_in x u p) (high_in x v p)) x.head.k p r.1 row))

  pub is_kind11 : kind10 x u v ≡ true → ((p : ℕ) → p < x.head.k → low_in x u p < high_in x v p) → kind11 x u v ≡ true
  unfolding kind11_by
  is_kind11 h each = both_and h (every_all (λ p. ltb (low_in x u p) (high_in x v p)) x.head.k (λ p row. lt-ltb _ _ (each p row)))

module _ (x : Index) (good : Whole x) (u v : ℕ) (u1 : 1 ≤ u) (un : u ≤ x.head.n) (v1 : 1 ≤ v) (vn : v ≤ x.head.n) where
  -- kind 13: v needs u exactly from high(u, track of v) on
  pub needs_by_high : kind10 x v u ≡ leb (high_in x u (track x.tracks v)) (position x.tracks v)
  unfolding kind10_by
  needs_by_high =
      let i = unit_position x good v v1 vn in
      reaches_from_high x good u u1 un (track x.tracks v) (position x.tracks v) (unit_track x good v v1 vn) i.0 i.1

-- a unit stands at low(u, p), and it needs v
abbrev pub low_blocks : Index → ℕ → ℕ → ℕ → Bool
low_blocks x u v p =
    leb 1 (low_in x u p) && leb (position x.tracks v) (low_at (sizes x) x.head.k x.words p (low_in x u p) (track x.tracks v))

-- a unit stands at high(u, p), and v needs it
abbrev pub high_blocks : Index → ℕ → ℕ → ℕ → Bool
high_blocks x u v p = leb (high_in x u p) (sizes x p) && leb (high_in x u p) (low_in x v p)

module _ (x : Index) (good : Whole x) (u v : ℕ) (u1 : 1 ≤ u) (un : u ≤ x.head.n) (v1 : 1 ≤ v) (vn : v ≤ x.head.n) where
  -- low(u, p) is below high(v, p) exactly when no unit at low(u, p) needs v
  low_clear : (p : ℕ) → p < x.head.k → ltb (low_in x u p) (high_in x v p) ≡ not (low_blocks x u v p)
  low_clear p row = go (low_in x u p) (low_in_most x good u u1 un p row) (dec_lt 0 (low_in x u p))
    where
      go : (i : ℕ) → i ≤ sizes x p → Dec (0 < i)
          → ltb i (high_in x v p) ≡ not (leb 1 i && leb (position x.tracks v) (low_at (sizes x) x.head.k x.words p i (track x.tracks v)))
      go i l (yes from) =
          rw (le-leb 1 i from)
          (ltb-not i (high_in x v p) ∙ ap not (sym (reaches_from_high x good v v1 vn p i row from l)))
      go i l (no n) =
          let none : i < 1 = omega arith in
          rw (lt-leb 1 i none) (lt-ltb i (high_in x v p) (omega (arith, high_in_most x good v v1 vn p row)))

  -- kind 11: u needs v, and no unit at low(u, p) needs v
  pub step_blocks : kind11 x u v ≡ (kind10 x u v && every (λ p. not (low_blocks x u v p)) x.head.k)
  unfolding kind11_by
  step_blocks = ap (λ b. kind10 x u v && b) (every_same _ _ x.head.k low_clear)

  -- kind 14: a direct step of u stands at low(u, its track)
  pub step_is_low : kind11 x u v ≡ true → position x.tracks v ≡ low_in x u (track x.tracks v)
  step_is_low h =
      let r = kind11_is x u v h in
      omega (arith, kind10_is x u v r.0, r.1 (track x.tracks v) (unit_track x good v v1 vn), high_in_own x v)

  pub step_at-low : kind11 x u v
      ≡ (eqb (position x.tracks v) (low_in x u (track x.tracks v)) && every (λ p. not (low_blocks x u v p)) x.head.k)
  step_at-low = same_test _ _ to from
    where
      to : kind11 x u v ≡ true → (eqb (position x.tracks v) (low_in x u (track x.tracks v)) && every (λ p. not (low_blocks x u v p)) x.head.k) ≡ true
      to h = both_and (eq-eqb _ _ (step_is_low h)) (and_both (kind10 x u v) _ (sym step_blocks ∙ h)).1

      from : (eqb (position x.tracks v) (low_in x u (track x.tracks v)) && every (λ p. not (low_blocks x u v p)) x.head.k) ≡ true → kind11 x u v ≡ true
      from h =
          let r = and_both (eqb (position x.tracks v) (low_in x u (track x.tracks v))) _ h in
          step_blocks ∙ both_and (is_kind10 x u v (let e : position x.tracks v ≡ low_in x u (track x.tracks v) = eqb-true _ _ r.0 in omega arith)) r.1

  -- low(v, p) is below high(u, p) exactly when v needs no unit at high(u, p)
  high_clear : (p : ℕ) → p < x.head.k → ltb (low_in x v p) (high_in x u p) ≡ not (high_blocks x u v p)
  high_clear p row = go (dec_lt (low_in x v p) (high_in x u p))
    where
      go : Dec (low_in x v p < high_in x u p) → ltb (low_in x v p) (high_in x u p) ≡ not (high_blocks x u v p)
      go (yes l) = lt-ltb _ _ l ∙ ap not (sym (and_no (leb (high_in x u p) (sizes x p)) (lt-leb (high_in x u p) (low_in x v p) l)))
      go (no n) =
          let l : high_in x u p ≤ low_in x v p = omega arith in
          let m : high_in x u p ≤ sizes x p = omega (arith, low_in_most x good v v1 vn p row) in
          le-ltb _ _ l ∙ ap not (sym (both_and (le-leb _ _ m) (le-leb _ _ l)))

  -- kind 15: v, of which u is a direct step, stands at high(u, its track), and needs no unit at high(u, p)
  pub step_at-high : kind11 x v u
      ≡ (eqb (position x.tracks v) (high_in x u (track x.tracks v)) && every (λ p. not (high_blocks x u v p)) x.head.k)
  step_at-high = same_test _ _ to from
    where
      to : kind11 x v u ≡ true → (eqb (position x.tracks v) (high_in x u (track x.tracks v)) && every (λ p. not (high_blocks x u v p)) x.head.k) ≡ true
      to h =
          let r = kind11_is x v u h in
          let from-high : high_in x u (track x.tracks v) ≤ position x.tracks v = leb-true _ _ (sym (needs_by_high x good u v u1 un v1 vn) ∙ r.0) in
          let e : position x.tracks v ≡ high_in x u (track x.tracks v) =
          omega (arith, r.1 (track x.tracks v) (unit_track x good v v1 vn), low_in_own x v) in
          both_and (eq-eqb _ _ e) (every_all (λ p. not (high_blocks x u v p)) x.head.k (λ p row. sym (high_clear p row) ∙ lt-ltb _ _ (r.1 p row)))

      from : (eqb (position x.tracks v) (high_in x u (track x.tracks v)) && every (λ p. not (high_blocks x u v p)) x.head.k) ≡ true → kind11 x v u ≡ true
      from h =
          let r = and_both (eqb (position x.tracks v) (high_in x u (track x.tracks v))) _ h in
          let e : position x.tracks v ≡ high_in x u (track x.tracks v) = eqb-true _ _ r.0 in
          let l : high_in x u (track x.tracks v) ≤ position x.tracks v = omega arith in
          is_kind11 x v u (needs_by_high x good u v u1 un v1 vn ∙ le-leb _ _ l)
          (λ p row. ltb-true _ _ (high_clear p row ∙ every_one (λ p. not (high_blocks x u v p)) x.head.k p r.1 row))

  -- kind 11: u needs v, and no third unit lies between
  pub step_alone : kind11 x u v ≡ true → (w : ℕ) → 1 ≤ w → w ≤ x.head.n → kind10 x u w ≡ true → kind10 x w v ≡ true → ⊥
  step_alone h w w1 wn a b =
      let from : high_in x v (track x.tracks w) ≤ position x.tracks w = leb-true _ _ (sym (needs_by_high x good v w v1 vn w1 wn) ∙ b) in
      omega (arith, kind10_is x u w a, (kind11_is x u v h).1 (track x.tracks w) (unit_track x good w w1 wn))

  pub alone_step : kind10 x u v ≡ true → ((w : ℕ) → 1 ≤ w → w ≤ x.head.n → kind10 x u w ≡ true → kind10 x w v ≡ true → ⊥) → kind11 x u v ≡ true
  alone_step h none = is_kind11 x u v h (λ p row. go p row (dec_lt (low_in x u p) (high_in x v p)))
    where
      between : (p : ℕ) → p < x.head.k → high_in x v p ≤ low_in x u p → UnitAt x.tracks p (low_in x u p) → ⊥
      between p row l w =
          let wn : w.unit ≤ x.head.n = omega (arith, w.to, good.tracks_long) in
          let a : position x.tracks w.unit ≤ low_in x u (track x.tracks w.unit) = omega (arith, w.at_i, ap (low_in x u) w.in_q) in
          let b : high_in x v (track x.tracks w.unit) ≤ position x.tracks w.unit = omega (arith, w.at_i, ap (high_in x v) w.in_q) in
          none w.unit w.from wn (is_kind10 x u w.unit a) (needs_by_high x good v w.unit v1 vn w.from wn ∙ le-leb _ _ b)

      go : (p : ℕ) → p < x.head.k → Dec (low_in x u p < high_in x v p) → low_in x u p < high_in x v p
      go p row (yes l) = l
      go p row (no n) =
          absurd
          (between p row (omega arith)
          (unit_found x.tracks p (low_in x u p) (omega (arith, high_in_most x good v v1 vn p row)) (omega (arith, low_in_most x good u u1 un p row, sizes_are x good p row))))
