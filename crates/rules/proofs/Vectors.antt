-- The vectors among the words, of k tracks of lengths s: the ones up to each, and low and high at a position, where vector p,q has as many ones as p
-- has units. Its 1s are the positions of p and its 0s those of q, so each low of p in q is a high of q in p read the other way; the rest is the order
-- of their places. Assumes nothing.
use Prim.Native.Nat.{ℕ, zero, suc, ◌+◌, ◌-◌, ◌*◌, ◌≤◌, ◌<◌}
use mathlib.Core.Path.{◌≡◌, sym, ap}
use mathlib.Core.List.{List}
use native.Mathlib.Omega.{arith}
use native.Mathlib.Numerals.{add-one}
use native.Mathlib.Nat.{mul-add, mul-zero}
use native.Mathlib.Decide.{ℕ_discrete}
use lib.Dec.{leb, ltb}
use borrow.Author.Tests.{lt-ltb, ltb-true, le-leb, leb-true, eq-eqb, ne_eqb}
use Rattle.rules.specs.Ranges.{sum, bit1}
use Rattle.rules.specs.Layout.{vector_bits, offset}
use Rattle.rules.specs.Bits.{rank, place_of_one, place_of_zero}
use Rattle.rules.specs.Index.{vector_of, low_at, high_at}
use Rattle.rules.proofs.Ranges.{sum_none, sum-suc}
use Rattle.rules.proofs.Verdicts.{same_test}
use Rattle.rules.proofs.Bits.{bit_le, rank_le, rank_add}
use Rattle.rules.proofs.Places.{one_place_low, zero_place_low, places_cross, places_cross_back, places_by_rank, places_by_rank_back}
use Rattle.rules.proofs.Layouts.{offset-start, offset_end, offset_row, vector_own, vector_other, ones_in, ones_row, ones_in_row}

-- ---- any words

module _ (s : ℕ → ℕ) (k : ℕ) (ws : List ℕ) (p q : ℕ) where
  pub low_at_own : (i : ℕ) → p ≡ q → low_at s k ws p i q ≡ i - 1
  unfolding low_at
  low_at_own i e = rw (eq-eqb p q e)

  pub high_at_own : (i : ℕ) → p ≡ q → high_at s k ws p i q ≡ i + 1
  unfolding high_at
  high_at_own i e = rw (eq-eqb p q e)

  pub low_at_other : (i : ℕ) → (p ≡ q → ⊥) → low_at s k ws p i q ≡ place_of_one (vector_of s k ws p q) (s p + s q) i - i
  unfolding low_at
  low_at_other i n = rw (ne_eqb p q n, vector_other s p q n)

  pub high_at_other : (j : ℕ) → (q ≡ p → ⊥) → high_at s k ws q j p ≡ place_of_zero (vector_of s k ws p q) (s p + s q) j - j + 1
  unfolding high_at
  high_at_other j n = rw (ne_eqb q p n, vector_other s p q (λ e. n (sym e)))

  -- a unit reaches all that stand before it in its own track
  pub low_by_order : (i j : ℕ) → 1 ≤ i → p ≡ q → leb j (low_at s k ws p i q) ≡ ltb j i
  low_by_order i j from e =
      rw (low_at_own i e)
      (same_test _ _
      (λ t. lt-ltb j i (omega (arith, from, leb-true j (i - 1) t)))
      (λ t. le-leb j (i - 1) (omega (arith, ltb-true j i t))))

  pub vector_le : (y : ℕ) → vector_of s k ws p q y ≤ 1
  unfolding vector_of
  vector_le y = bit_le ws (offset s k p q + y)

  pub vector-rank : (y : ℕ) → rank ws (offset s k p q + y) ≡ rank ws (offset s k p q) + sum (vector_of s k ws p q) y
  unfolding vector_of
  vector-rank y = rank_add ws (offset s k p q) y

-- ---- the ones up to a vector

module _ (s : ℕ → ℕ) (k : ℕ) (ws : List ℕ) where
  -- the ones of vector p,q
  abbrev pub vector_ones : ℕ → ℕ → ℕ
  vector_ones p q = sum (vector_of s k ws p q) (vector_bits s p q)

  -- the ones up to the end of a vector are those up to its start, and its own
  pub rank-vector : (p q : ℕ) → rank ws (offset s k p (q + 1)) ≡ rank ws (offset s k p q) + vector_ones p q
  rank-vector p q = rw (offset_end s k p q) (vector-rank s k ws p q (vector_bits s p q))

  -- along the vectors of p
  rank_along : (p : ℕ) → ((q : ℕ) → q < k → vector_ones p q ≡ ones_in s p q)
      → (q : ℕ) → q ≤ k → rank ws (offset s k p q) ≡ rank ws (offset s k p 0) + sum (ones_in s p) q
  rank_along p each zero h = omega (arith, sum_none (ones_in s p))
  rank_along p each (suc q) h =
      let e : q + 1 ≡ suc q = add-one q in
      let f : rank ws (offset s k p (q + 1)) ≡ rank ws (offset s k p (suc q)) = ap (λ (x : ℕ). rank ws (offset s k p x)) e in
      omega (arith, rank-vector p q, each q (omega arith), rank_along p each q (omega arith), sum-suc (ones_in s p) q)

  -- the k - 1 vectors of p have as many ones each as p has units
  pub rank_row : (p : ℕ) → p < k → ((q : ℕ) → q < k → vector_ones p q ≡ ones_in s p q)
      → rank ws (offset s k (p + 1) 0) ≡ rank ws (offset s k p 0) + (k - 1) * s p
  rank_row p l each =
      omega (arith, ap (rank ws) (offset_row s k p), rank_along p each k (omega arith), ones_in_row s k p l)

  -- down the rows
  rank_down : ((p q : ℕ) → p < k → q < k → vector_ones p q ≡ ones_in s p q) → (p : ℕ) → p ≤ k → rank ws (offset s k p 0) ≡ (k - 1) * sum s p
  rank_down each zero l =
      omega (arith, ap (rank ws) (offset-start s k), rank_le ws 0, ap (λ (x : ℕ). (k - 1) * x) (sum_none s), mul-zero (k - 1))
  rank_down each (suc p) l =
      let e : p + 1 ≡ suc p = add-one p in
      let f : rank ws (offset s k (p + 1) 0) ≡ rank ws (offset s k (suc p) 0) = ap (λ (x : ℕ). rank ws (offset s k x 0)) e in
      omega (
        arith,
        rank_row p (omega arith) (λ q h. each p q (omega arith) h),
        rank_down each p (omega arith),
        ap (λ (x : ℕ). (k - 1) * x) (sum-suc s p),
        mul-add (k - 1) (sum s p) (s p),
      )

-- ---- words in which vector p,q has as many ones as p has units

-- there is a vector p,q
pub record Vector (k p q : ℕ) : Type 0 where
  pub here : p < k
  pub there : q < k
  pub other : p ≡ q → ⊥

pub record OnesTrue (s : ℕ → ℕ) (k : ℕ) (ws : List ℕ) : Type 0 where
  pub each : (p q : ℕ) → p < k → q < k → (p ≡ q → ⊥) → sum (vector_of s k ws p q) (s p + s q) ≡ s p

module _ {s : ℕ → ℕ} {k : ℕ} {ws : List ℕ} (ones : OnesTrue s k ws) where
  each_ones : (p q : ℕ) → p < k → q < k → vector_ones s k ws p q ≡ ones_in s p q
  each_ones p q l h = go (ℕ_discrete p q)
    where
      go : Dec (p ≡ q) → vector_ones s k ws p q ≡ ones_in s p q
      go (yes e) =
          let none : vector_bits s p q ≡ 0 = rw (sym e) (vector_own s p) in
          rw (eq-eqb p q e, none) (sum_none (vector_of s k ws p q))
      go (no n) = rw (ne_eqb p q n, vector_other s p q n) (ones.each p q l h n)

  module _ {p q : ℕ} (v : Vector k p q) where
    -- the ones before a vector are known without a look at the words
    pub rank_before : rank ws (offset s k p q) ≡ (k - 1) * sum s p + (q - bit1 (ltb p q)) * s p
    rank_before =
        let l = v.here in
        let h = v.there in
        omega (
          arith,
          rank_along s k ws p (λ q h. each_ones p q l h) q (omega arith),
          rank_down s k ws each_ones p (omega arith),
          ones_row s p q,
        )

    -- each position of p has a 1 and each position of q a 0
    pub in_ones : {i : ℕ} → i ≤ s p → i ≤ sum (vector_of s k ws p q) (s p + s q)
    in_ones to = omega (arith, ones.each p q v.here v.there v.other)

    pub in_zeros : {j : ℕ} → j ≤ s q → j ≤ s p + s q - sum (vector_of s k ws p q) (s p + s q)
    in_zeros to = omega (arith, ones.each p q v.here v.there v.other)

    -- at most all the zeros stand before a 1, and at most all the ones before a 0
    pub one_low : (i : ℕ) → 1 ≤ i → i ≤ s p
        → (i ≤ place_of_one (vector_of s k ws p q) (s p + s q) i) × (place_of_one (vector_of s k ws p q) (s p + s q) i - i ≤ s q)
    one_low i from to =
        omega (arith, ones.each p q v.here v.there v.other, one_place_low (vector_of s k ws p q) (vector_le s k ws p q) (s p + s q) i from (in_ones to))

    pub zero_low : (j : ℕ) → 1 ≤ j → j ≤ s q
        → (j ≤ place_of_zero (vector_of s k ws p q) (s p + s q) j) × (place_of_zero (vector_of s k ws p q) (s p + s q) j - j ≤ s p)
    zero_low j from to =
        omega (arith, ones.each p q v.here v.there v.other, zero_place_low (vector_of s k ws p q) (vector_le s k ws p q) (s p + s q) j from (in_zeros to))

    -- one rank tells whether position i of p reaches down to j of q
    pub low_by_rank : (i j : ℕ) → 1 ≤ i → i ≤ s p
        → leb j (low_at s k ws p i q) ≡ ltb (rank ws (offset s k p q + i + j - 1)) (rank ws (offset s k p q) + i)
    low_by_rank i j i1 ip = same_test _ _ (λ t. lt-ltb _ _ (to (leb-true _ _ t))) (λ t. le-leb _ _ (from (ltb-true _ _ t)))
      where
        f : ℕ → ℕ
        f = vector_of s k ws p q

        place : offset s k p q + i + j - 1 ≡ offset s k p q + (i + j - 1)
        place = omega arith

        to : j ≤ low_at s k ws p i q → rank ws (offset s k p q + i + j - 1) < rank ws (offset s k p q) + i
        to = rw (low_at_other s k ws p q i v.other, place)
            (λ h. omega (arith, vector-rank s k ws p q (i + j - 1), places_by_rank f (vector_le s k ws p q) _ i j i1 (in_ones ip) h))

        from : rank ws (offset s k p q + i + j - 1) < rank ws (offset s k p q) + i → j ≤ low_at s k ws p i q
        from = rw (low_at_other s k ws p q i v.other, place)
            (λ h. places_by_rank_back f (vector_le s k ws p q) _ i j i1 (in_ones ip) (omega (arith, vector-rank s k ws p q (i + j - 1))))

  module _ (p q : ℕ) (here : p < k) (there : q < k) where
    vector : (p ≡ q → ⊥) → Vector k p q
    vector n = record { here = here; there = there; other = n }

    pub low_at_most : (i : ℕ) → 1 ≤ i → i ≤ s p → low_at s k ws p i q ≤ s q
    low_at_most i from to = go (ℕ_discrete p q)
      where
        go : Dec (p ≡ q) → low_at s k ws p i q ≤ s q
        go (yes e) = rw (low_at_own s k ws p q i e) (omega (arith, ap s e))
        go (no n) = rw (low_at_other s k ws p q i n) (one_low (vector n) i from to).1

    pub high_at_most : (j : ℕ) → 1 ≤ j → j ≤ s q → (1 ≤ high_at s k ws q j p) × (high_at s k ws q j p ≤ s p + 1)
    high_at_most j from to = go (ℕ_discrete q p)
      where
        go : Dec (q ≡ p) → (1 ≤ high_at s k ws q j p) × (high_at s k ws q j p ≤ s p + 1)
        go (yes e) = rw (high_at_own s k ws q p j e) (omega (arith, ap s e))
        go (no n) = rw (high_at_other s k ws p q j n) (omega (arith, zero_low (vector (λ e. n (sym e))) j from to))

    -- position i of p reaches down to j of q exactly when position j of q is reached from i of p on
    low_to_high : (i j : ℕ) → 1 ≤ i → i ≤ s p → 1 ≤ j → j ≤ s q → j ≤ low_at s k ws p i q → high_at s k ws q j p ≤ i
    low_to_high i j i1 ip j1 jq = go (ℕ_discrete p q)
      where
        go : Dec (p ≡ q) → j ≤ low_at s k ws p i q → high_at s k ws q j p ≤ i
        go (yes e) = rw (low_at_own s k ws p q i e, high_at_own s k ws q p j (sym e)) (λ h. omega arith)
        go (no n) =
            rw (low_at_other s k ws p q i n, high_at_other s k ws p q j (λ e. n (sym e)))
            (places_cross (vector_of s k ws p q) (vector_le s k ws p q) _ i j i1 (in_ones (vector n) ip) j1 (in_zeros (vector n) jq))

    high_to_low : (i j : ℕ) → 1 ≤ i → i ≤ s p → 1 ≤ j → j ≤ s q → high_at s k ws q j p ≤ i → j ≤ low_at s k ws p i q
    high_to_low i j i1 ip j1 jq = go (ℕ_discrete p q)
      where
        go : Dec (p ≡ q) → high_at s k ws q j p ≤ i → j ≤ low_at s k ws p i q
        go (yes e) = rw (low_at_own s k ws p q i e, high_at_own s k ws q p j (sym e)) (λ h. omega arith)
        go (no n) =
            rw (low_at_other s k ws p q i n, high_at_other s k ws p q j (λ e. n (sym e)))
            (places_cross_back (vector_of s k ws p q) (vector_le s k ws p q) _ i j i1 (in_ones (vector n) ip) j1 (in_zeros (vector n) jq))

    pub low-high : (i j : ℕ) → 1 ≤ i → i ≤ s p → 1 ≤ j → j ≤ s q → leb j (low_at s k ws p i q) ≡ leb (high_at s k ws q j p) i
    low-high i j i1 ip j1 jq =
        same_test _ _
        (λ t. le-leb _ _ (low_to_high i j i1 ip j1 jq (leb-true _ _ t)))
        (λ t. le-leb _ _ (high_to_low i j i1 ip j1 jq (leb-true _ _ t)))
