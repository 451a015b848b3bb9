-- The place of the i-th 1 and of the i-th 0 among m bits. Each is the first place where a count that rises by at most one is i: one argument serves both.
-- The rest follows by the order of the counts. Zeros before a 1 and ones before a 0 determine each other, so one vector answers both ways.
-- Assumes nothing.
use Prim.Native.Nat.{ℕ, zero, suc, ◌+◌, ◌-◌, ◌≤◌, ◌<◌}
use mathlib.Core.Path.{◌≡◌, sym, ap, ◌∙◌}
use mathlib.Core.Bool.{Bool}
use mathlib.Core.Logic.{◌⊎◌, inl, inr}
use native.Mathlib.Omega.{arith}
use native.Mathlib.Decide.{dec_lt, dec_le, ℕ_discrete}
use lib.Dec.{leb}
use borrow.Author.Tests.{le-leb, leb-true, leb-false}
use Rattle.rules.specs.Ranges.{sum, first}
use Rattle.rules.specs.Bits.{place_of_one, place_of_zero}
use Rattle.rules.proofs.Ranges.{last_or_before, not_both, sum_none, sum-suc, sum_same, sum_add, sum_up, sum_zero, sum_most, first_before, first_met, first_same}
use Rattle.rules.proofs.Bits.{place_of_one_is}

-- ---- the first place that a count reaches

-- the i-th rise of the count c stands at place y, from 1, among m
record RiseAt (c : ℕ → ℕ) (m i y : ℕ) : Type 0 where
  from_one : 1 ≤ y
  within : y ≤ m
  before : c (y - 1) + 1 ≡ i
  upto : c y ≡ i

module _ (c : ℕ → ℕ) (m i : ℕ) where
  rise_place : c 0 ≡ 0 → ((y : ℕ) → c (suc y) ≤ c y + 1) → 1 ≤ i → i ≤ c m → RiseAt c m i (first (λ y. leb i (c y)) (suc m))
  rise_place start step pos most = go (first (λ y. leb i (c y)) (suc m)) within met before
    where
      p : ℕ → Bool
      p = λ y. leb i (c y)

      within : first p (suc m) ≤ m
      within = reached (dec_le (first p (suc m)) m)
        where
          reached : Dec (first p (suc m) ≤ m) → first p (suc m) ≤ m
          reached (yes l) = l
          reached (no n) = absurd (not_both (le-leb i (c m) most) (first_before p (suc m) m (omega arith)))

      met : i ≤ c (first p (suc m))
      met = leb-true _ _ (first_met p (suc m) (omega (arith, within)))

      before : (j : ℕ) → j < first p (suc m) → c j < i
      before j l = leb-false _ _ (first_before p (suc m) j l)

      go : (y : ℕ) → y ≤ m → i ≤ c y → ((j : ℕ) → j < y → c j < i) → RiseAt c m i y
      go zero w r b = absurd (omega arith)
      go (suc y) w r b =
          let e : suc y - 1 ≡ y = omega arith in
          let l : c y < i = b y (omega arith) in
          record {
            from_one = omega arith;
            within = w;
            before = omega (arith, ap c e, step y);
            upto = omega (arith, step y);
          }

-- where a count is smaller, the place is earlier
count_less : (c : ℕ → ℕ) → ((y z : ℕ) → y ≤ z → c y ≤ c z) → (y z : ℕ) → c y < c z → y < z
count_less c up y z h = go (dec_lt y z)
  where
    go : Dec (y < z) → y < z
    go (yes l) = l
    go (no n) = absurd (omega (arith, up z y (omega arith)))

-- a sum stays where only zeros follow
sum_flat : (f : ℕ → ℕ) (x y : ℕ) → x ≤ y → ((z : ℕ) → x ≤ z → z < y → f z ≡ 0) → sum f y ≡ sum f x
sum_flat f x y l none =
    let e : x + (y - x) ≡ y = omega arith in
    omega (arith, ap (sum f) e, sum_add f x (y - x), sum_zero (λ z. f (x + z)) (y - x) (λ z h. none (x + z) (omega arith) (omega arith)))

-- ---- ones and zeros

-- the i-th 1 of m bits stands at place y, from 1
pub record OnePlace (f : ℕ → ℕ) (m i y : ℕ) : Type 0 where
  pub from_one : 1 ≤ y
  pub within : y ≤ m
  pub is_one : f (y - 1) ≡ 1
  pub before : sum f (y - 1) + 1 ≡ i
  pub upto : sum f y ≡ i

-- the j-th 0 of m bits stands at place y, from 1; y - sum f y counts the zeros among the first y bits
pub record ZeroPlace (f : ℕ → ℕ) (m j y : ℕ) : Type 0 where
  pub from_one : 1 ≤ y
  pub within : y ≤ m
  pub is_zero : f (y - 1) ≡ 0
  pub before : y - 1 - sum f (y - 1) + 1 ≡ j
  pub upto : y - sum f y ≡ j

module _ (f : ℕ → ℕ) (bits : (y : ℕ) → f y ≤ 1) where
  pub ones_most : (y : ℕ) → sum f y ≤ y
  ones_most y = omega (arith, sum_most f 1 y (λ x l. bits x))

  -- one bit more is a 1 more or a 0 more
  zeros_suc : (y : ℕ) → suc y - sum f (suc y) + f y ≡ y - sum f y + 1
  zeros_suc y = omega (arith, sum-suc f y, ones_most y, bits y)

  pub zeros_up : (y z : ℕ) → y ≤ z → y - sum f y ≤ z - sum f z
  zeros_up y z l =
      let e : y + (z - y) ≡ z = omega arith in
      omega (arith, ap (sum f) e, sum_add f y (z - y), sum_most (λ x. f (y + x)) 1 (z - y) (λ x h. bits (y + x)))

module _ (f : ℕ → ℕ) (bits : (y : ℕ) → f y ≤ 1) (m : ℕ) where
  pub one_place : (i : ℕ) → 1 ≤ i → i ≤ sum f m → OnePlace f m i (place_of_one f m i)
  unfolding place_of_one
  one_place i pos most = go _ (rise_place (sum f) m i (sum_none f) (λ y. omega (arith, sum-suc f y, bits y)) pos most)
    where
      go : (y : ℕ) → RiseAt (sum f) m i y → OnePlace f m i y
      go y r =
          let e : suc (y - 1) ≡ y = omega arith in
          record {
            from_one = r.from_one;
            within = r.within;
            is_one = omega (arith, sum-suc f (y - 1), ap (sum f) e);
            before = r.before;
            upto = r.upto;
          }

  pub zero_place : (j : ℕ) → 1 ≤ j → j ≤ m - sum f m → ZeroPlace f m j (place_of_zero f m j)
  unfolding place_of_zero
  zero_place j pos most = go _ (rise_place (λ y. y - sum f y) m j (omega arith) (λ y. omega (arith, zeros_suc f bits y)) pos most)
    where
      go : (y : ℕ) → RiseAt (λ y. y - sum f y) m j y → ZeroPlace f m j y
      go y r =
          let e : suc (y - 1) ≡ y = omega arith in
          record {
            from_one = r.from_one;
            within = r.within;
            is_zero = omega (arith, zeros_suc f bits (y - 1), ap (sum f) e);
            before = r.before;
            upto = r.upto;
          }

  -- place_of_one f m i - i zeros stand before the i-th 1, at most all the zeros
  pub one_place_low : (i : ℕ) → 1 ≤ i → i ≤ sum f m → (i ≤ place_of_one f m i) × (place_of_one f m i - i ≤ m - sum f m)
  one_place_low i pos most =
      let r = one_place i pos most in
      (omega (arith, ones_most f bits (place_of_one f m i)), omega (arith, zeros_up f bits (place_of_one f m i) m r.within))

  -- place_of_zero f m j - j ones stand before the j-th 0, at most all the ones
  pub zero_place_low : (j : ℕ) → 1 ≤ j → j ≤ m - sum f m → (j ≤ place_of_zero f m j) × (place_of_zero f m j - j ≤ sum f m)
  zero_place_low j pos most =
      let r = zero_place j pos most in
      (omega arith, omega (arith, ones_most f bits (place_of_zero f m j), sum_up f (place_of_zero f m j) m r.within))

  -- ---- ones against zeros

  -- the ones before the j-th 0
  zero_ones : {j z : ℕ} → ZeroPlace f m j z → z - j ≡ sum f z
  zero_ones {j} {z} t = omega (arith, t.upto, ones_most f bits z)

  -- at least j zeros stand before the i-th 1 exactly when at most i - 1 ones stand before the j-th 0: the j-th 0 stands before the i-th 1
  pub places_cross : (i j : ℕ) → 1 ≤ i → i ≤ sum f m → 1 ≤ j → j ≤ m - sum f m
      → j ≤ place_of_one f m i - i → place_of_zero f m j - j + 1 ≤ i
  places_cross i j i1 im j1 jm h = go _ _ (one_place i i1 im) (zero_place j j1 jm) h
    where
      go : (y z : ℕ) → OnePlace f m i y → ZeroPlace f m j z → j ≤ y - i → z - j + 1 ≤ i
      go y z r t h = earlier (ℕ_discrete z y)
        where
          reach : j ≤ y - sum f y
          reach = rw r.upto h

          l : z - 1 < y
          l = count_less (λ y. y - sum f y) (zeros_up f bits) (z - 1) y (let b = t.before in omega (arith, reach))

          earlier : Dec (z ≡ y) → z - j + 1 ≤ i
          earlier (yes e) = absurd (omega (arith, r.is_one, t.is_zero, ap (λ x. f (x - 1)) e))
          earlier (no n) = rw (zero_ones t) (omega (arith, r.before, sum_up f z (y - 1) (omega (arith, l, r.from_one))))

  pub places_cross_back : (i j : ℕ) → 1 ≤ i → i ≤ sum f m → 1 ≤ j → j ≤ m - sum f m
      → place_of_zero f m j - j + 1 ≤ i → j ≤ place_of_one f m i - i
  places_cross_back i j i1 im j1 jm h = go _ _ (one_place i i1 im) (zero_place j j1 jm) h
    where
      go : (y z : ℕ) → OnePlace f m i y → ZeroPlace f m j z → z - j + 1 ≤ i → j ≤ y - i
      go y z r t h =
          let l : z < y = count_less (sum f) (sum_up f) z y (let h' : sum f z + 1 ≤ i = rw (zero_ones t) at h in omega (arith, r.upto)) in
          rw (sym r.upto, sym t.upto) (zeros_up f bits z y (omega arith))

  -- and exactly when fewer than i ones stand among the first i + j - 1 bits
  pub places_by_rank : (i j : ℕ) → 1 ≤ i → i ≤ sum f m → j ≤ place_of_one f m i - i → sum f (i + j - 1) < i
  places_by_rank i j pos most h =
      let l = (one_place_low i pos most).0 in
      omega (arith, (one_place i pos most).before, sum_up f (i + j - 1) (place_of_one f m i - 1) (omega arith))

  pub places_by_rank_back : (i j : ℕ) → 1 ≤ i → i ≤ sum f m → sum f (i + j - 1) < i → j ≤ place_of_one f m i - i
  places_by_rank_back i j pos most h =
      let r = one_place i pos most in
      let l : i + j - 1 < place_of_one f m i = count_less (sum f) (sum_up f) _ _ (omega arith) in
      omega arith

-- ---- equal bits

-- bits that are equal below m have their ones and zeros at the same places
pub one_place_same : (f g : ℕ → ℕ) (m i : ℕ) → ((y : ℕ) → y < m → f y ≡ g y) → place_of_one f m i ≡ place_of_one g m i
unfolding place_of_one
one_place_same f g m i h = first_same _ _ (suc m) (λ y l. ap (leb i) (sum_same f g y (λ x b. h x (omega arith))))

pub zero_place_same : (f g : ℕ → ℕ) (m j : ℕ) → ((y : ℕ) → y < m → f y ≡ g y) → place_of_zero f m j ≡ place_of_zero g m j
unfolding place_of_zero
zero_place_same f g m j h = first_same _ _ (suc m) (λ y l. ap (λ c. leb j (y - c)) (sum_same f g y (λ x b. h x (omega arith))))

-- ---- the vector of some lows

-- what the bits say whose i-th 1 has lows i zeros before it, of a ones and b zeros
pub record FromLow (f lows : ℕ → ℕ) (a b : ℕ) : Type 0 where
  pub ones : sum f (a + b) ≡ a
  pub low : (i : ℕ) → 1 ≤ i → i ≤ a → place_of_one f (a + b) i - i ≡ lows i
  -- place_of_zero f (a + b) j - j + 1 is the smallest i with j ≤ lows i, or a + 1 where there is none
  pub high : (i j : ℕ) → 1 ≤ i → i ≤ a → 1 ≤ j → j ≤ b → j ≤ lows i → place_of_zero f (a + b) j - j + 1 ≤ i
  pub high_most : (j : ℕ) → 1 ≤ j → j ≤ b → place_of_zero f (a + b) j - j + 1 ≤ a + 1

module _ (f lows : ℕ → ℕ) (a b : ℕ) (bits : (y : ℕ) → f y ≤ 1)
    (rises : (i j : ℕ) → 1 ≤ i → i < j → j ≤ a → lows i ≤ lows j)
    (most : (i : ℕ) → 1 ≤ i → i ≤ a → lows i ≤ b)
    (one : (i : ℕ) → 1 ≤ i → i ≤ a → f (i + lows i - 1) ≡ 1)
    (only : (y : ℕ) → y < a + b → f y ≡ 1 → (i : ℕ) × (1 ≤ i) × (i ≤ a) × (y ≡ i + lows i - 1)) where
  rises_le : (i j : ℕ) → 1 ≤ i → i ≤ j → j ≤ a → lows i ≤ lows j
  rises_le i j pos l w = go (let h : i < suc j = omega arith in last_or_before h)
    where
      go : (i ≡ j) ⊎ (i < j) → lows i ≤ lows j
      go (inl e) = omega (arith, ap lows e)
      go (inr h) = rises i j pos h w

  -- between the i-th 1 and the one after it stand only zeros
  between_zero : (i y : ℕ) → i ≤ a → y < a + b → (1 ≤ i → i + lows i ≤ y) → (i < a → y < i + lows (suc i)) → f y ≡ 0
  between_zero i y w l past before = go (dec_lt 0 (f y))
    where
      go : Dec (0 < f y) → f y ≡ 0
      go (no n) = omega arith
      go (yes h) = absurd (meets (only y l (omega (arith, bits y))))
        where
          meets : (e : ℕ) × (1 ≤ e) × (e ≤ a) × (y ≡ e + lows e - 1) → ⊥
          meets (e, pos, k, at) = side (dec_le e i)
            where
              side : Dec (e ≤ i) → ⊥
              side (yes b) = omega (arith, rises_le e i pos b w, past (omega arith))
              side (no n) = omega (arith, rises_le (suc i) e (omega arith) (omega arith) k, before (omega arith))

  -- the ones up to a bit between the i-th 1 and the one after it
  between_ones : (i x : ℕ) → i ≤ a → x ≤ a + b → (1 ≤ i → i + lows i ≤ x) → (i < a → x ≤ i + lows (suc i)) → sum f x ≡ i
  between_ones zero x l w past before =
      sum_zero f x (λ y h. between_zero 0 y l (omega arith) (λ p. absurd (omega arith)) (λ p. omega (arith, before p)))
  between_ones (suc i) x l w past before =
      sum_flat f (suc y) x (omega (arith, past (omega arith))) none ∙ omega (arith, sum-suc f y, last (between_ones i y), is_one)
    where
      y : ℕ
      y = i + lows (suc i)

      is_one : f y ≡ 1
      is_one = let e : suc i + lows (suc i) - 1 ≡ y = omega arith in omega (arith, one (suc i) (omega arith) l, ap f e)

      none : (z : ℕ) → suc y ≤ z → z < x → f z ≡ 0
      none z h g = between_zero (suc i) z l (omega arith) (λ p. omega arith) (λ p. omega (arith, before p))

      last : (i ≤ a → y ≤ a + b → (1 ≤ i → i + lows i ≤ y) → (i < a → y ≤ i + lows (suc i)) → sum f y ≡ i) → sum f y ≡ i
      last below =
          below
          (omega arith)
          (omega (arith, most (suc i) (omega arith) l))
          (λ p. omega (arith, rises i (suc i) p (omega arith) l))
          (λ p. omega arith)

  pub vector_from_low : FromLow f lows a b
  vector_from_low = record {
    ones = ones;
    low = low;
    high = λ i j i1 ia j1 jb h. places_cross f bits (a + b) i j i1 (in_ones ia) j1 (in_zeros jb) (omega (arith, low i i1 ia));
    high_most = λ j j1 jb. omega (arith, ones, (zero_place_low f bits (a + b) j j1 (in_zeros jb)).1);
  }
    where
      ones : sum f (a + b) ≡ a
      ones = between_ones a (a + b) (omega arith) (omega arith) (λ p. omega (arith, most a p (omega arith))) (λ p. absurd (omega arith))

      in_ones : {i : ℕ} → i ≤ a → i ≤ sum f (a + b)
      in_ones l = omega (arith, ones)

      in_zeros : {j : ℕ} → j ≤ b → j ≤ a + b - sum f (a + b)
      in_zeros l = omega (arith, ones)

      low : (i : ℕ) → 1 ≤ i → i ≤ a → place_of_one f (a + b) i - i ≡ lows i
      low i pos l =
          let e : suc (i + lows i - 1) ≡ i + lows i = omega arith in
          let w : i + lows i ≤ a + b = omega (arith, most i pos l) in
          let next : i < a → i + lows i ≤ i + lows (suc i) = λ p. omega (arith, rises i (suc i) pos (omega arith) p) in
          let upto : sum f (i + lows i) ≡ i = between_ones i (i + lows i) l w (λ p. omega arith) next in
          let is_one : f (i + lows i - 1) ≡ 1 = one i pos l in
          let before : sum f (i + lows i - 1) + 1 ≡ i = omega (arith, sum-suc f (i + lows i - 1), ap (sum f) e) in
          omega (arith, place_of_one_is f (a + b) (i + lows i - 1) i (omega arith) is_one before)
