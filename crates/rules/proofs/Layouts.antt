-- Where each vector stands: a vector starts where the room before it ends, so no two rooms meet and no bit stands in two; and the bits and words in all.
-- All of it is read off the sums of the layout. Only room_holds, room_is, room_meant, room_all and room_same know what a room is.
-- Assumes nothing.
use Prim.Native.Nat.{ℕ, zero, suc, ◌+◌, ◌-◌, ◌*◌, ◌≤◌, ◌<◌}
use mathlib.Core.Path.{◌≡◌, refl, sym, ap}
use mathlib.Core.Bool.{cond}
use mathlib.Core.Logic.{◌⊎◌, inl, inr}
use native.Mathlib.Omega.{arith}
use native.Mathlib.Nat.{le_refl, mul-le-mul, suc-mul, mul-add, mul_comm, mul-zero}
use native.Mathlib.Decide.{dec_lt, ℕ_discrete}
use lib.Dec.{eqb, ltb}
use borrow.Author.Tests.{lt-ltb, le-ltb, eq-eqb, ne_eqb}
use Rattle.rules.specs.Ranges.{sum, bit1}
use Rattle.rules.specs.Layout.{vector_bits, vector_room, offset, room_bits, word_count, meant_bits}
use Rattle.rules.proofs.Ranges.{sum_none, sum-next, sum_same, sum_term, sum_plus, sum_const}

-- ---- sums

pub sum_times : (a : ℕ) (f : ℕ → ℕ) (m : ℕ) → sum (λ i. a * f i) m ≡ a * sum f m
unfolding sum
sum_times a f zero = sym (mul-zero a)
sum_times a f (suc m) = omega (arith, sum_times a f m, mul-add a (sum f m) (f m))

-- a sum that leaves out term p
pub sum_without : (f : ℕ → ℕ) (p m : ℕ) → sum (λ q. cond (eqb p q) 0 (f q)) m + bit1 (ltb p m) * f p ≡ sum f m
unfolding sum
sum_without f p zero = rw (le-ltb p 0 (omega arith)) (omega arith)
sum_without f p (suc m) = go (sum_without f p m) (dec_lt p m) (ℕ_discrete p m)
  where
    go : sum (λ q. cond (eqb p q) 0 (f q)) m + bit1 (ltb p m) * f p ≡ sum f m → Dec (p < m) → Dec (p ≡ m)
        → sum (λ q. cond (eqb p q) 0 (f q)) m + cond (eqb p m) 0 (f m) + bit1 (ltb p (suc m)) * f p ≡ sum f m + f m
    go r d (yes e) =
        let r' = rw (le-ltb p m (omega arith)) at r in
        rw (eq-eqb p m e, lt-ltb p (suc m) (omega arith)) (omega (arith, r', ap f e))
    go r (yes l) (no n) =
        let r' = rw (lt-ltb p m l) at r in
        rw (ne_eqb p m n, lt-ltb p (suc m) (omega arith)) (omega (arith, r'))
    go r (no g) (no n) =
        let r' = rw (le-ltb p m (omega arith)) at r in
        rw (ne_eqb p m n, le-ltb p (suc m) (omega arith)) (omega (arith, r'))

-- k - 1 times a and once more
less_times : (k a : ℕ) → 1 ≤ k → (k - 1) * a + a ≡ k * a
less_times k a h = let e : suc (k - 1) ≡ k = omega arith in omega (arith, suc-mul (k - 1) a, ap (λ x. x * a) e)

-- ---- the vectors

-- the room of the vectors of track p
abbrev row_room : (ℕ → ℕ) → ℕ → ℕ → ℕ
row_room s k p = sum (vector_room s p) k

module _ (s : ℕ → ℕ) (k : ℕ) where
  pub offset-start : offset s k 0 0 ≡ 0
  unfolding offset sum
  offset-start = refl

  pub offset-next : (p q : ℕ) → offset s k p (q + 1) ≡ offset s k p q + vector_room s p q
  unfolding offset
  offset-next p q = omega (arith, sum-next (vector_room s p) q)

  pub offset_row : (p : ℕ) → offset s k (p + 1) 0 ≡ offset s k p k
  unfolding offset
  offset_row p = omega (arith, sum-next (row_room s k) p, sum_none (vector_room s (p + 1)))

  -- the vectors p,q' before p,q stand between
  pub offset_add : (p q : ℕ) → offset s k p q ≡ offset s k p 0 + sum (vector_room s p) q
  unfolding offset
  offset_add p q = omega (arith, sum_none (vector_room s p))

  pub offset_last : offset s k k 0 ≡ room_bits s k
  unfolding offset room_bits
  offset_last = omega (arith, sum_none (vector_room s k))

  pub offset-within : (p q : ℕ) → p < k → q < k → offset s k p q + vector_room s p q ≤ room_bits s k
  unfolding offset room_bits
  offset-within p q l h = omega (arith, sum_term (vector_room s p) k q h, sum_term (row_room s k) k p l)

  -- the room of a vector ends before a later one starts
  pub offsets_apart : (p q p' q' : ℕ) → q < k → (p < p') ⊎ ((p ≡ p') × (q < q'))
      → offset s k p q + vector_room s p q ≤ offset s k p' q'
  unfolding offset
  offsets_apart p q p' q' h (inl b) = omega (arith, sum_term (vector_room s p) k q h, sum_term (row_room s k) p' p b)
  offsets_apart p q p' q' h (inr (e, b)) = rw (sym e) (omega (arith, sum_term (vector_room s p) q' q b))

-- the vector p,q whose room has bit x
pub record BitHome (s : ℕ → ℕ) (k x : ℕ) : Type 0 where
  pub p : ℕ
  pub q : ℕ
  pub row : p < k
  pub column : q < k
  pub from : offset s k p q ≤ x
  pub below : x < offset s k p q + vector_room s p q

module _ (s : ℕ → ℕ) (k x : ℕ) where
  -- and no other vector has it
  pub bit_home_one : (a b : BitHome s k x) → (a.p ≡ b.p) × (a.q ≡ b.q)
  bit_home_one a b = go (dec_lt a.p b.p) (dec_lt b.p a.p) (dec_lt a.q b.q) (dec_lt b.q a.q)
    where
      never : (a b : BitHome s k x) → (a.p < b.p) ⊎ ((a.p ≡ b.p) × (a.q < b.q)) → ⊥
      never a b h = omega (arith, offsets_apart s k a.p a.q b.p b.q a.column h)

      go : Dec (a.p < b.p) → Dec (b.p < a.p) → Dec (a.q < b.q) → Dec (b.q < a.q) → (a.p ≡ b.p) × (a.q ≡ b.q)
      go (yes l) _ _ _ = absurd (never a b (inl l))
      go (no _) (yes l) _ _ = absurd (never b a (inl l))
      go (no m) (no n) (yes l) _ = absurd (never a b (inr (omega arith, l)))
      go (no m) (no n) (no _) (yes l) = absurd (never b a (inr (omega arith, l)))
      go (no m) (no n) (no h) (no i) = (omega arith, omega arith)

-- ---- the bits of a vector and its room

module _ (s : ℕ → ℕ) where
  pub vector_own : (p : ℕ) → vector_bits s p p ≡ 0
  unfolding vector_bits
  vector_own p = rw (eq-eqb p p refl)

  pub vector_other : (p q : ℕ) → (p ≡ q → ⊥) → vector_bits s p q ≡ s p + s q
  unfolding vector_bits
  vector_other p q n = rw (ne_eqb p q n)

  pub room_holds : (p q : ℕ) → vector_bits s p q ≤ vector_room s p q
  unfolding vector_room
  room_holds p q = omega arith

  -- no room is left between vectors
  pub room_is : (p q : ℕ) → vector_room s p q ≡ vector_bits s p q
  unfolding vector_room
  room_is p q = refl

  pub room_meant : (k : ℕ) → room_bits s k ≡ meant_bits s k
  unfolding meant_bits room_bits vector_room
  room_meant k = refl

  -- the bits of the vectors of track p
  row_bits : (k p : ℕ) → p < k → sum (vector_bits s p) k + 2 * s p ≡ k * s p + sum s k
  unfolding vector_bits
  row_bits k p l =
      let r = rw (lt-ltb p k l) at (sum_without (λ q. s p + s q) p k) in
      omega (arith, r, sum_plus (λ q. s p) s k, sum_const (s p) k)

  -- the room of the vectors p,q' before p,q: there is no vector p,p
  room_all : (p q : ℕ) → sum (vector_room s p) q + bit1 (ltb p q) * (s p + s p) ≡ q * s p + sum s q
  unfolding vector_room vector_bits
  room_all p q = omega (arith, sum_without (λ q. s p + s q) p q, sum_plus (λ q. s p) s q, sum_const (s p) q)

  pub room_past : (p q : ℕ) → p < q → sum (vector_room s p) q + 2 * s p ≡ q * s p + sum s q
  room_past p q l = let r = rw (lt-ltb p q l) at (room_all p q) in omega (arith, r)

  pub room_before : (p q : ℕ) → q ≤ p → sum (vector_room s p) q ≡ q * s p + sum s q
  room_before p q l = let r = rw (le-ltb p q l) at (room_all p q) in omega (arith, r)

  -- every unit counted 2 * k times is counted twice too often: there is no vector p,p
  rows_bits : (k : ℕ) → meant_bits s k + 2 * sum s k ≡ 2 * (k * sum s k)
  unfolding meant_bits
  rows_bits k =
      let rows = sum_same (λ p. sum (vector_bits s p) k + 2 * s p) (λ p. k * s p + sum s k) k (row_bits k) in
      omega (
        arith,
        rows,
        sum_plus (λ p. sum (vector_bits s p) k) (λ p. 2 * s p) k,
        sum_times 2 s k,
        sum_plus (λ p. k * s p) (λ p. sum s k) k,
        sum_times k s k,
        sum_const (sum s k) k,
      )

  -- each unit stands in the two vectors that its track has with each other track
  pub meant_bits_lem : (k : ℕ) → meant_bits s k ≡ 2 * (sum s k * (k - 1))
  unfolding meant_bits sum
  meant_bits_lem zero = refl
  meant_bits_lem (suc k) =
      omega (arith, rows_bits (suc k), less_times (suc k) (sum s (suc k)) (omega arith), mul_comm (sum s (suc k)) (suc k - 1))

  pub words_hold : (k : ℕ) → room_bits s k ≤ 64 * word_count s k
  unfolding word_count
  words_hold k = omega arith

  pub words_most : (k : ℕ) → sum s k ≤ 1024 → k ≤ 32 → word_count s k ≤ 992
  unfolding word_count
  words_most k most few =
      let few' : k - 1 ≤ 31 = omega arith in
      omega (arith, room_meant k, meant_bits_lem k, mul-le-mul most few')

  pub room_most : (k : ℕ) → sum s k ≤ 1024 → k ≤ 32 → room_bits s k ≤ 63488
  room_most k most few = omega (arith, words_hold k, words_most k most few)

  pub length_most : (k q : ℕ) → sum s k ≤ 1024 → q < k → s q ≤ 1024
  length_most k q most h = omega (arith, sum_term s k q h)

-- ---- where a vector ends

module _ (s : ℕ → ℕ) (k : ℕ) where
  -- the next vector starts there
  pub offset_end : (p q : ℕ) → offset s k p (q + 1) ≡ offset s k p q + vector_bits s p q
  offset_end p q = omega (arith, offset-next s k p q, room_is s p q)

  -- there is no vector p,p
  pub offset_own : (p : ℕ) → offset s k p (p + 1) ≡ offset s k p p
  offset_own p = omega (arith, offset_end p p, vector_own s p)

  pub vector-within : (p q : ℕ) → p < k → q < k → (p ≡ q → ⊥) → offset s k p q + (s p + s q) ≤ 64 * word_count s k
  vector-within p q l h n =
      omega (arith, vector_other s p q n, room_holds s p q, offset-within s k p q l h, words_hold s k)

-- ---- the same lengths

module _ (s t : ℕ → ℕ) (k : ℕ) (same : (q : ℕ) → q < k → s q ≡ t q) where
  pub vector_same : (p q : ℕ) → p < k → q < k → vector_bits s p q ≡ vector_bits t p q
  unfolding vector_bits
  vector_same p q l h = rw (same p l, same q h)

  pub room_same : (p q : ℕ) → p < k → q < k → vector_room s p q ≡ vector_room t p q
  unfolding vector_room
  room_same p q l h = vector_same p q l h

  row_same : (p : ℕ) → p < k → (q : ℕ) → q ≤ k → sum (vector_room s p) q ≡ sum (vector_room t p) q
  row_same p l q h = sum_same _ _ q (λ q' h'. room_same p q' l (omega arith))

  pub offset_same : (p q : ℕ) → p < k → q ≤ k → offset s k p q ≡ offset t k p q
  unfolding offset
  offset_same p q l h =
      let above : sum (row_room s k) p ≡ sum (row_room t k) p = sum_same _ _ p (λ p' l'. row_same p' (omega arith) k (le_refl k)) in
      omega (arith, row_same p l q h)

  pub room_bits_same : room_bits s k ≡ room_bits t k
  unfolding room_bits
  room_bits_same = sum_same _ _ k (λ p l. row_same p l k (le_refl k))

  pub words_same : word_count s k ≡ word_count t k
  unfolding word_count
  words_same = rw room_bits_same

-- ---- the ones before a vector

-- the ones of vector p,q on a whole index
abbrev pub ones_in : (ℕ → ℕ) → ℕ → ℕ → ℕ
ones_in s p q = cond (eqb p q) 0 (s p)

module _ (s : ℕ → ℕ) where
  -- the vectors of track p before p,q have s p ones each
  pub ones_row : (p q : ℕ) → sum (ones_in s p) q ≡ (q - bit1 (ltb p q)) * s p
  ones_row p q = go (dec_lt p q) (sum_without (λ q. s p) p q)
    where
      go : Dec (p < q) → sum (ones_in s p) q + bit1 (ltb p q) * s p ≡ sum (λ q. s p) q → sum (ones_in s p) q ≡ (q - bit1 (ltb p q)) * s p
      go (yes l) r =
          let r' = rw (lt-ltb p q l) at r in
          rw (lt-ltb p q l) (omega (arith, r', sum_const (s p) q, less_times q (s p) (omega arith)))
      go (no n) r =
          let r' = rw (le-ltb p q (omega arith)) at r in
          let e : q - 0 ≡ q = omega arith in
          rw (le-ltb p q (omega arith), e) (omega (arith, r', sum_const (s p) q))

  pub ones_in_row : (k p : ℕ) → p < k → sum (ones_in s p) k ≡ (k - 1) * s p
  ones_in_row k p h = rw (ones_row p k, lt-ltb p k h)
