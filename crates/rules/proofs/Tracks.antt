-- Tracks and positions: a unit of a track is told by its position, the unit before it stands one position lower, and the lengths of all
-- tracks add up to the units. Assumes nothing.
use Prim.Native.Nat.{ℕ, zero, suc, ◌+◌, ◌-◌, ◌≤◌, ◌<◌, zero-le}
use mathlib.Core.Path.{◌≡◌, refl, sym, ap, ◌∙◌}
use mathlib.Core.Bool.{true, false, cond, ◌&&◌}
use mathlib.Core.List.{List}
use mathlib.Core.Logic.{◌⊎◌, inl, inr}
use native.Mathlib.Omega.{arith}
use native.Mathlib.Numerals.{add-one}
use native.Mathlib.Decide.{dec_lt}
use lib.ListN.{length, get_or}
use lib.Dec.{eqb}
use borrow.Author.Tests.{eq-eqb, ne_eqb, eqb-true}
use Rattle.rules.specs.Ranges.{sum, bit1, count}
use Rattle.rules.specs.Listing.{track, in_track, size, position}
use Rattle.rules.specs.Order.{unit_before}
use Rattle.rules.specs.Questions.{unit_at}
use Rattle.rules.proofs.Ranges.{true_or_false, sum_same, sum-suc, sum_plus, sum_zero, count_none, count_next, count_le, count_up, count_past, count_find, greatest_is, greatest_zero}
use Rattle.rules.proofs.Verdicts.{and_both}

-- ---- how many of the first units are in a track

module _ (ts : List ℕ) where
  pub in_none : (q : ℕ) → in_track ts q 0 ≡ 0
  unfolding in_track
  in_none q = count_none (λ i. eqb (get_or ts i 0) q)

  pub in_next : (q m : ℕ) → in_track ts q (m + 1) ≡ in_track ts q m + bit1 (eqb (get_or ts m 0) q)
  unfolding in_track
  in_next q m = count_next (λ i. eqb (get_or ts i 0) q) m

  pub in_up : (q a b : ℕ) → a ≤ b → in_track ts q a ≤ in_track ts q b
  unfolding in_track
  in_up q a b h = count_up (λ i. eqb (get_or ts i 0) q) a b h

  pub in_le : (q m : ℕ) → in_track ts q m ≤ m
  unfolding in_track
  in_le q m = count_le (λ i. eqb (get_or ts i 0) q) m

  -- a unit of the track counts: there are fewer before it than up to any later place
  pub in_past : (q i m : ℕ) → i < m → get_or ts i 0 ≡ q → in_track ts q i < in_track ts q m
  unfolding in_track
  in_past q i m h e = count_past (λ i. eqb (get_or ts i 0) q) i m h (eq-eqb _ _ e)

  pub track-next : (i : ℕ) → track ts (i + 1) ≡ get_or ts i 0
  unfolding track
  track-next i = ap (λ (x : ℕ). get_or ts x 0) (let e : i + 1 - 1 ≡ i = omega arith in e)

  -- ---- positions

  -- the units before u in its track, and u
  pub position_is : (u : ℕ) → 1 ≤ u → position ts u ≡ in_track ts (track ts u) (u - 1) + 1
  unfolding track
  position_is u h =
      let e : u - 1 + 1 ≡ u = omega arith in
      let r : in_track ts (track ts u) (u - 1 + 1) ≡ in_track ts (track ts u) (u - 1) + bit1 (eqb (get_or ts (u - 1) 0) (track ts u)) = in_next (track ts u) (u - 1) in
      let b : bit1 (eqb (get_or ts (u - 1) 0) (track ts u)) ≡ 1 = rw (eq-eqb (get_or ts (u - 1) 0) (get_or ts (u - 1) 0) refl) in
      let f : in_track ts (track ts u) (u - 1 + 1) ≡ in_track ts (track ts u) u = ap (in_track ts (track ts u)) e in
      omega arith

  pub position_pos : (u : ℕ) → 1 ≤ u → 1 ≤ position ts u
  position_pos u h = omega (arith, position_is u h)

  pub position-size : (u : ℕ) → u ≤ length ts → position ts u ≤ size ts (track ts u)
  position-size u h = in_up (track ts u) u (length ts) h

  -- along a track positions rise with the units
  pub position_up : (u v : ℕ) → track ts u ≡ track ts v → u < v → position ts u < position ts v
  position_up u v e h =
      let a : in_track ts (track ts u) u ≤ in_track ts (track ts u) (v - 1) = in_up (track ts u) u (v - 1) (omega arith) in
      let b : in_track ts (track ts u) (v - 1) ≡ in_track ts (track ts v) (v - 1) = ap (λ (q : ℕ). in_track ts q (v - 1)) e in
      omega (arith, position_is v (omega arith))

  -- so a unit is told by its track and its position
  pub position_same : (u v : ℕ) → track ts u ≡ track ts v → position ts u ≡ position ts v → u ≡ v
  position_same u v e p = go (dec_lt u v) (dec_lt v u)
    where
      go : Dec (u < v) → Dec (v < u) → u ≡ v
      go (yes l) w = absurd (omega (arith, position_up u v e l))
      go (no n) (yes l) = absurd (omega (arith, position_up v u (sym e) l))
      go (no n) (no m) = omega arith

  -- and rising positions mean rising units
  pub position_less : (u v : ℕ) → track ts u ≡ track ts v → position ts u < position ts v → u < v
  position_less u v e p = go (dec_lt u v) (dec_lt v u)
    where
      go : Dec (u < v) → Dec (v < u) → u < v
      go (yes l) w = l
      go (no n) (yes l) = absurd (omega (arith, position_up v u (sym e) l))
      go (no n) (no m) = absurd (let s : u ≡ v = omega arith in omega (arith, ap (position ts) s))

  -- the unit at a position
  pub record UnitAt (q i : ℕ) : Type 0 where
    pub unit : ℕ
    pub from : 1 ≤ unit
    pub to : unit ≤ length ts
    pub in_q : track ts unit ≡ q
    pub at_i : position ts unit ≡ i

  pub unit_found : (q i : ℕ) → 1 ≤ i → i ≤ size ts q → UnitAt q i
  unfolding in_track
  unit_found q i h l = go (count_find (λ j. eqb (get_or ts j 0) q) (length ts) (i - 1) (omega arith))
    where
      go : (j : ℕ) × (j < length ts) × (eqb (get_or ts j 0) q ≡ true) × (count (λ j. eqb (get_or ts j 0) q) j ≡ i - 1) → UnitAt q i
      go r =
          let t : track ts (r.0 + 1) ≡ q = track-next r.0 ∙ eqb-true _ _ r.2 in
          let s : r.0 + 1 - 1 ≡ r.0 = omega arith in
          let p : in_track ts (track ts (r.0 + 1)) (r.0 + 1 - 1) ≡ i - 1 = rw (t, s) r.3 in
          record { unit = r.0 + 1; from = omega arith; to = omega arith; in_q = t; at_i = omega (arith, position_is (r.0 + 1) (omega arith)) }

  pub unit_is : (q i u : ℕ) → 1 ≤ u → u ≤ length ts → track ts u ≡ q → position ts u ≡ i → unit_at ts q i ≡ u
  unfolding unit_at track
  unit_is q i u a b e f =
      greatest_is (λ j. cond (eqb (get_or ts j 0) q && eqb (in_track ts q (suc j)) i) (suc j) 0) (length ts) (u - 1) u (omega arith) met bound
    where
      met : cond (eqb (get_or ts (u - 1) 0) q && eqb (in_track ts q (suc (u - 1))) i) (suc (u - 1)) 0 ≡ u
      met =
          let s : suc (u - 1) ≡ u = omega arith in
          let p : in_track ts q u ≡ i = rw (sym e) f in
          rw (s, eq-eqb (get_or ts (u - 1) 0) q e, eq-eqb (in_track ts q u) i p)

      bound : (j : ℕ) → j < length ts → cond (eqb (get_or ts j 0) q && eqb (in_track ts q (suc j)) i) (suc j) 0 ≤ u
      bound j l = go (true_or_false (eqb (get_or ts j 0) q && eqb (in_track ts q (suc j)) i))
        where
          go : ((eqb (get_or ts j 0) q && eqb (in_track ts q (suc j)) i) ≡ true) ⊎ ((eqb (get_or ts j 0) q && eqb (in_track ts q (suc j)) i) ≡ false)
              → cond (eqb (get_or ts j 0) q && eqb (in_track ts q (suc j)) i) (suc j) 0 ≤ u
          go (inl t) =
              let r = and_both _ _ t in
              let s : j + 1 ≡ suc j = add-one j in
              let g : get_or ts j 0 ≡ q = eqb-true _ _ r.0 in
              let h : track ts (j + 1) ≡ q = track-next j ∙ g in
              let p : position ts (j + 1) ≡ i = rw (h, s) (eqb-true _ _ r.1) in
              let same : j + 1 ≡ u = position_same (j + 1) u (h ∙ sym e) (p ∙ sym f) in
              rw t (omega arith)
          go (inr t) = rw t zero-le

  -- no unit stands at position 0, nor past the end
  pub unit_none : (q i : ℕ) → (i ≡ 0) ⊎ (size ts q < i) → unit_at ts q i ≡ 0
  unfolding unit_at
  unit_none q i out =
      greatest_zero (λ j. cond (eqb (get_or ts j 0) q && eqb (in_track ts q (suc j)) i) (suc j) 0) (length ts) (λ j l. go j l (true_or_false _))
    where
      off : (j : ℕ) → j < length ts → get_or ts j 0 ≡ q → in_track ts q (suc j) ≡ i → (i ≡ 0) ⊎ (size ts q < i) → ⊥
      off j l e f (inl z) = omega (arith, in_past q j (suc j) (omega arith) e)
      off j l e f (inr z) = omega (arith, in_up q (suc j) (length ts) l)

      go : (j : ℕ) → j < length ts → ((eqb (get_or ts j 0) q && eqb (in_track ts q (suc j)) i) ≡ true) ⊎ ((eqb (get_or ts j 0) q && eqb (in_track ts q (suc j)) i) ≡ false)
          → cond (eqb (get_or ts j 0) q && eqb (in_track ts q (suc j)) i) (suc j) 0 ≡ 0
      go j l (inl t) = let r = and_both _ _ t in absurd (off j l (eqb-true _ _ r.0) (eqb-true _ _ r.1) out)
      go j l (inr t) = rw t

  -- ---- the unit before

  before_term : (u i : ℕ) → get_or ts i 0 ≡ track ts u → cond (eqb (get_or ts i 0) (track ts u)) (suc i) 0 ≡ suc i
  before_term u i e = rw (eq-eqb _ _ e)

  -- the first of a track has no unit before it
  pub before_none : (u : ℕ) → 1 ≤ u → position ts u ≡ 1 → unit_before ts u ≡ 0
  unfolding unit_before
  before_none u h p = greatest_zero (λ i. cond (eqb (get_or ts i 0) (track ts u)) (suc i) 0) (u - 1) (λ i l. go i l (true_or_false _))
    where
      go : (i : ℕ) → i < u - 1 → (eqb (get_or ts i 0) (track ts u) ≡ true) ⊎ (eqb (get_or ts i 0) (track ts u) ≡ false) → cond (eqb (get_or ts i 0) (track ts u)) (suc i) 0 ≡ 0
      go i l (inl t) = absurd (omega (arith, in_past (track ts u) i (u - 1) l (eqb-true _ _ t), position_is u h))
      go i l (inr t) = rw t

  -- any other stands right behind the one before it
  pub record Follows (u : ℕ) : Type 0 where
    pub from : 1 ≤ unit_before ts u
    pub under : unit_before ts u < u
    pub same_track : track ts (unit_before ts u) ≡ track ts u
    pub one_less : position ts (unit_before ts u) + 1 ≡ position ts u

  pub before_is : (u : ℕ) → 1 ≤ u → u ≤ length ts → 1 < position ts u → Follows u
  unfolding unit_before track
  before_is u h l p = go (unit_found (track ts u) (position ts u - 1) (omega arith) (omega (arith, position-size u l)))
    where
      go : UnitAt (track ts u) (position ts u - 1) → Follows u
      go w =
          let lt : w.unit < u = position_less w.unit u w.in_q (omega (arith, w.at_i)) in
          let wf = w.from in
          let s : suc (w.unit - 1) ≡ w.unit = omega arith in
          let e : unit_before ts u ≡ w.unit =
          greatest_is (λ i. cond (eqb (get_or ts i 0) (track ts u)) (suc i) 0) (u - 1) (w.unit - 1) w.unit (omega arith)
          (before_term u (w.unit - 1) (at_unit w) ∙ s) (λ i q. bound w i q (true_or_false _)) in
          record { from = rw e wf; under = rw e lt; same_track = rw e w.in_q; one_less = rw e (omega (arith, w.at_i)) }
        where
          at_unit : (w : UnitAt (track ts u) (position ts u - 1)) → get_or ts (w.unit - 1) 0 ≡ track ts u
          at_unit w = w.in_q

          bound : (w : UnitAt (track ts u) (position ts u - 1)) (i : ℕ) → i < u - 1 → (eqb (get_or ts i 0) (track ts u) ≡ true) ⊎ (eqb (get_or ts i 0) (track ts u) ≡ false)
              → cond (eqb (get_or ts i 0) (track ts u)) (suc i) 0 ≤ w.unit
          bound w i q (inl t) =
              let t' : track ts (i + 1) ≡ track ts u = track-next i ∙ eqb-true _ _ t in
              let lp : position ts (i + 1) < position ts u = position_up (i + 1) u t' (omega arith) in
              rw t (most (dec_lt w.unit (i + 1)) t' lp)
            where
              most : Dec (w.unit < i + 1) → track ts (i + 1) ≡ track ts u → position ts (i + 1) < position ts u → suc i ≤ w.unit
              most (yes m) e lp = absurd (omega (arith, position_up w.unit (i + 1) (w.in_q ∙ sym e) m, w.at_i))
              most (no n) e lp = omega arith
          bound w i q (inr t) = rw t zero-le

-- ---- the lengths of the tracks

-- exactly one number below k is q
one_of : (k q : ℕ) → q < k → sum (λ p. bit1 (eqb q p)) k ≡ 1
one_of zero q h = absurd (omega arith)
one_of (suc k) q h = sum-suc (λ p. bit1 (eqb q p)) k ∙ go (λ l. one_of k q l) (dec_lt q k)
  where
    go : (q < k → sum (λ p. bit1 (eqb q p)) k ≡ 1) → Dec (q < k) → sum (λ p. bit1 (eqb q p)) k + bit1 (eqb q k) ≡ 1
    go below (yes l) = let b : bit1 (eqb q k) ≡ 0 = rw (ne_eqb q k (λ e. omega arith)) in omega (arith, below l)
    go below (no n) =
        let e : q ≡ k = omega arith in
        let b : bit1 (eqb q k) ≡ 1 = rw (eq-eqb q k e) in
        let z : sum (λ p. bit1 (eqb q p)) k ≡ 0 = sum_zero (λ p. bit1 (eqb q p)) k (λ p l. rw (ne_eqb q p (λ f. omega arith))) in
        omega arith

-- among the first m units each is in one track
pub in_all : (ts : List ℕ) (k m : ℕ) → ((i : ℕ) → i < m → get_or ts i 0 < k) → sum (λ q. in_track ts q m) k ≡ m
in_all ts k zero h = sum_zero (λ q. in_track ts q 0) k (λ q l. in_none ts q)
in_all ts k (suc m) h =
    sum_same (λ q. in_track ts q (suc m)) (λ q. in_track ts q m + bit1 (eqb (get_or ts m 0) q)) k (λ q l. rw (sym (add-one m)) (in_next ts q m))
    ∙ sum_plus (λ q. in_track ts q m) (λ q. bit1 (eqb (get_or ts m 0) q)) k
    ∙ omega (arith, in_all ts k m (λ i l. h i (omega arith)), one_of k (get_or ts m 0) (h m (omega arith)))

-- so the lengths add up to the units
pub sizes_all : (ts : List ℕ) (k : ℕ) → ((i : ℕ) → i < length ts → get_or ts i 0 < k) → sum (size ts) k ≡ length ts
sizes_all ts k h = in_all ts k (length ts) h

-- ---- one unit more

module _ (ts : List ℕ) where
  -- its own track has one more
  pub in_own : (q m : ℕ) → get_or ts m 0 ≡ q → in_track ts q (m + 1) ≡ in_track ts q m + 1
  in_own q m e = in_next ts q m ∙ rw (eq-eqb (get_or ts m 0) q e)

  -- and no other
  pub in_other : (q m : ℕ) → (get_or ts m 0 ≡ q → ⊥) → in_track ts q (m + 1) ≡ in_track ts q m
  in_other q m n =
      let b : bit1 (eqb (get_or ts m 0) q) ≡ 0 = rw (ne_eqb (get_or ts m 0) q n) in
      omega (arith, in_next ts q m)
