-- low and high: how they bound what is needed, the row recurrence of low, and what sound tracks add: u needs v exactly when v's position
-- is at most low(u, track of v), and v is a direct step of u exactly by kind 11's formula. Assumes nothing.
use Rattle.std.specs.Prelude.{Ok}
use Prim.Native.Nat.{ℕ, zero, suc, ◌+◌, ◌-◌, ◌≤◌, ◌<◌, zero-le}
use mathlib.Core.Path.{◌≡◌, refl, sym, ap, ◌∙◌, subst}
use mathlib.Core.Bool.{true, false, cond, not, ◌&&◌}
use mathlib.Core.Logic.{◌⊎◌, inl, inr}
use native.Mathlib.Omega.{arith}
use native.Mathlib.Nat.{le_refl, le_trans, le_antisymm}
use native.Mathlib.Decide.{dec_lt, dec_le, ℕ_discrete}
use lib.ListN.{length, get_or}
use lib.Dec.{leb, ltb, eqb}
use borrow.Author.Tests.{eq-eqb, ne_eqb, eqb-true, le-leb, leb-true, lt-ltb, ltb-true, not-true, not-false}
use Rattle.rules.specs.declared.Refusal.TheVariants.{UnsoundTrack}
use Rattle.rules.specs.Ranges.{greatest, every, some}
use Rattle.rules.specs.Listing.{Listing, Listed, pairs, upper, lower, track, size, position}
use Rattle.rules.specs.Order.{needs, step, unit_before, unsound, sound_verdict, low, high}
use Rattle.rules.specs.Questions.{kind10_by, kind11_by}
use Rattle.rules.proofs.Ranges.{true_or_false, not_both, greatest_bound, greatest_least, greatest_met, smallest-start, smallest_bound, smallest_met, every_all, every_one, some_yes, some_none}
use Rattle.rules.proofs.Verdicts.{and_both, both_and, not_yes, same_test, refuse_fine}
use Rattle.rules.proofs.Needs.{listed_at, needs_down, needs_trans, needs-first, needs_more, needs_in, needs_path}
use Rattle.rules.proofs.Tracks.{position_pos, position-size, position_up, position_same, in_le, before_none, Follows, before_is, track-next}
use Rattle.rules.proofs.Accepted.{Accepted}

-- what a hop to v brings in track q: v itself where it is of that track, else what v needs there
unfoldable pub reach : Listing → ℕ → ℕ → ℕ
reach c v q = cond (eqb (track c.tracks v) q) (position c.tracks v) (low c v q)

module _ (c : Listing) (a : Accepted c) where
  -- ---- low

  -- what u needs in track q is at most low(u, q)
  pub low_bound : (u v q : ℕ) → needs c.needs u v ≡ true → track c.tracks v ≡ q → position c.tracks v ≤ low c u q
  unfolding low
  low_bound u v q h e =
      let l : v < u = needs_down c.needs a.needs_pairs.goes_down u v h in
      let t : (eqb (track c.tracks v) q && needs c.needs u v) ≡ true = both_and (eq-eqb _ _ e) h in
      let b : cond (eqb (track c.tracks v) q && needs c.needs u v) (position c.tracks v) 0 ≤ low c u q =
      greatest_bound (λ v. cond (eqb (track c.tracks v) q && needs c.needs u v) (position c.tracks v) 0) u v l in
      let b' : position c.tracks v ≤ low c u q = rw t at b in
      b'

  -- a low above 0 is the position of a unit that u needs
  pub record LowMet (u q : ℕ) : Type 0 where
    pub unit : ℕ
    pub needed : needs c.needs u unit ≡ true
    pub in_q : track c.tracks unit ≡ q
    pub at_low : position c.tracks unit ≡ low c u q

  pub low_met : (u q : ℕ) → 0 < low c u q → LowMet u q
  unfolding low
  low_met u q h = go (greatest_met (λ v. cond (eqb (track c.tracks v) q && needs c.needs u v) (position c.tracks v) 0) u h)
    where
      go : (v : ℕ) × (v < u) × (cond (eqb (track c.tracks v) q && needs c.needs u v) (position c.tracks v) 0 ≡ low c u q) → LowMet u q
      go r = at_test (true_or_false (eqb (track c.tracks r.0) q && needs c.needs u r.0))
        where
          at_test : ((eqb (track c.tracks r.0) q && needs c.needs u r.0) ≡ true) ⊎ ((eqb (track c.tracks r.0) q && needs c.needs u r.0) ≡ false) → LowMet u q
          at_test (inl t) =
              let s = and_both _ _ t in
              record { unit = r.0; needed = s.1; in_q = eqb-true _ _ s.0; at_low = rw t at r.2 }
          at_test (inr t) = absurd (let z : 0 ≡ low c u q = rw t at r.2 in omega arith)

  pub track_below : (u : ℕ) → 1 ≤ u → u ≤ c.n → track c.tracks u < c.k
  unfolding track
  track_below u l m = a.tracks_below (u - 1) (omega arith)

  -- what bounds every needed position bounds low
  pub low_least : (u q b : ℕ) → ((v : ℕ) → needs c.needs u v ≡ true → track c.tracks v ≡ q → position c.tracks v ≤ b) → low c u q ≤ b
  low_least u q b h = go (dec_lt 0 (low c u q))
    where
      go : Dec (0 < low c u q) → low c u q ≤ b
      go (yes l) = let m = low_met u q l in rw (sym m.at_low) (h m.unit m.needed m.in_q)
      go (no n) = omega arith

  -- a needed unit is a unit below u
  pub needed_in : (u v : ℕ) → needs c.needs u v ≡ true → (1 ≤ v) × (v < u) × (u ≤ c.n)
  needed_in u v h = needs_in a.needs_pairs (needs_path h)

  pub low-size : (u q : ℕ) → low c u q ≤ size c.tracks q
  low-size u q = low_least u q (size c.tracks q) (λ v h e.
      let r = needed_in u v h in
      let l : v ≤ length c.tracks = omega (arith, a.tracks_long) in
      subst (λ (p : ℕ). position c.tracks v ≤ size c.tracks p) e (position-size c.tracks v l))

  -- in its own track a unit needs only what stands before it
  pub low_under : (u : ℕ) → 1 ≤ u → low c u (track c.tracks u) < position c.tracks u
  low_under u l =
      let b : low c u (track c.tracks u) ≤ position c.tracks u - 1 = low_least u (track c.tracks u) (position c.tracks u - 1)
      (λ v h e. omega (arith, position_up c.tracks v u e (needed_in u v h).1)) in
      omega (arith, position_pos c.tracks u l)

  -- ---- the row recurrence, sound tracks or not

  reach_bound : (u v q : ℕ) → Listed c.needs u v → reach c v q ≤ low c u q
  unfolding reach
  reach_bound u v q h = go (true_or_false (eqb (track c.tracks v) q))
    where
      go : (eqb (track c.tracks v) q ≡ true) ⊎ (eqb (track c.tracks v) q ≡ false)
          → cond (eqb (track c.tracks v) q) (position c.tracks v) (low c v q) ≤ low c u q
      go (inl t) = rw t (low_bound u v q (needs_more c.needs a.needs_pairs.goes_down u v v h (inl refl)) (eqb-true _ _ t))
      go (inr t) = rw t (low_least v q (low c u q) (λ w n e. low_bound u w q (needs_more c.needs a.needs_pairs.goes_down u v w h (inr n)) e))

  -- a unit of track q that v is or needs is at most reach(v, q)
  reach_self : (v q : ℕ) → track c.tracks v ≡ q → position c.tracks v ≤ reach c v q
  unfolding reach
  reach_self v q e = rw (eq-eqb _ _ e) (le_refl _)

  reach_needed : (v w q : ℕ) → needs c.needs v w ≡ true → track c.tracks w ≡ q → position c.tracks w ≤ reach c v q
  unfolding reach
  reach_needed v w q h e = go (true_or_false (eqb (track c.tracks v) q))
    where
      go : (eqb (track c.tracks v) q ≡ true) ⊎ (eqb (track c.tracks v) q ≡ false)
          → position c.tracks w ≤ cond (eqb (track c.tracks v) q) (position c.tracks v) (low c v q)
      go (inl t) =
          let s : track c.tracks w ≡ track c.tracks v = e ∙ sym (eqb-true _ _ t) in
          rw t (omega (arith, position_up c.tracks w v s (needed_in v w h).1))
      go (inr t) = rw t (low_bound v w q h e)

  -- what pair i brings u in track q
  unfoldable pub row_term : ℕ → ℕ → ℕ → ℕ
  row_term u q i = cond (eqb (upper c.needs i) u) (reach c (lower c.needs i) q) 0

  row_term_lem : (u q i : ℕ) → upper c.needs i ≡ u → row_term u q i ≡ reach c (lower c.needs i) q
  unfolding row_term
  row_term_lem u q i e = rw (eq-eqb _ _ e)

  row_none : (u q i : ℕ) → eqb (upper c.needs i) u ≡ false → row_term u q i ≡ 0
  unfolding row_term
  row_none u q i t = rw t

  -- low(u, q) is the greatest that any listed need of u brings
  pub low_row : (u q : ℕ) → low c u q ≡ greatest (row_term u q) (pairs c.needs)
  low_row u q = le_antisymm up down
    where
      term : (i : ℕ) → i < pairs c.needs → (eqb (upper c.needs i) u ≡ true) ⊎ (eqb (upper c.needs i) u ≡ false) → row_term u q i ≤ low c u q
      term i l (inl t) =
          let e : upper c.needs i ≡ u = eqb-true _ _ t in
          let h : Listed c.needs u (lower c.needs i) = rw e at (listed_at c.needs i l) in
          rw (row_term_lem u q i e) (reach_bound u (lower c.needs i) q h)
      term i l (inr t) = rw (row_none u q i t) zero-le

      down : greatest (row_term u q) (pairs c.needs) ≤ low c u q
      down = greatest_least (row_term u q) (pairs c.needs) (low c u q) (λ i l. term i l (true_or_false _))

      through : (v w : ℕ) → (h : Listed c.needs u w) → reach c w q ≤ greatest (row_term u q) (pairs c.needs)
      through v w h =
          let g : row_term u q h.at ≤ greatest (row_term u q) (pairs c.needs) = greatest_bound (row_term u q) (pairs c.needs) h.at h.within in
          let e : row_term u q h.at ≡ reach c w q = row_term_lem u q h.at h.first_is ∙ ap (λ (x : ℕ). reach c x q) h.second_is in
          omega arith

      hop : (v : ℕ) → track c.tracks v ≡ q → (w : ℕ) × Listed c.needs u w × ((w ≡ v) ⊎ (needs c.needs w v ≡ true))
          → position c.tracks v ≤ greatest (row_term u q) (pairs c.needs)
      hop v e r = le_trans (last r.2) (through v r.0 r.1)
        where
          last : (r.0 ≡ v) ⊎ (needs c.needs r.0 v ≡ true) → position c.tracks v ≤ reach c r.0 q
          last (inl s) = rw s (reach_self v q e)
          last (inr n) = reach_needed r.0 v q n e

      up : low c u q ≤ greatest (row_term u q) (pairs c.needs)
      up = low_least u q _ (λ v h e. hop v e (needs-first c.needs a.needs_pairs.goes_down u v h))

  -- ---- soundness

  -- u needs the unit before it exactly when its own low is one less than its position
  needs_before : (u : ℕ) → 1 ≤ u → Follows c.tracks u
      → needs c.needs u (unit_before c.tracks u) ≡ eqb (low c u (track c.tracks u) + 1) (position c.tracks u)
  needs_before u l b = same_test _ _ to from
    where
      to : needs c.needs u (unit_before c.tracks u) ≡ true → eqb (low c u (track c.tracks u) + 1) (position c.tracks u) ≡ true
      to h = eq-eqb (low c u (track c.tracks u) + 1) (position c.tracks u) (omega (arith, low_bound u (unit_before c.tracks u) (track c.tracks u) h b.same_track, b.one_less, low_under u l))

      same_unit : low c u (track c.tracks u) + 1 ≡ position c.tracks u → LowMet u (track c.tracks u) → needs c.needs u (unit_before c.tracks u) ≡ true
      same_unit e m =
          let s : m.unit ≡ unit_before c.tracks u = position_same c.tracks m.unit (unit_before c.tracks u) (m.in_q ∙ sym b.same_track)
          (omega (arith, m.at_low, b.one_less)) in
          rw (sym s) m.needed

      from : eqb (low c u (track c.tracks u) + 1) (position c.tracks u) ≡ true → needs c.needs u (unit_before c.tracks u) ≡ true
      from t =
          let e : low c u (track c.tracks u) + 1 ≡ position c.tracks u = eqb-true _ _ t in
          same_unit e (low_met u (track c.tracks u) (omega (arith, b.one_less, position_pos c.tracks (unit_before c.tracks u) b.from)))

  pub own_sound : (i : ℕ) → i < c.n
      → unsound c i ≡ not (eqb (low c (i + 1) (track c.tracks (i + 1)) + 1) (position c.tracks (i + 1)))
  unfolding unsound
  own_sound i h = go (dec_lt 1 (position c.tracks (i + 1)))
    where
      go : Dec (1 < position c.tracks (i + 1))
          → unsound c i ≡ not (eqb (low c (i + 1) (track c.tracks (i + 1)) + 1) (position c.tracks (i + 1)))
      go (yes l) =
          let b : Follows c.tracks (i + 1) = before_is c.tracks (i + 1) (omega arith) (omega (arith, a.tracks_long)) l in
          rw (lt-ltb 0 (unit_before c.tracks (i + 1)) b.from, needs_before (i + 1) (omega arith) b)
      go (no n) =
          let p : position c.tracks (i + 1) ≡ 1 = omega (arith, position_pos c.tracks (i + 1) (omega arith)) in
          let e : low c (i + 1) (track c.tracks (i + 1)) + 1 ≡ position c.tracks (i + 1) = omega (arith, low_under (i + 1) (omega arith)) in
          rw (before_none c.tracks (i + 1) (omega arith) p, eq-eqb _ _ e)

  -- each unit's own low is one less than its position
  abbrev pub OwnLow : Type 0
  OwnLow = (u : ℕ) → 1 ≤ u → u ≤ c.n → low c u (track c.tracks u) + 1 ≡ position c.tracks u

  pub sound_own : sound_verdict c ≡ Ok tt → OwnLow
  unfolding sound_verdict
  sound_own h u l m =
      let e : u - 1 + 1 ≡ u = omega arith in
      let f : unsound c (u - 1) ≡ false = refuse_fine (unsound c) c.n (λ i. UnsoundTrack (i + 1)) h (u - 1) (omega arith) in
      let g : not (eqb (low c u (track c.tracks u) + 1) (position c.tracks u)) ≡ false =
      rw e at (sym (own_sound (u - 1) (omega arith)) ∙ f) in
      eqb-true _ _ (not-false _ g)

-- ---- with sound tracks

module _ (c : Listing) (a : Accepted c) (sound : sound_verdict c ≡ Ok tt) where
  own : (u : ℕ) → 1 ≤ u → u ≤ c.n → low c u (track c.tracks u) + 1 ≡ position c.tracks u
  own = sound_own c a sound

  -- along a track each unit needs all before it; by the distance d between the two
  chain : (d u v : ℕ) → 1 ≤ v → u ≤ c.n → track c.tracks v ≡ track c.tracks u → position c.tracks v + d ≡ position c.tracks u → 0 < d
      → needs c.needs u v ≡ true
  chain zero u v l m e p z = absurd (omega arith)
  chain (suc d) u v l m e p z = go (λ w x y q r. chain d w v l x y q r) (low_met c a u (track c.tracks u) (omega (arith, own u first m, position_pos c.tracks v l)))
    where
      first : 1 ≤ u
      first = omega (arith, in_le c.tracks (track c.tracks u) u)

      go : ((w : ℕ) → w ≤ c.n → track c.tracks v ≡ track c.tracks w → position c.tracks v + d ≡ position c.tracks w → 0 < d → needs c.needs w v ≡ true)
          → LowMet c a u (track c.tracks u) → needs c.needs u v ≡ true
      go below w = near (ℕ_discrete d 0)
        where
          here : position c.tracks w.unit + 1 ≡ position c.tracks u
          here = omega (arith, w.at_low, own u first m)

          near : Dec (d ≡ 0) → needs c.needs u v ≡ true
          near (yes z) =
              let s : w.unit ≡ v = position_same c.tracks w.unit v (w.in_q ∙ sym e) (omega (arith, here)) in
              rw (sym s) w.needed
          near (no n) =
              needs_trans c.needs a.needs_pairs.goes_down u w.unit v w.needed
              (below w.unit (omega (arith, needed_in c a u w.unit w.needed)) (e ∙ sym w.in_q) (omega (arith, here)) (omega arith))

  pub sound_needs : (u v : ℕ) → 1 ≤ v → u ≤ c.n → track c.tracks v ≡ track c.tracks u → position c.tracks v < position c.tracks u
      → needs c.needs u v ≡ true
  sound_needs u v l m e h = chain (position c.tracks u - position c.tracks v) u v l m e (omega arith) (omega arith)

  -- u needs v, or needs a unit of v's track that needs v, exactly when v's position is at most low(u, track of v)
  pub needs-low : (u v : ℕ) → 1 ≤ v → v ≤ c.n → needs c.needs u v ≡ kind10_by (low c) c.tracks u v
  unfolding kind10_by
  needs-low u v l m = same_test _ _ to from
    where
      to : needs c.needs u v ≡ true → leb (position c.tracks v) (low c u (track c.tracks v)) ≡ true
      to h = le-leb _ _ (low_bound c a u v (track c.tracks v) h refl)

      by_met : position c.tracks v ≤ low c u (track c.tracks v) → LowMet c a u (track c.tracks v) → needs c.needs u v ≡ true
      by_met h w = go (ℕ_discrete (position c.tracks v) (position c.tracks w.unit))
        where
          go : Dec (position c.tracks v ≡ position c.tracks w.unit) → needs c.needs u v ≡ true
          go (yes e) = let s : v ≡ w.unit = position_same c.tracks v w.unit (sym w.in_q) e in rw s w.needed
          go (no n) =
              needs_trans c.needs a.needs_pairs.goes_down u w.unit v w.needed
              (sound_needs w.unit v l (omega (arith, needed_in c a u w.unit w.needed)) (sym w.in_q) (omega (arith, w.at_low)))

      from : leb (position c.tracks v) (low c u (track c.tracks v)) ≡ true → needs c.needs u v ≡ true
      from t =
          let h : position c.tracks v ≤ low c u (track c.tracks v) = leb-true _ _ t in
          by_met h (low_met c a u (track c.tracks v) (omega (arith, position_pos c.tracks v l)))

  -- low rises along a track
  pub low_rises : (u v q : ℕ) → 1 ≤ u → v ≤ c.n → track c.tracks u ≡ track c.tracks v → position c.tracks u < position c.tracks v
      → low c u q ≤ low c v q
  low_rises u v q l m e h =
      low_least c a u q (low c v q)
      (λ w n t. low_bound c a v w q (needs_trans c.needs a.needs_pairs.goes_down v u w (sound_needs v u l m e h) n) t)

  -- ---- high

  -- what bounds and meets high, over the units of track q
  high_term : ℕ → ℕ → ℕ → ℕ
  high_term u q i = cond (eqb (get_or c.tracks i 0) q && needs c.needs (i + 1) u) (position c.tracks (i + 1)) (size c.tracks q + 1)

  pub high_most : (u q : ℕ) → high c u q ≤ size c.tracks q + 1
  unfolding high high_term
  high_most u q = smallest-start (size c.tracks q + 1) (high_term u q) c.n

  pub high_bound : (u v : ℕ) → 1 ≤ v → v ≤ c.n → needs c.needs v u ≡ true → high c u (track c.tracks v) ≤ position c.tracks v
  unfolding high high_term
  high_bound u v l m h =
      let s : v - 1 + 1 ≡ v = omega arith in
      let t : get_or c.tracks (v - 1) 0 ≡ track c.tracks v = sym (track-next c.tracks (v - 1)) ∙ ap (track c.tracks) s in
      let n : needs c.needs (v - 1 + 1) u ≡ true = rw s h in
      let b : high c u (track c.tracks v) ≤ high_term u (track c.tracks v) (v - 1) =
      smallest_bound (size c.tracks (track c.tracks v) + 1) (high_term u (track c.tracks v)) c.n (v - 1) (omega arith) in
      let e : high_term u (track c.tracks v) (v - 1) ≡ position c.tracks v = rw (both_and (eq-eqb _ _ t) n, s) in
      omega arith

  pub record HighMet (u q : ℕ) : Type 0 where
    pub unit : ℕ
    pub from : 1 ≤ unit
    pub to : unit ≤ c.n
    pub needing : needs c.needs unit u ≡ true
    pub in_q : track c.tracks unit ≡ q
    pub at_high : position c.tracks unit ≡ high c u q

  pub high_met : (u q : ℕ) → high c u q ≤ size c.tracks q → HighMet u q
  unfolding high high_term
  high_met u q h = go (smallest_met (size c.tracks q + 1) (high_term u q) c.n (omega arith))
    where
      go : (i : ℕ) × (i < c.n) × (high_term u q i ≡ high c u q) → HighMet u q
      go r = at_test (true_or_false (eqb (get_or c.tracks r.0 0) q && needs c.needs (r.0 + 1) u))
        where
          at_test : ((eqb (get_or c.tracks r.0 0) q && needs c.needs (r.0 + 1) u) ≡ true) ⊎ ((eqb (get_or c.tracks r.0 0) q && needs c.needs (r.0 + 1) u) ≡ false) → HighMet u q
          at_test (inl t) =
              let s = and_both (eqb (get_or c.tracks r.0 0) q) (needs c.needs (r.0 + 1) u) t in
              record { unit = r.0 + 1; from = omega arith; to = omega arith; needing = s.1; in_q = track-next c.tracks r.0 ∙ eqb-true _ _ s.0; at_high = rw t at r.2 }
          at_test (inr t) = absurd (let z : size c.tracks q + 1 ≡ high c u q = rw t at r.2 in omega arith)

  pub high_pos : (u q : ℕ) → 1 ≤ high c u q
  high_pos u q = go (dec_le (high c u q) (size c.tracks q))
    where
      go : Dec (high c u q ≤ size c.tracks q) → 1 ≤ high c u q
      go (yes l) = let w = high_met u q l in omega (arith, w.at_high, position_pos c.tracks w.unit w.from)
      go (no n) = omega arith

  -- v of track q needs u exactly when v's position is at least high(u, q)
  pub needs-high : (u v : ℕ) → 1 ≤ u → 1 ≤ v → v ≤ c.n → needs c.needs v u ≡ leb (high c u (track c.tracks v)) (position c.tracks v)
  needs-high u v k l m = same_test _ _ to from
    where
      to : needs c.needs v u ≡ true → leb (high c u (track c.tracks v)) (position c.tracks v) ≡ true
      to h = le-leb _ _ (high_bound u v l m h)

      by_met : high c u (track c.tracks v) ≤ position c.tracks v → HighMet u (track c.tracks v) → needs c.needs v u ≡ true
      by_met h w = go (ℕ_discrete (position c.tracks w.unit) (position c.tracks v))
        where
          go : Dec (position c.tracks w.unit ≡ position c.tracks v) → needs c.needs v u ≡ true
          go (yes e) = let s : w.unit ≡ v = position_same c.tracks w.unit v w.in_q e in rw (sym s) w.needing
          go (no n) =
              needs_trans c.needs a.needs_pairs.goes_down v w.unit u
              (sound_needs v w.unit w.from m w.in_q (omega (arith, w.at_high))) w.needing

      from : leb (high c u (track c.tracks v)) (position c.tracks v) ≡ true → needs c.needs v u ≡ true
      from t =
          let h : high c u (track c.tracks v) ≤ position c.tracks v = leb-true _ _ t in
          by_met h (high_met u (track c.tracks v) (omega (arith, position-size c.tracks v (let e : v ≤ length c.tracks = omega (arith, a.tracks_long) in e))))

  -- ---- direct steps

  -- v is a direct step of u exactly when u needs v and low(u, p) < high(v, p) for every track p
  pub step-between : (u v : ℕ) → 1 ≤ v → v ≤ c.n → step c.needs u v ≡ kind11_by (low c) (high c) c.tracks c.k u v
  unfolding step kind11_by
  step-between u v l m = same_test _ _ to from
    where
      apart : (p : ℕ) → step c.needs u v ≡ true → p < c.k → LowMet c a u p → high c v p ≤ low c u p → ⊥
      apart p s h w z =
          let r = and_both (needs c.needs u v) (not (some (λ w. needs c.needs u w && needs c.needs w v) u)) s in
          let i = needed_in c a u w.unit w.needed in
          let n : needs c.needs w.unit v ≡ true =
          needs-high v w.unit l i.0 (omega arith)
          ∙ le-leb (high c v (track c.tracks w.unit)) (position c.tracks w.unit) (omega (arith, ap (high c v) w.in_q, w.at_low)) in
          let y : some (λ w. needs c.needs u w && needs c.needs w v) u ≡ true =
          some_yes (λ w. needs c.needs u w && needs c.needs w v) u w.unit i.1 (both_and w.needed n) in
          not_both y (not-true (some (λ w. needs c.needs u w && needs c.needs w v) u) r.1)

      below : step c.needs u v ≡ true → (p : ℕ) → p < c.k → ltb (low c u p) (high c v p) ≡ true
      below s p h = go (dec_lt (low c u p) (high c v p))
        where
          go : Dec (low c u p < high c v p) → ltb (low c u p) (high c v p) ≡ true
          go (yes q) = lt-ltb _ _ q
          go (no n) = absurd (apart p s h (low_met c a u p (omega (arith, high_pos v p))) (omega arith))

      to : step c.needs u v ≡ true → (kind10_by (low c) c.tracks u v && every (λ p. ltb (low c u p) (high c v p)) c.k) ≡ true
      to s =
          let r = and_both (needs c.needs u v) (not (some (λ w. needs c.needs u w && needs c.needs w v) u)) s in
          both_and (sym (needs-low u v l m) ∙ r.0) (every_all (λ p. ltb (low c u p) (high c v p)) c.k (below s))

      none : (every (λ p. ltb (low c u p) (high c v p)) c.k) ≡ true → (w : ℕ) → w < u → needs c.needs u w ≡ true → needs c.needs w v ≡ true → ⊥
      none t w h x y =
          let i = needed_in c a u w x in
          let q : track c.tracks w < c.k = track_below c a w i.0 (omega arith) in
          let z : low c u (track c.tracks w) < high c v (track c.tracks w) = ltb-true _ _ (every_one (λ p. ltb (low c u p) (high c v p)) c.k (track c.tracks w) t q) in
          omega (arith, low_bound c a u w (track c.tracks w) x refl, high_bound v w i.0 (omega arith) y)

      from : (kind10_by (low c) c.tracks u v && every (λ p. ltb (low c u p) (high c v p)) c.k) ≡ true → step c.needs u v ≡ true
      from t =
          let r = and_both (kind10_by (low c) c.tracks u v) (every (λ p. ltb (low c u p) (high c v p)) c.k) t in
          both_and (needs-low u v l m ∙ r.0)
          (rw (some_none (λ w. needs c.needs u w && needs c.needs w v) u (λ w h. not_yes _ (λ s.
          let b = and_both (needs c.needs u w) (needs c.needs w v) s in none r.1 w h b.0 b.1))))

-- ---- reach in the unit's own track, and in another

module _ (c : Listing) where
  pub reach_own : (u : ℕ) → reach c u (track c.tracks u) ≡ position c.tracks u
  unfolding reach
  reach_own u = rw (eq-eqb (track c.tracks u) (track c.tracks u) refl)

  pub reach_other : (u q : ℕ) → (track c.tracks u ≡ q → ⊥) → reach c u q ≡ low c u q
  unfolding reach
  reach_other u q n = rw (ne_eqb (track c.tracks u) q n)
