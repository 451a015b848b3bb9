-- The last unit of a track that u needs, and the first that needs u: they stand at low and at high, and where there is none, no unit stands
-- there. Assumes nothing.
use Rattle.std.specs.Prelude.{Ok}
use Prim.Native.Nat.{ℕ, ◌≤◌, ◌<◌}
use mathlib.Core.Path.{◌≡◌, sym, ap, ◌∙◌, subst}
use mathlib.Core.Logic.{◌↔◌, ◌⊎◌, inl, inr}
use native.Mathlib.Omega.{arith}
use native.Mathlib.Nat.{le_antisymm}
use native.Mathlib.Decide.{dec_lt, dec_le}
use lib.ListN.{length}
use Rattle.rules.specs.Listing.{Listing, track, size, position}
use Rattle.rules.specs.Order.{Needs, sound_verdict, low, high}
use Rattle.rules.specs.Questions.{unit_at}
use Rattle.rules.proofs.Needs.{needs_path, path_needs, needs_in}
use Rattle.rules.proofs.Accepted.{Accepted}
use Rattle.rules.proofs.Tracks.{position_pos, position-size, position_up, unit_is, unit_none}
use Rattle.rules.proofs.Bounds.{LowMet, low_met, low_bound, HighMet, high_met, high_bound}

-- v is the last unit of track q that u needs
pub record LastNeeded (c : Listing) (u q v : ℕ) : Type 0 where
  pub in_track : track c.tracks v ≡ q
  pub needed : Needs c.needs u v
  pub none_later : (w : ℕ) → track c.tracks w ≡ q → Needs c.needs u w → w ≤ v

abbrev pub NoneNeeded : Listing → ℕ → ℕ → Type 0
NoneNeeded c u q = (w : ℕ) → track c.tracks w ≡ q → Needs c.needs u w → ⊥

-- v is the first unit of track q that needs u
pub record FirstNeeding (c : Listing) (u q v : ℕ) : Type 0 where
  pub in_track : track c.tracks v ≡ q
  pub needing : Needs c.needs v u
  pub none_sooner : (w : ℕ) → track c.tracks w ≡ q → Needs c.needs w u → v ≤ w

abbrev pub NoneNeeding : Listing → ℕ → ℕ → Type 0
NoneNeeding c u q = (w : ℕ) → track c.tracks w ≡ q → Needs c.needs w u → ⊥

-- ---- a number that is a unit of which P holds, or 0 where N says that there is none

abbrev Found : (ℕ → Type 0) → Type 0 → ℕ → Type 0
Found P N t = ((1 ≤ t) × P t) ⊎ ((t ≡ 0) × N)

module _ {P : ℕ → Type 0} {N : Type 0} {t : ℕ} (found : Found P N t) where
  one_exactly : ((v w : ℕ) → P v → P w → v ≡ w) → ((v : ℕ) → P v → N → ⊥) → (v : ℕ) → 1 ≤ v → (t ≡ v) ↔ P v
  one_exactly once either v l = (to found, from found)
    where
      to : Found P N t → t ≡ v → P v
      to (inl f) e = subst P e f.1
      to (inr f) e = absurd (omega (arith, f.0))

      from : Found P N t → P v → t ≡ v
      from (inl f) p = once t v f.1 p
      from (inr f) p = absurd (either v p f.1)

  none_exactly : ((v : ℕ) → P v → N → ⊥) → (t ≡ 0) ↔ N
  none_exactly either = (to found, from found)
    where
      to : Found P N t → t ≡ 0 → N
      to (inl f) e = absurd (omega (arith, f.0))
      to (inr f) e = f.1

      from : Found P N t → N → t ≡ 0
      from (inl f) n = absurd (either t f.1 n)
      from (inr f) n = f.0

-- ---- low

module _ (c : Listing) (a : Accepted c) (u q : ℕ) where
  low_found : Found (LastNeeded c u q) (NoneNeeded c u q) (unit_at c.tracks q (low c u q))
  low_found = go (dec_lt 0 (low c u q))
    where
      bound : (w : ℕ) → track c.tracks w ≡ q → Needs c.needs u w → (1 ≤ position c.tracks w) × (position c.tracks w ≤ low c u q)
      bound w t p =
          (position_pos c.tracks w (needs_in a.needs_pairs p).0, low_bound c a u w q (path_needs c.needs a.needs_pairs.goes_down p) t)

      met : (m : LowMet c a u q) → (1 ≤ m.unit) × LastNeeded c u q m.unit
      met m = (
        (needs_in a.needs_pairs (needs_path m.needed)).0,
        record { in_track = m.in_q; needed = needs_path m.needed; none_later = λ w t p. later w t p (dec_lt m.unit w) },
      )
        where
          later : (w : ℕ) → track c.tracks w ≡ q → Needs c.needs u w → Dec (m.unit < w) → w ≤ m.unit
          later w t p (yes l) = absurd (omega (arith, position_up c.tracks m.unit w (m.in_q ∙ sym t) l, bound w t p, m.at_low))
          later w t p (no n) = omega arith

      at_low : (m : LowMet c a u q) → unit_at c.tracks q (low c u q) ≡ m.unit
      at_low m =
          let i = needs_in a.needs_pairs (needs_path m.needed) in
          unit_is c.tracks q (low c u q) m.unit i.0 (omega (arith, a.tracks_long)) m.in_q m.at_low

      go : Dec (0 < low c u q) → Found (LastNeeded c u q) (NoneNeeded c u q) (unit_at c.tracks q (low c u q))
      go (yes h) = let m = low_met c a u q h in inl (subst (λ (t : ℕ). (1 ≤ t) × LastNeeded c u q t) (sym (at_low m)) (met m))
      go (no n) = inr (unit_none c.tracks q (low c u q) (inl (omega arith)), λ w t p. omega (arith, bound w t p))

  pub unit_at-low : (v : ℕ) → 1 ≤ v → (unit_at c.tracks q (low c u q) ≡ v) ↔ LastNeeded c u q v
  unit_at-low = one_exactly low_found
      (λ v w x y. le_antisymm (y.none_later v x.in_track x.needed) (x.none_later w y.in_track y.needed))
      (λ v x none. none v x.in_track x.needed)

  pub none_at_low : (unit_at c.tracks q (low c u q) ≡ 0) ↔ NoneNeeded c u q
  none_at_low = none_exactly {P = LastNeeded c u q} low_found (λ v x none. none v x.in_track x.needed)

-- ---- high, with sound tracks

module _ (c : Listing) (a : Accepted c) (sound : sound_verdict c ≡ Ok tt) (u q : ℕ) where
  high_found : Found (FirstNeeding c u q) (NoneNeeding c u q) (unit_at c.tracks q (high c u q))
  high_found = go (dec_le (high c u q) (size c.tracks q))
    where
      bound : (w : ℕ) → track c.tracks w ≡ q → Needs c.needs w u → (high c u q ≤ position c.tracks w) × (position c.tracks w ≤ size c.tracks q)
      bound w t p =
          let i = needs_in a.needs_pairs p in
          let l : w ≤ length c.tracks = omega (arith, a.tracks_long) in
          let h = high_bound c a sound u w (omega arith) i.2 (path_needs c.needs a.needs_pairs.goes_down p) in
          omega (arith, h, ap (high c u) t, position-size c.tracks w l, ap (size c.tracks) t)

      met : (m : HighMet c a sound u q) → (1 ≤ m.unit) × FirstNeeding c u q m.unit
      met m = (
        m.from,
        record { in_track = m.in_q; needing = needs_path m.needing; none_sooner = λ w t p. sooner w t p (dec_lt w m.unit) },
      )
        where
          sooner : (w : ℕ) → track c.tracks w ≡ q → Needs c.needs w u → Dec (w < m.unit) → m.unit ≤ w
          sooner w t p (yes l) = absurd (omega (arith, position_up c.tracks w m.unit (t ∙ sym m.in_q) l, bound w t p, m.at_high))
          sooner w t p (no n) = omega arith

      at_high : (m : HighMet c a sound u q) → unit_at c.tracks q (high c u q) ≡ m.unit
      at_high m = unit_is c.tracks q (high c u q) m.unit m.from (omega (arith, a.tracks_long, m.to)) m.in_q m.at_high

      go : Dec (high c u q ≤ size c.tracks q)
          → Found (FirstNeeding c u q) (NoneNeeding c u q) (unit_at c.tracks q (high c u q))
      go (yes h) = let m = high_met c a sound u q h in inl (subst (λ (t : ℕ). (1 ≤ t) × FirstNeeding c u q t) (sym (at_high m)) (met m))
      go (no n) = inr (unit_none c.tracks q (high c u q) (inr (omega arith)), λ w t p. omega (arith, bound w t p))

  pub unit_at-high : (v : ℕ) → 1 ≤ v → (unit_at c.tracks q (high c u q) ≡ v) ↔ FirstNeeding c u q v
  unit_at-high = one_exactly high_found
      (λ v w x y. le_antisymm (x.none_sooner w y.in_track y.needing) (y.none_sooner v x.in_track x.needing))
      (λ v x none. none v x.in_track x.needing)

  pub none_at_high : (unit_at c.tracks q (high c u q) ≡ 0) ↔ NoneNeeding c u q
  none_at_high = none_exactly {P = FirstNeeding c u q} high_found (λ v x none. none v x.in_track x.needing)
