-- Laws of units by spans: how many there are, the test of one unit by what was seen of its track, and which other tests name the same units.
-- Assumes nothing.
use Prim.Native.Nat.{ℕ, zero, suc, ◌+◌, ◌-◌, ◌≤◌, ◌<◌, max, min, zero-le}
use mathlib.Core.Path.{◌≡◌, refl, sym, ap, ◌∙◌}
use mathlib.Core.Bool.{Bool, true, false, cond, ◌&&◌}
use mathlib.Core.List.{List}
use mathlib.Core.Logic.{◌⊎◌, inl, inr}
use native.Mathlib.Omega.{arith}
use native.Mathlib.Numerals.{add-one}
use native.Mathlib.Decide.{dec_le, ℕ_discrete}
use lib.ListN.{length, get_or, set, replicate, length-append, length-set, length-replicate, get_or-replicate}
use lib.Seq.{get_or-set_same, get_or-set_other}
use lib.Dec.{leb}
use borrow.Author.Tests.{le-leb, lt-leb}
use Rattle.rules.specs.Ranges.{sum, bit1, greatest, over}
use Rattle.rules.specs.Listing.{in_track, size, within}
use Rattle.rules.specs.Questions.{units_where}
use Rattle.rules.specs.Order.{highest_step}
use Rattle.rules.proofs.Ranges.{true_or_false, sum_same, sum_zero, sum_one, greatest-next, greatest_least, greatest_same, units_none, units_yes, units_no, units_longer, units_up, units_same}
use Rattle.rules.proofs.Overs.{length_over, over_none, over-next}
use Rattle.rules.proofs.Verdicts.{is_within, no_and, and_no}
use Rattle.rules.proofs.Tracks.{in_none, in_le, in_own, in_other, track-next}
use Rattle.lists.specs.Spans.{in_spans, spanned, last_spanned, Tracks, Held}

pub tracks_wide : {ts : List ℕ} {k : ℕ} → Tracks ts k → Tracks ts 32
tracks_wide t = let f = t.few_tracks in record { few_units = t.few_units; few_tracks = omega arith; each = λ i l. omega (arith, t.each i l) }

-- ---- the next unit

-- unit m + 1 is in the spans as its position says
pub spans_next : (from to ts : List ℕ) (m : ℕ)
    → in_spans from to ts (m + 1) ≡ within (get_or from (get_or ts m 0) 0) (get_or to (get_or ts m 0) 0) (in_track ts (get_or ts m 0) m + 1)
unfolding in_spans
spans_next from to ts m = rw (track-next ts m, in_own ts (get_or ts m 0) m refl)

-- ---- how many

-- one position more is one unit more where it is in the span
span_step : (a b m : ℕ) → 1 ≤ a → min b (m + 1) + 1 - a ≡ (min b m + 1 - a) + bit1 (within a b (m + 1))
span_step a b m h = go (dec_le a (m + 1)) (dec_le (m + 1) b)
  where
    go : Dec (a ≤ m + 1) → Dec (m + 1 ≤ b) → min b (m + 1) + 1 - a ≡ (min b m + 1 - a) + bit1 (within a b (m + 1))
    go (yes l) (yes r) = rw (is_within l r) (omega arith)
    go (yes l) (no n) = rw (and_no (leb a (m + 1)) (lt-leb (m + 1) b (omega arith))) (omega arith)
    go (no n) r = rw (no_and (leb (m + 1) b) (lt-leb a (m + 1) (omega arith))) (omega arith)

module _ {from to ts : List ℕ} {k : ℕ} (t : Tracks ts k) (s : Held from to ts k) where
  -- how many positions of the span of q are among the first m units
  abbrev passed : ℕ → ℕ → ℕ
  passed m q = min (get_or to q 0) (in_track ts q m) + 1 - get_or from q 0

  -- one unit more changes only the term of its track
  passed_next : (m : ℕ) → m < length ts → sum (passed (m + 1)) k ≡ sum (passed m) k + bit1 (in_spans from to ts (m + 1))
  passed_next m h =
      let q = get_or ts m 0 in
      let own : passed (m + 1) q ≡ passed m q + bit1 (in_spans from to ts (m + 1)) =
      rw (in_own ts q m refl, spans_next from to ts m) (span_step (get_or from q 0) (get_or to q 0) (in_track ts q m) (s.starts q (t.each m h))) in
      sum_one (passed m) (passed (m + 1)) k q (bit1 (in_spans from to ts (m + 1))) (t.each m h) own (λ p l n. rw (in_other ts p m (λ e. n (sym e))))

  -- so among the first m units as many are in the spans
  passed_count : (m : ℕ) → m ≤ length ts → length (units_where (in_spans from to ts) m) ≡ sum (passed m) k
  passed_count zero h =
      let z : sum (passed 0) k ≡ 0 = sum_zero (passed 0) k (λ q l. omega (arith, s.starts q l, in_none ts q)) in
      omega (arith, ap length (units_none (in_spans from to ts)))
  passed_count (suc m) h =
      rw (sym (add-one m))
      (omega (arith, units_longer (in_spans from to ts) m, passed_next m (omega arith), passed_count m (omega arith)))

-- as many units are in the spans as the spans have positions
pub spanned-count : {from to ts : List ℕ} {k : ℕ} → Tracks ts k → Held from to ts k
    → length (spanned from to ts) ≡ sum (λ q. get_or to q 0 + 1 - get_or from q 0) k
spanned-count {from} {to} {ts} {k} t s =
    passed_count t s (length ts) (omega arith)
    ∙ sum_same (λ q. min (get_or to q 0) (size ts q) + 1 - get_or from q 0) (λ q. get_or to q 0 + 1 - get_or from q 0) k (λ q l. omega (arith, s.ends q l))

-- ---- which units

-- another test that tells the same of each unit names the same units
pub spanned_same : (from to ts : List ℕ) (p : ℕ → Bool) → ((v : ℕ) → 1 ≤ v → v ≤ length ts → in_spans from to ts v ≡ p v)
    → spanned from to ts ≡ units_where p (length ts)
spanned_same from to ts p h = units_same (in_spans from to ts) p (length ts) h

-- and the same highest unit: unit 0 is none in both
pub last_same : (from to ts : List ℕ) (r : ℕ → ℕ → Bool) (u : ℕ) → ((v : ℕ) → 1 ≤ v → v < u → in_spans from to ts v ≡ r u v)
    → last_spanned from to ts u ≡ highest_step r u
unfolding last_spanned highest_step
last_same from to ts r u h =
    greatest_same (λ v. cond (leb 1 v && in_spans from to ts v) v 0) (λ v. cond (r u v) v 0) u at_each
  where
    none : (b : Bool) → ◌≡◌ {A = ℕ} 0 (cond b 0 0)
    none true = refl
    none false = refl

    at_each : (v : ℕ) → v < u → cond (leb 1 v && in_spans from to ts v) v 0 ≡ cond (r u v) v 0
    at_each zero l = none (r u 0)
    at_each (suc v) l = rw (h (suc v) (omega arith) l, le-leb 1 (suc v) (omega arith))

module _ (from to ts : List ℕ) where
  -- no unit is below unit 1
  pub last_none : last_spanned from to ts 1 ≡ 0
  unfolding last_spanned greatest
  last_none = refl

  last_next : (v : ℕ) → last_spanned from to ts (v + 1) ≡ max (last_spanned from to ts v) (cond (leb 1 v && in_spans from to ts v) v 0)
  unfolding last_spanned
  last_next v = greatest-next (λ v. cond (leb 1 v && in_spans from to ts v) v 0) v

  last_most : (v : ℕ) → last_spanned from to ts v ≤ v
  unfolding last_spanned
  last_most v = greatest_least (λ v. cond (leb 1 v && in_spans from to ts v) v 0) v v (λ w l. at_most w l (leb 1 w && in_spans from to ts w))
    where
      at_most : (w : ℕ) → w < v → (b : Bool) → cond b w 0 ≤ v
      at_most w l true = omega arith
      at_most w l false = zero-le

  -- a unit in the spans is the highest below the next
  pub last_yes : (v : ℕ) → 1 ≤ v → in_spans from to ts v ≡ true → last_spanned from to ts (v + 1) ≡ v
  last_yes v h t =
      let e : cond (leb 1 v && in_spans from to ts v) v 0 ≡ v = rw (le-leb 1 v h, t) in
      omega (arith, last_next v, last_most v)

  pub last_no : (v : ℕ) → in_spans from to ts v ≡ false → last_spanned from to ts (v + 1) ≡ last_spanned from to ts v
  last_no v f =
      let e : cond (leb 1 v && in_spans from to ts v) v 0 ≡ 0 = rw (and_no (leb 1 v) f) in
      omega (arith, last_next v)

-- ---- a walk along the units

-- how many of the first m units were seen in each track
pub record Walked (ts : List ℕ) (m : ℕ) (seen : List ℕ) : Type 0 where
  pub wide : length seen ≡ 32
  pub counts : (q : ℕ) → q < 32 → get_or seen q 0 ≡ in_track ts q m

pub seen_none : (ts : List ℕ) → Walked ts 0 (replicate 32 0)
seen_none ts = record {
  wide = length-replicate {A = ℕ} 32 0;
  counts = λ q l. get_or-replicate {A = ℕ} 32 q 0 0 l ∙ sym (in_none ts q);
}

pub seen_le : {ts seen : List ℕ} {m : ℕ} → Walked ts m seen → (q : ℕ) → q < 32 → get_or seen q 0 ≤ m
seen_le {ts} {seen} {m} s q l = omega (arith, s.counts q l, in_le ts q m)

module _ {ts seen : List ℕ} {m : ℕ} (s : Walked ts m seen) (few : get_or ts m 0 < 32) where
  -- unit v = m + 1 is seen
  pub seen_next : (v : ℕ) → v ≡ m + 1 → Walked ts v (set seen (get_or ts m 0) (get_or seen (get_or ts m 0) 0 + 1))
  seen_next v e = record { wide = length-set seen _ _ ∙ s.wide; counts = λ q l. rw e (at_track q l (ℕ_discrete q (get_or ts m 0))) }
    where
      at_track : (q : ℕ) → q < 32 → Dec (q ≡ get_or ts m 0) → get_or (set seen (get_or ts m 0) (get_or seen (get_or ts m 0) 0 + 1)) q 0 ≡ in_track ts q (m + 1)
      at_track q l (yes w) =
          rw (w, get_or-set_same seen (get_or ts m 0) (get_or seen (get_or ts m 0) 0 + 1) 0 (omega (arith, s.wide)), s.counts (get_or ts m 0) few)
          (sym (in_own ts (get_or ts m 0) m refl))
      at_track q l (no n) = get_or-set_other seen (get_or ts m 0) q _ 0 n ∙ s.counts q l ∙ sym (in_other ts q m (λ e. n (sym e)))

  -- and in the spans as its place among the seen says
  pub spans_seen : (from to : List ℕ) (v : ℕ) → v ≡ m + 1
      → in_spans from to ts v ≡ within (get_or from (get_or ts m 0) 0) (get_or to (get_or ts m 0) 0) (get_or seen (get_or ts m 0) 0 + 1)
  spans_seen from to v e = rw (e, s.counts (get_or ts m 0) few) (spans_next from to ts m)

-- a count that no longer grows: no further unit is found
pub units_full : (f : ℕ → Bool) (m n : ℕ) → m ≤ n → length (units_where f n) ≤ length (units_where f m) → units_where f n ≡ units_where f m
units_full f m zero l h = let e : m ≡ 0 = omega arith in rw e
units_full f m (suc n) l h = go (dec_le m n) (units_full f m n)
  where
    one : suc n ≡ n + 1
    one = sym (add-one n)

    go : Dec (m ≤ n) → (m ≤ n → length (units_where f n) ≤ length (units_where f m) → units_where f n ≡ units_where f m) → units_where f (suc n) ≡ units_where f m
    go (no g) before = let e : m ≡ suc n = omega arith in rw e
    go (yes g) before = here (true_or_false (f (n + 1)))
      where
        h' : length (units_where f (n + 1)) ≤ length (units_where f m)
        h' = rw (sym one) h

        here : (f (n + 1) ≡ true) ⊎ (f (n + 1) ≡ false) → units_where f (suc n) ≡ units_where f m
        here (inl t) =
            let b : bit1 (f (n + 1)) ≡ 1 = rw t in
            absurd (omega (arith, units_longer f n, units_up f m n (omega arith), h'))
        here (inr t) =
            let b : bit1 (f (n + 1)) ≡ 0 = rw t in
            rw (one, units_no f n t) (before (omega arith) (omega (arith, units_longer f n, h')))

-- an area whose first entries are the units 1 to m in the spans, and their count
pub record Written (from to ts area : List ℕ) (m : ℕ) (list : List ℕ) (count : ℕ) : Type 0 where
  pub list_is : list ≡ over area (units_where (in_spans from to ts) m)
  pub count_is : count ≡ length (units_where (in_spans from to ts) m)

module _ (from to ts area : List ℕ) where
  pub written_none : Written from to ts area 0 area 0
  written_none = record {
    list_is = rw (units_none (in_spans from to ts)) (over_none area);
    count_is = sym (ap length (units_none (in_spans from to ts)));
  }

  module _ {m count : ℕ} {list : List ℕ} (w : Written from to ts area m list count) where
    module _ (n : ℕ) (room : length (units_where (in_spans from to ts) n) ≤ length area) where
      pub written_length : m ≤ n → length list ≡ length area
      written_length l =
          ap length w.list_is
          ∙ length_over area (units_where (in_spans from to ts) m) (omega (arith, units_up (in_spans from to ts) m n l))

      -- as long as a unit in the spans is to come, the count is a place of the area
      pub written_room : m < n → in_spans from to ts (m + 1) ≡ true → count < length area
      written_room l t =
          let b : bit1 (in_spans from to ts (m + 1)) ≡ 1 = rw t in
          let c = w.count_is in
          omega (arith, units_longer (in_spans from to ts) m, units_up (in_spans from to ts) (m + 1) n (omega arith))

    -- as long as the count falls short, a unit is to come
    pub written_more : (n : ℕ) → m ≤ n → count < length (units_where (in_spans from to ts) n) → m < n
    written_more n l h = go (dec_le n m)
      where
        go : Dec (n ≤ m) → m < n
        go (yes g) =
            let e : n ≡ m = omega arith in
            absurd (omega (arith, w.count_is, ap (λ (x : ℕ). length (units_where (in_spans from to ts) x)) e))
        go (no g) = omega arith

    -- and once it does not, all are written
    pub written_all : (n : ℕ) → m ≤ n → length (units_where (in_spans from to ts) n) ≤ count → list ≡ over area (units_where (in_spans from to ts) n)
    written_all n l h =
        let c = w.count_is in
        w.list_is ∙ ap (over area) (sym (units_full (in_spans from to ts) m n l (omega arith)))

    pub written_yes : count < length area → in_spans from to ts (m + 1) ≡ true → Written from to ts area (m + 1) (set list count (m + 1)) (count + 1)
    written_yes l t =
        let c = w.count_is in
        record {
          list_is = rw (w.list_is, c, units_yes (in_spans from to ts) m t) (over-next area (units_where (in_spans from to ts) m) _ (m + 1) refl (omega arith));
          count_is = rw (c, units_yes (in_spans from to ts) m t, length-append);
        }

    pub written_no : in_spans from to ts (m + 1) ≡ false → Written from to ts area (m + 1) list count
    written_no f = record { list_is = rw (units_no (in_spans from to ts) m f) w.list_is; count_is = rw (units_no (in_spans from to ts) m f) w.count_is }
