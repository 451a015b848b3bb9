-- The cases of document 01's table of refusals in its own words, as propositions; below them, that the check for each tells exactly its case.
-- Assumes nothing.
use Rattle.std.specs.Prelude.{Ok, Err}
use Prim.Native.Nat.{ℕ, suc, ◌+◌, ◌-◌, ◌*◌, ◌%◌, ◌≤◌, ◌<◌}
use mathlib.Core.Path.{◌≡◌, refl, sym, ap, ◌∙◌}
use mathlib.Core.Bool.{Bool, true, false, cond, not, ◌&&◌}
use mathlib.Core.List.{List}
use mathlib.Core.Logic.Iff
use mathlib.Core.Logic.{◌↔◌, ◌⊎◌, inl, inr}
use native.Mathlib.Omega.{arith}
use native.Mathlib.Numerals.{add-one}
use native.Mathlib.Decide.{dec_lt}
use lib.ListN.{length, get_or}
use lib.Dec.{leb, ltb, eqb}
use borrow.Author.Tests.{ltb-true, lt-ltb, leb-true, leb-false, le-leb, lt-leb, eqb-true, eqb-false, eq-eqb, ne_eqb, not-true}
use Rattle.rules.specs.declared.Refusal.{Refusal}
use Rattle.rules.specs.declared.Refusal.TheVariants.{OutOfLimits, NoSuchTrack, EmptyTrack, BadPair, PairOrder, ShortArea, UnsoundTrack, BadArgument, ShortList}
use Rattle.rules.specs.Limits.{max_needs}
use Rattle.rules.specs.Refusals.{number_of, place_of, unless, Verdict}
use Rattle.rules.specs.Listing.{Listing, track, size, pairs, upper, lower, within, refuse_first, counted_needs, in_limits, bad_units, bad_pair, units_above, out_of_order, pairs_verdict}
use Rattle.rules.specs.Order.{Needs, needs, unit_before, unsound, sound_verdict}
use Rattle.rules.specs.Index.{built_count}
use Rattle.rules.specs.Outcomes.{room_verdict, yes_or_no, pair_answer, number_answer, list_room, written_from, list_answer, ListOutcome}
use Rattle.rules.proofs.Ranges.{true_or_false, not_both, greatest_bound, greatest_met}
use Rattle.rules.proofs.Verdicts.{and_both, both_and, not_yes, not_no, unless_fine}
use Rattle.rules.proofs.Needs.{Below, Descending, above_is, is_above, needs_path, path_needs}
use Rattle.rules.proofs.Accepted.{limits_in, no_track, no_unit}
use Rattle.rules.proofs.Tracks.{track-next, in_past, UnitAt, unit_found}
use Rattle.rules.proofs.Checks.{None, Smallest, Off, Fails, leb_fails, ltb_fails, eqb_fails, and_fails, sum_assoc, within_fails, Never, then_never, here, after, both_fine, unless-refused, unless_at, unless_clear, unless_never, first_never, first_at, first_clear, zero_never, zero_at, zero_clear}

-- ---- the cases, in the order of their numbers

-- 1: n, k or need count outside the table; track list not n long; need list of odd length
abbrev pub Uncounted : List ℕ → Type 0
Uncounted l = (length l % 2 ≡ 1) ⊎ (8192 < pairs l)

abbrev pub Outside : Listing → Type 0
Outside c = Off 1024 c.n ⊎ Off 32 c.k ⊎ Uncounted c.needs ⊎ (length c.tracks ≡ c.n → ⊥)

-- 2: a track entry of k or more
abbrev pub NoTrack : Listing → ℕ → Type 0
NoTrack c u = (1 ≤ u) × (u ≤ c.n) × (c.k ≤ track c.tracks u)

-- 3: a track without a unit
abbrev pub NoUnit : Listing → ℕ → Type 0
NoUnit c q = (q < c.k) × ((u : ℕ) → 1 ≤ u → u ≤ c.n → track c.tracks u ≡ q → ⊥)

-- 4: a pair with u or v not 1 to n, or v not below u
abbrev pub WrongPair : ℕ → List ℕ → ℕ → Type 0
WrongPair n l i = (i < pairs l) × (Off n (upper l i) ⊎ Off n (lower l i) ⊎ (upper l i ≤ lower l i))

-- 5: a pair not above the one before it
abbrev pub NotAbove : List ℕ → ℕ → Type 0
NotAbove l i = (1 ≤ i) × (i < pairs l) × (Below l (i - 1) i → ⊥)

-- 6: words or directory shorter than W, or work area shorter than n * k
abbrev pub NoRoom : Listing → List ℕ → List ℕ → List ℕ → Type 0
NoRoom c words directory work = (length words < built_count c) ⊎ (length directory < built_count c) ⊎ (length work < c.n * c.k)

-- v is the unit before u in its track
pub record JustBefore (ts : List ℕ) (v u : ℕ) : Type 0 where
  pub from : 1 ≤ v
  pub under : v < u
  pub same_track : track ts v ≡ track ts u
  pub none_between : (w : ℕ) → v < w → w < u → track ts w ≡ track ts u → ⊥

-- 7: a track not sound: a unit that does not need the unit before it in its track
abbrev pub Unsound : Listing → ℕ → Type 0
Unsound c u = (1 ≤ u) × (u ≤ c.n) × ((v : ℕ) × JustBefore c.tracks v u × (Needs c.needs u v → ⊥))

-- 8, by its place: 1 or 2, the first bad argument, where P says that the first is bad and Q that the second is
abbrev pub FirstBad : Type 0 → Type 0 → ℕ → Type 0
FirstBad P Q w = ((w ≡ 1) × P) ⊎ ((w ≡ 2) × (P → ⊥) × Q)

-- 9 is that the index is not Whole: a record of 01's conditions in proofs/Wholes.antt

-- 10: fewer entries from the named place on than the answer has, a place past the end included
abbrev pub NoPlace : List ℕ → List ℕ → ℕ → Type 0
NoPlace units list at = (length list < at) ⊎ (length list - at < length units)

-- ---- 1: the limits

pub counted_fails : (l : List ℕ) → Fails (counted_needs l) (Uncounted l)
unfolding counted_needs
counted_fails l = and_fails odd (leb_fails (pairs l) max_needs)
  where
    odd : Fails (eqb (length l % 2) 0) (length l % 2 ≡ 1)
    odd = (λ h. omega (arith, eqb-false (length l % 2) 0 h), λ e. ne_eqb (length l % 2) 0 (λ z. omega arith))

module _ (c : Listing) where
  limits_fails : Fails (in_limits c) (Outside c)
  unfolding in_limits
  limits_fails = Iff.trans
      (and_fails (and_fails (and_fails (within_fails 1024 c.n) (within_fails 32 c.k)) (counted_fails c.needs)) (eqb_fails (length c.tracks) c.n))
      (Iff.trans sum_assoc sum_assoc)

  pub limits_at : (unless (in_limits c) OutOfLimits ≡ Err OutOfLimits) ↔ Outside c
  limits_at = unless_at OutOfLimits limits_fails

  pub limits_clear : (unless (in_limits c) OutOfLimits ≡ Ok tt) ↔ (Outside c → ⊥)
  limits_clear = unless_clear OutOfLimits limits_fails

  pub limits_never : {r : Refusal} → (number_of r ≡ 1 → ⊥) → Never (unless (in_limits c) OutOfLimits) r
  limits_never n = unless_never (in_limits c) OutOfLimits (λ e. n (sym e))

  -- ---- 2: the track entries

  track_tells : (i : ℕ) → ((i < c.n) × (no_track c i ≡ true)) ↔ NoTrack c (i + 1)
  track_tells i = (
    (λ h. (omega arith, omega (arith, h.0), rw (track-next c.tracks i) (leb-true _ _ h.1))),
    (λ h. (omega (arith, h.1), le-leb _ _ (rw (track-next c.tracks i) at h.2))),
  )

  pub tracks_at : (u : ℕ) → (refuse_first (no_track c) c.n (λ i. NoSuchTrack (i + 1)) ≡ Err (NoSuchTrack u)) ↔ Smallest (NoTrack c) u
  tracks_at = first_at (no_track c) c.n 1 NoSuchTrack (λ i. refl) (NoTrack c) (λ u h. h.0) track_tells (λ u. refl)

  pub tracks_clear : (refuse_first (no_track c) c.n (λ i. NoSuchTrack (i + 1)) ≡ Ok tt) ↔ None (NoTrack c)
  tracks_clear = first_clear (no_track c) c.n 1 NoSuchTrack (λ i. refl) (NoTrack c) (λ u h. h.0) track_tells

  pub tracks_never : {r : Refusal} → (number_of r ≡ 2 → ⊥) → Never (refuse_first (no_track c) c.n (λ i. NoSuchTrack (i + 1))) r
  tracks_never n = first_never (no_track c) c.n 1 NoSuchTrack (λ i. refl) (λ i e. n (sym e))

  -- ---- 3: the units of each track

  pub units_never : {r : Refusal} → (number_of r ≡ 3 → ⊥) → Never (refuse_first (no_unit c) c.k EmptyTrack) r
  units_never n = zero_never (no_unit c) c.k EmptyTrack (λ i e. n (sym e))

  pub long_list : unless (in_limits c) OutOfLimits ≡ Ok tt → length c.tracks ≡ c.n
  long_list h = (limits_in c (unless_fine (in_limits c) OutOfLimits h)).tracks_long

  -- where the track list is n long
  module _ (long : length c.tracks ≡ c.n) where
    unit_tells : (q : ℕ) → ((q < c.k) × (no_unit c q ≡ true)) ↔ NoUnit c q
    unfolding track
    unit_tells q = (
      (λ h. (h.0, λ u a z e. omega (arith, eqb-true (size c.tracks q) 0 h.1, in_past c.tracks q (u - 1) (length c.tracks) (omega arith) e))),
      (λ h. (h.0, not_no (no_unit c q) (λ f. used h (unit_found c.tracks q 1 (omega arith) (omega (arith, eqb-false (size c.tracks q) 0 f)))))),
    )
      where
        used : NoUnit c q → UnitAt c.tracks q 1 → ⊥
        used h w = h.1 w.unit w.from (omega (arith, w.to)) w.in_q

    pub units_at : (q : ℕ) → (refuse_first (no_unit c) c.k EmptyTrack ≡ Err (EmptyTrack q)) ↔ Smallest (NoUnit c) q
    units_at = zero_at (no_unit c) c.k EmptyTrack (NoUnit c) unit_tells (λ i. refl)

    pub units_clear : (refuse_first (no_unit c) c.k EmptyTrack ≡ Ok tt) ↔ None (NoUnit c)
    units_clear = zero_clear (no_unit c) c.k EmptyTrack (NoUnit c) unit_tells

-- ---- 4 and 5: the need list

bad_tells : (n : ℕ) (l : List ℕ) (i : ℕ) → ((i < pairs l) × (bad_pair n l i ≡ true)) ↔ WrongPair n l i
unfolding bad_pair bad_units
bad_tells n l i = (λ h. (h.0, f.0 (not-true _ h.1)), λ h. (h.0, ap not (f.1 h.1)))
  where
    f : Fails (within 1 n (upper l i) && within 1 n (lower l i) && ltb (lower l i) (upper l i)) (Off n (upper l i) ⊎ Off n (lower l i) ⊎ (upper l i ≤ lower l i))
    f = Iff.trans (and_fails (and_fails (within_fails n (upper l i)) (within_fails n (lower l i))) (ltb_fails (lower l i) (upper l i))) sum_assoc

order_tells : (l : List ℕ) (i : ℕ) → ((i < pairs l) × (out_of_order l i ≡ true)) ↔ NotAbove l i
unfolding out_of_order
order_tells l i = (
  (λ h. let r = and_both (ltb 0 i) (not above) h.1 in (ltb-true 0 i r.0, h.0, λ b. not_both (is_above l i (i - 1) b) (not-true above r.1))),
  (λ h. (h.1, both_and (lt-ltb 0 i h.0) (ap not (not_yes above (λ t. h.2 (above_is l i (i - 1) t)))))),
)
  where
    above : Bool
    above = units_above (upper l i) (lower l i) (upper l (i - 1)) (lower l (i - 1))

-- refusals 4 and 5, of a need list over the units 1 to n
module _ (n : ℕ) (l : List ℕ) where
  bad_clear : (refuse_first (bad_pair n l) (pairs l) BadPair ≡ Ok tt) ↔ None (WrongPair n l)
  bad_clear = zero_clear (bad_pair n l) (pairs l) BadPair (WrongPair n l) (bad_tells n l)

  pub pairs_4 : (i : ℕ) → (pairs_verdict n l ≡ Err (BadPair i)) ↔ Smallest (WrongPair n l) i
  unfolding pairs_verdict
  pairs_4 i = here (zero_never (out_of_order l) (pairs l) PairOrder (λ j e. omega arith))
      (zero_at (bad_pair n l) (pairs l) BadPair (WrongPair n l) (bad_tells n l) (λ j. refl) i)

  pub pairs_5 : (i : ℕ) → (pairs_verdict n l ≡ Err (PairOrder i)) ↔ (None (WrongPair n l) × Smallest (NotAbove l) i)
  unfolding pairs_verdict
  pairs_5 i = after (zero_never (bad_pair n l) (pairs l) BadPair (λ j e. omega arith)) bad_clear
      (λ f. zero_at (out_of_order l) (pairs l) PairOrder (NotAbove l) (order_tells l) (λ j. refl) i)

  pub pairs_clear : (pairs_verdict n l ≡ Ok tt) ↔ (None (WrongPair n l) × None (NotAbove l))
  unfolding pairs_verdict
  pairs_clear = both_fine bad_clear (λ f. zero_clear (out_of_order l) (pairs l) PairOrder (NotAbove l) (order_tells l))

  pub pairs_never : {r : Refusal} → (number_of r ≡ 4 → ⊥) → (number_of r ≡ 5 → ⊥) → Never (pairs_verdict n l) r
  unfolding pairs_verdict
  pairs_never a b = then_never
      (zero_never (bad_pair n l) (pairs l) BadPair (λ i e. a (sym e)))
      (zero_never (out_of_order l) (pairs l) PairOrder (λ i e. b (sym e)))

-- ---- 6: the areas

module _ (c : Listing) (words directory work : List ℕ) where
  abbrev room_test : Bool
  room_test = leb (built_count c) (length words) && leb (built_count c) (length directory) && leb (c.n * c.k) (length work)

  room_fails : Fails room_test (NoRoom c words directory work)
  room_fails = Iff.trans
      (and_fails (and_fails (leb_fails (built_count c) (length words)) (leb_fails (built_count c) (length directory))) (leb_fails (c.n * c.k) (length work)))
      sum_assoc

  pub room_never : {r : Refusal} → (number_of r ≡ 6 → ⊥) → Never (room_verdict c words directory work) r
  unfolding room_verdict
  room_never n = unless_never room_test ShortArea (λ e. n (sym e))

  pub room_at : (room_verdict c words directory work ≡ Err ShortArea) ↔ NoRoom c words directory work
  unfolding room_verdict
  room_at = unless_at ShortArea room_fails

  pub room_clear : (room_verdict c words directory work ≡ Ok tt) ↔ (NoRoom c words directory work → ⊥)
  unfolding room_verdict
  room_clear = unless_clear ShortArea room_fails

-- ---- 7: the tracks

module _ (ts : List ℕ) (u : ℕ) where
  -- a unit of the same track below u is at most the unit before u
  before_most : (w : ℕ) → 1 ≤ w → w < u → track ts w ≡ track ts u → w ≤ unit_before ts u
  unfolding unit_before track
  before_most w a b s =
      let t : cond (eqb (get_or ts (w - 1) 0) (track ts u)) (suc (w - 1)) 0 ≡ suc (w - 1) = rw (eq-eqb _ _ s) in
      omega (arith, greatest_bound (λ i. cond (eqb (get_or ts i 0) (track ts u)) (suc i) 0) (u - 1) (w - 1) (omega arith))

  before_found : 0 < unit_before ts u → JustBefore ts (unit_before ts u) u
  unfolding unit_before
  before_found h = go (greatest_met (λ i. cond (eqb (get_or ts i 0) (track ts u)) (suc i) 0) (u - 1) h) (true_or_false _)
    where
      go : (r : (i : ℕ) × (i < u - 1) × (cond (eqb (get_or ts i 0) (track ts u)) (suc i) 0 ≡ unit_before ts u))
          → (eqb (get_or ts r.0 0) (track ts u) ≡ true) ⊎ (eqb (get_or ts r.0 0) (track ts u) ≡ false) → JustBefore ts (unit_before ts u) u
      go r (inl t) =
          let e : suc r.0 ≡ unit_before ts u = rw t at r.2 in
          record {
            from = h;
            under = omega (arith, r.1);
            same_track = rw (sym e, sym (add-one r.0)) (track-next ts r.0 ∙ eqb-true _ _ t);
            none_between = λ w a b s. omega (arith, before_most w (omega arith) b s);
          }
      go r (inr t) = absurd (let e : 0 ≡ unit_before ts u = rw t at r.2 in omega arith)

  before_same : (v : ℕ) → JustBefore ts v u → unit_before ts u ≡ v
  before_same v b = go (dec_lt v (unit_before ts u))
    where
      most : v ≤ unit_before ts u
      most = before_most v b.from b.under b.same_track

      go : Dec (v < unit_before ts u) → unit_before ts u ≡ v
      go (yes l) = let f = before_found (omega arith) in absurd (b.none_between (unit_before ts u) l f.under f.same_track)
      go (no n) = omega (arith, most)

module _ (c : Listing) where
  unsound_tells : Descending c.needs → (i : ℕ) → ((i < c.n) × (unsound c i ≡ true)) ↔ Unsound c (i + 1)
  unfolding unsound
  unsound_tells down i = (to, from)
    where
      to : (i < c.n) × ((ltb 0 (unit_before c.tracks (i + 1)) && not (needs c.needs (i + 1) (unit_before c.tracks (i + 1)))) ≡ true) → Unsound c (i + 1)
      to h =
          let r = and_both (ltb 0 (unit_before c.tracks (i + 1))) (not (needs c.needs (i + 1) (unit_before c.tracks (i + 1)))) h.1 in (
            omega arith,
            omega (arith, h.0),
            (
              unit_before c.tracks (i + 1),
              before_found c.tracks (i + 1) (ltb-true _ _ r.0),
              λ p. not_both (path_needs c.needs down p) (not-true _ r.1),
            ),
          )

      from : Unsound c (i + 1) → (i < c.n) × ((ltb 0 (unit_before c.tracks (i + 1)) && not (needs c.needs (i + 1) (unit_before c.tracks (i + 1)))) ≡ true)
      from h =
          let v = h.2.0 in
          let b = h.2.1 in (
            omega (arith, h.1),
            rw (before_same c.tracks (i + 1) v b)
                (both_and (lt-ltb 0 v b.from) (ap not (not_yes (needs c.needs (i + 1) v) (λ t. h.2.2 (needs_path t))))),
          )

  pub sound_never : {r : Refusal} → (number_of r ≡ 7 → ⊥) → Never (sound_verdict c) r
  unfolding sound_verdict
  sound_never n = first_never (unsound c) c.n 1 UnsoundTrack (λ i. refl) (λ i e. n (sym e))

  pub sound_at : Descending c.needs → (u : ℕ) → (sound_verdict c ≡ Err (UnsoundTrack u)) ↔ Smallest (Unsound c) u
  unfolding sound_verdict
  sound_at down = first_at (unsound c) c.n 1 UnsoundTrack (λ i. refl) (Unsound c) (λ u h. h.0) (unsound_tells down) (λ u. refl)

  pub sound_clear : Descending c.needs → (sound_verdict c ≡ Ok tt) ↔ None (Unsound c)
  unfolding sound_verdict
  sound_clear down = first_clear (unsound c) c.n 1 UnsoundTrack (λ i. refl) (Unsound c) (λ u h. h.0) (unsound_tells down)

-- ---- 8: an argument

module _ {b : Bool} {P : Type 0} (which : ℕ) (f : Fails b P) where
  pub argument_at : (w : ℕ) → (unless b (BadArgument which) ≡ Err (BadArgument w)) ↔ ((w ≡ which) × P)
  argument_at w = (
    (λ h. let r = (unless-refused (BadArgument which) f (BadArgument w)).0 h in (ap place_of r.0, r.1)),
    (λ h. (unless-refused (BadArgument which) f (BadArgument w)).1 (ap BadArgument h.0, h.1)),
  )

  pub argument_clear : (unless b (BadArgument which) ≡ Ok tt) ↔ (P → ⊥)
  argument_clear = unless_clear (BadArgument which) f

  pub argument_never : {r : Refusal} → (number_of r ≡ 8 → ⊥) → Never (unless b (BadArgument which)) r
  argument_never n = unless_never b (BadArgument which) (λ e. n (sym e))

-- ---- 10: the lent list

place_fails : (units list : List ℕ) (at : ℕ) → Fails (leb (at + length units) (length list)) (NoPlace units list at)
place_fails units list at = (λ h. to (leb-false _ _ h) (dec_lt (length list) at), λ p. lt-leb _ _ (from p))
  where
    to : length list < at + length units → Dec (length list < at) → NoPlace units list at
    to h (yes l) = inl l
    to h (no n) = inr (omega arith)

    from : NoPlace units list at → length list < at + length units
    from (inl l) = omega arith
    from (inr l) = omega arith

module _ (units list : List ℕ) (at : ℕ) where
  pub place_at : (count : ℕ) → (list_room units list at ≡ Err (ShortList count)) ↔ ((count ≡ length units) × NoPlace units list at)
  unfolding list_room
  place_at count = (
    (λ h. let r = (unless-refused (ShortList (length units)) (place_fails units list at) (ShortList count)).0 h in (ap place_of r.0, r.1)),
    (λ h. (unless-refused (ShortList (length units)) (place_fails units list at) (ShortList count)).1 (ap ShortList h.0, h.1)),
  )

  pub place_clear : (list_room units list at ≡ Ok tt) ↔ (NoPlace units list at → ⊥)
  unfolding list_room
  place_clear = unless_clear (ShortList (length units)) (place_fails units list at)

  pub place_never : {r : Refusal} → (number_of r ≡ 10 → ⊥) → Never (list_room units list at) r
  unfolding list_room
  place_never n = unless_never (leb (at + length units) (length list)) (ShortList (length units)) (λ e. n (sym e))

-- ---- what an answer tells of the verdict behind it

pub pair_refused : (v : Verdict) (t : Bool) (r : Refusal) → (pair_answer v t ≡ Err r) ↔ (v ≡ Err r)
pair_refused v t r = (to v t, λ e. rw e)
  where
    to : (v : Verdict) (t : Bool) → pair_answer v t ≡ Err r → v ≡ Err r
    to (Ok _) true h = absurd (let z : ◌≡◌ {A = ℕ} 0 1 = cc in omega arith)
    to (Ok _) false h = absurd (let z : ◌≡◌ {A = ℕ} 0 1 = cc in omega arith)
    to (Err s) t h = let e : s ≡ r = cc in ap Err e

pub pair_given : (v : Verdict) (t : Bool) → (pair_answer v t ≡ yes_or_no t) ↔ (v ≡ Ok tt)
pair_given v t = (to v t, λ e. rw e)
  where
    to : (v : Verdict) (t : Bool) → pair_answer v t ≡ yes_or_no t → v ≡ Ok tt
    to (Ok _) t h = refl
    to (Err s) true h = absurd (let z : ◌≡◌ {A = ℕ} 0 1 = cc in omega arith)
    to (Err s) false h = absurd (let z : ◌≡◌ {A = ℕ} 0 1 = cc in omega arith)

pub number_refused : (v : Verdict) (m : ℕ) (r : Refusal) → (number_answer v m ≡ Err r) ↔ (v ≡ Err r)
number_refused v m r = (to v, λ e. rw e)
  where
    to : (v : Verdict) → number_answer v m ≡ Err r → v ≡ Err r
    to (Ok _) h = absurd (let z : ◌≡◌ {A = ℕ} 0 1 = cc in omega arith)
    to (Err s) h = let e : s ≡ r = cc in ap Err e

pub number_given : (v : Verdict) (m : ℕ) → (number_answer v m ≡ Ok m) ↔ (v ≡ Ok tt)
number_given v m = (to v, λ e. rw e)
  where
    to : (v : Verdict) → number_answer v m ≡ Ok m → v ≡ Ok tt
    to (Ok _) h = refl
    to (Err s) h = absurd (let z : ◌≡◌ {A = ℕ} 0 1 = cc in omega arith)

-- the outcome of a refused list: the lent list as it was
abbrev pub kept_list : Refusal → List ℕ → ListOutcome
kept_list r list = record { answer = Err r; list = list }

-- and of an answered one: its count, and the units from the named place on
abbrev pub given_list : List ℕ → List ℕ → ℕ → ListOutcome
given_list units list at = record { answer = Ok (length units); list = written_from list at units }

pub list_refused : (v : Verdict) (units list : List ℕ) (at : ℕ) (r : Refusal) → (list_answer v units list at ≡ kept_list r list) ↔ (v ≡ Err r)
unfolding list_answer
list_refused v units list at r = (λ h. (number_refused v (length units) r).0 (ap (λ (o : ListOutcome). o.answer) h), λ e. rw e)

pub list_given : (v : Verdict) (units list : List ℕ) (at : ℕ) → (list_answer v units list at ≡ given_list units list at) ↔ (v ≡ Ok tt)
unfolding list_answer
list_given v units list at = (λ h. (number_given v (length units)).0 (ap (λ (o : ListOutcome). o.answer) h), λ e. rw e)
