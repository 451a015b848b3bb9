-- An accepted listing: what refusals 1 to 5 let through, in plain facts; and that they let through nothing else.
-- Assumes nothing.
use Rattle.std.specs.Prelude.{Ok}
use Prim.Native.Nat.{ℕ, ◌+◌, ◌%◌, ◌≤◌, ◌<◌}
use mathlib.Core.Path.{◌≡◌, ◌∙◌}
use mathlib.Core.Bool.{Bool, true, ◌&&◌}
use mathlib.Core.List.{List}
use native.Mathlib.Omega.{arith}
use lib.ListN.{length, get_or}
use lib.Dec.{leb, eqb}
use borrow.Author.Tests.{leb-false, lt-leb, le-leb, leb-true, eqb-true, eqb-false, eq-eqb, ne_eqb}
use Rattle.rules.specs.declared.Refusal.TheVariants.{OutOfLimits, NoSuchTrack, EmptyTrack}
use Rattle.rules.specs.Listing.{Listing, size, pairs, within, counted_needs, in_limits, pairs_verdict, refuse_first, listing_verdict}
use Rattle.rules.specs.Limits.{max_units, max_tracks, max_needs}
use Rattle.rules.specs.Refusals.{unless, ◌then◌}
use Rattle.rules.proofs.Verdicts.{and_both, both_and, within_is, is_within, then_fine, fine_then, unless_fine, fine_unless, refuse_none, refuse_fine}
use Rattle.rules.proofs.Needs.{Pairs, pairs_fine, fine_pairs}

pub record Accepted (c : Listing) : Type 0 where
  pub n_in : (1 ≤ c.n) × (c.n ≤ 1024)
  pub k_in : (1 ≤ c.k) × (c.k ≤ 32)
  pub tracks_long : length c.tracks ≡ c.n
  pub tracks_below : (i : ℕ) → i < c.n → get_or c.tracks i 0 < c.k
  pub tracks_used : (q : ℕ) → q < c.k → 1 ≤ size c.tracks q
  pub needs_even : length c.needs % 2 ≡ 0
  pub needs_few : pairs c.needs ≤ 8192
  pub needs_pairs : Pairs c.n c.needs

-- ---- refusal 1

pub counted_is : (l : List ℕ) → counted_needs l ≡ true → (length l % 2 ≡ 0) × (pairs l ≤ 8192)
unfolding counted_needs
counted_is l h =
    let r = and_both (eqb (length l % 2) 0) (leb (pairs l) max_needs) h in
    (eqb-true (length l % 2) 0 r.0, leb-true (pairs l) max_needs r.1)

pub is_counted : (l : List ℕ) → length l % 2 ≡ 0 → pairs l ≤ 8192 → counted_needs l ≡ true
unfolding counted_needs
is_counted l e h = both_and (eq-eqb (length l % 2) 0 e) (le-leb (pairs l) max_needs h)

-- what refusal 1 lets through
pub record WithinLimits (c : Listing) : Type 0 where
  pub n_in : (1 ≤ c.n) × (c.n ≤ 1024)
  pub k_in : (1 ≤ c.k) × (c.k ≤ 32)
  pub counted : counted_needs c.needs ≡ true
  pub tracks_long : length c.tracks ≡ c.n

pub limits_in : (c : Listing) → in_limits c ≡ true → WithinLimits c
unfolding in_limits
limits_in c h =
    let r = and_both (within 1 max_units c.n && within 1 max_tracks c.k && counted_needs c.needs) (eqb (length c.tracks) c.n) h in
    let s = and_both (within 1 max_units c.n && within 1 max_tracks c.k) (counted_needs c.needs) r.0 in
    let t = and_both (within 1 max_units c.n) (within 1 max_tracks c.k) s.0 in
    record {
      n_in = within_is 1 max_units c.n t.0;
      k_in = within_is 1 max_tracks c.k t.1;
      counted = s.1;
      tracks_long = eqb-true (length c.tracks) c.n r.1;
    }

pub in_limits_lem : (c : Listing) → WithinLimits c → in_limits c ≡ true
unfolding in_limits
in_limits_lem c a =
    both_and
    (both_and (both_and (is_within a.n_in.0 a.n_in.1) (is_within a.k_in.0 a.k_in.1)) a.counted)
    (eq-eqb (length c.tracks) c.n a.tracks_long)

-- ---- refusals 1 to 5

module _ (c : Listing) where
  -- a unit whose track is k or more
  abbrev pub no_track : ℕ → Bool
  no_track i = leb c.k (get_or c.tracks i 0)

  -- a track without a unit
  abbrev pub no_unit : ℕ → Bool
  no_unit q = eqb (size c.tracks q) 0

  pub listing_fine : listing_verdict c ≡ Ok tt → Accepted c
  unfolding listing_verdict
  listing_fine h = record {
    n_in = limited.n_in;
    k_in = limited.k_in;
    tracks_long = limited.tracks_long;
    tracks_below = λ i l. leb-false c.k (get_or c.tracks i 0) (refuse_fine no_track c.n (λ i. NoSuchTrack (i + 1)) b.0 i l);
    tracks_used = λ q l. omega (arith, eqb-false (size c.tracks q) 0 (refuse_fine no_unit c.k EmptyTrack d.0 q l));
    needs_even = (counted_is c.needs limited.counted).0;
    needs_few = (counted_is c.needs limited.counted).1;
    needs_pairs = pairs_fine c.n c.needs d.1;
  }
    where
      a : (unless (in_limits c) OutOfLimits ≡ Ok tt) × ((refuse_first no_track c.n (λ i. NoSuchTrack (i + 1)) then refuse_first no_unit c.k EmptyTrack then pairs_verdict c.n c.needs) ≡ Ok tt)
      a = then_fine _ _ h

      b : (refuse_first no_track c.n (λ i. NoSuchTrack (i + 1)) ≡ Ok tt) × ((refuse_first no_unit c.k EmptyTrack then pairs_verdict c.n c.needs) ≡ Ok tt)
      b = then_fine _ _ a.1

      d : (refuse_first no_unit c.k EmptyTrack ≡ Ok tt) × (pairs_verdict c.n c.needs ≡ Ok tt)
      d = then_fine _ _ b.1

      limited : WithinLimits c
      limited = limits_in c (unless_fine (in_limits c) OutOfLimits a.0)

  pub fine_listing : Accepted c → listing_verdict c ≡ Ok tt
  unfolding listing_verdict
  fine_listing a =
      fine_then _ (fine_unless OutOfLimits (in_limits_lem c limited))
      ∙ fine_then _ (refuse_none no_track c.n (λ i. NoSuchTrack (i + 1)) (λ i l. lt-leb c.k (get_or c.tracks i 0) (a.tracks_below i l)))
      ∙ fine_then _ (refuse_none no_unit c.k EmptyTrack (λ q l. ne_eqb (size c.tracks q) 0 (λ e. omega (arith, a.tracks_used q l))))
      ∙ fine_pairs c.n c.needs a.needs_pairs
    where
      limited : WithinLimits c
      limited = record {
        n_in = a.n_in;
        k_in = a.k_in;
        counted = is_counted c.needs a.needs_even a.needs_few;
        tracks_long = a.tracks_long;
      }
