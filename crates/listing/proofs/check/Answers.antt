-- `listing::check` meets its contract: what each test lets through is what the definition's check of the same number lets through, and the
-- five stand in the order of their numbers. Assumes nothing.
use Rattle.std.specs.Prelude.{Ok, Err}
use Prim.Native.Nat.{ℕ, ◌+◌, ◌<◌}
use mathlib.Core.Path.{◌≡◌, refl, sym, ap, ◌∙◌}
use mathlib.Core.Bool.{Bool}
use mathlib.Core.List.{List}
use native.Mathlib.Omega.{arith}
use lib.ListN.{length, get_or}
use lib.Dec.{eqb}
use borrow.Author.Tests.{leb-false}
use Rattle.std.proofs.Common.{Some, None}
use Rattle.rules.specs.declared.Refusal.{Refusal}
use Rattle.rules.specs.declared.Refusal.TheVariants.{OutOfLimits, NoSuchTrack, EmptyTrack}
use Rattle.rules.specs.Refusals.{unless}
use Rattle.rules.specs.Lent.{lent_listing}
use Rattle.rules.specs.Listing.{Listing, size, in_limits, refuse_first, pairs_verdict, listing_verdict}
use Rattle.rules.proofs.Ranges.{get_or-table}
use Rattle.rules.proofs.Verdicts.{not_yes, fine_then, refused_then, fine_unless, refused-unless, refuse_fine, refuse_at, refuse_end}
use Rattle.rules.proofs.Accepted.{WithinLimits, limits_in, in_limits_lem, counted_is, no_track, no_unit}
use Rattle.rules.specs.Ranges.{first_found, first, table}
use Rattle.rules.proofs.Found.{found_first, found_none, found_same, refuse_found, refuse_not_found}
use Rattle.listing.proofs.check.Goals as goal
use Rattle.listing.proofs.check.Goals.{Else-tracks-from}

-- past both tests of refusal 1 the listing is within the limits
limited : (c : Else-tracks-from) → WithinLimits (lent_listing c.args.course.now)
limited c = record {
  n_in = (omega arith, omega arith);
  k_in = (omega arith, omega arith);
  counted = cc;
  tracks_long = omega arith;
}

module _ (a : Listing) where
  out_of_limits : (WithinLimits a → ⊥) → Err OutOfLimits ≡ listing_verdict a
  unfolding listing_verdict
  out_of_limits f = sym (refused_then _ (refused-unless OutOfLimits (not_yes (in_limits a) (λ t. f (limits_in a t)))))

  module _ (l : WithinLimits a) where
    first_fine : unless (in_limits a) OutOfLimits ≡ Ok tt
    first_fine = fine_unless OutOfLimits (in_limits_lem a l)

    no_such_track : (i : ℕ) → Some i ≡ first_found (no_track a) (length a.tracks) → Err (NoSuchTrack (i + 1)) ≡ listing_verdict a
    unfolding listing_verdict
    no_such_track i e = sym (fine_then _ first_fine ∙ refused_then _ (refuse_found (no_track a) a.n (λ i. NoSuchTrack (i + 1)) (rw l.tracks_long at e)))

    module _ (found : None ≡ first_found (no_track a) (length a.tracks)) where
      second_fine : refuse_first (no_track a) a.n (λ i. NoSuchTrack (i + 1)) ≡ Ok tt
      second_fine = refuse_not_found (no_track a) a.n (λ i. NoSuchTrack (i + 1)) (rw l.tracks_long at found)

      tracks_below : (u : ℕ) → u < length a.tracks → get_or a.tracks u 0 < 32
      tracks_below u b =
          let t = refuse_fine (no_track a) a.n (λ i. NoSuchTrack (i + 1)) second_fine u (omega (arith, l.tracks_long)) in
          omega (arith, l.k_in, leb-false a.k (get_or a.tracks u 0) t)

      module _ {lens : List ℕ} (s : lens ≡ table (size a.tracks) 32) where
        -- a track without a unit has length 0
        empty_same : first_found (λ q. eqb (get_or lens q 0) 0) a.k ≡ first_found (no_unit a) a.k
        empty_same =
            found_same _ (no_unit a) a.k (λ q b.
            ap (λ (x : List ℕ). eqb (get_or x q 0) 0) s
            ∙ ap (λ (x : ℕ). eqb x 0) (get_or-table (size a.tracks) 32 q (omega (arith, l.k_in))))

        empty_track : (q : ℕ) → Some q ≡ first_found (λ q. eqb (get_or lens q 0) 0) a.k → Err (EmptyTrack q) ≡ listing_verdict a
        unfolding listing_verdict
        empty_track q e =
            sym (fine_then _ first_fine ∙ fine_then _ second_fine ∙ refused_then _ (refuse_found (no_unit a) a.k EmptyTrack (e ∙ empty_same)))

        by_pairs : None ≡ first_found (λ q. eqb (get_or lens q 0) 0) a.k → pairs_verdict a.n a.needs ≡ listing_verdict a
        unfolding listing_verdict
        by_pairs e =
            sym (fine_then _ first_fine ∙ fine_then _ second_fine ∙ fine_then _ (refuse_not_found (no_unit a) a.k EmptyTrack (e ∙ empty_same)))

pub returns-then-n-eq0 : goal.returns-then-n-eq0
returns-then-n-eq0 c = out_of_limits _ (λ a. grind (arith, a.n_in, a.k_in))

pub returns-then-not-counted : goal.returns-then-not-counted
returns-then-not-counted c = out_of_limits _ (λ a. grind (arith, a.counted, a.tracks_long))

pub returns-in-Some : goal.returns-in-Some
returns-in-Some c = no_such_track _ (limited (goal.at.returns-in-Some c).Else-tracks-from) _ c.in-Some.ensures

pub track_lengths-lens-requires-clause-by_index : goal.track_lengths-lens-requires-clause-by_index
track_lengths-lens-requires-clause-by_index c =
    tracks_below _ (limited (goal.at.track_lengths-lens-requires-clause-by_index c).Else-tracks-from) c.in_default.ensures

pub returns-in-Some-empty_track : goal.returns-in-Some-empty_track
returns-in-Some-empty_track c =
    empty_track _ (limited (goal.at.returns-in-Some-empty_track c).Else-tracks-from) c.in_default.ensures
    c.track_lengths-lens.ensures _ c.in-Some-empty_track.ensures

pub pairs_verdict-requires : goal.pairs_verdict-requires
pairs_verdict-requires c = (counted_is c.args.course.now.needs.now (cc)).1

pub returns : goal.returns
returns c =
    c.pairs_verdict.ensures
    ∙ by_pairs _ (limited (goal.at.returns c).Else-tracks-from) c.in_default.ensures
    c.track_lengths-lens.ensures c.in_default-empty_track.ensures
