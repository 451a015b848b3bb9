-- The end of a listing, 04: over areas with room for any course a build refuses what the listing is refused for, and else leaves the index.
-- Assumes nothing.
use Rattle.std.specs.Prelude.{Ok, Err}
use Prim.Native.Nat.{ℕ, ◌*◌, ◌≤◌}
use mathlib.Core.Path.{◌≡◌, refl, sym, ap, ◌∙◌}
use mathlib.Core.Bool.{◌&&◌}
use mathlib.Core.List.{List}
use native.Mathlib.Omega.{arith}
use native.Mathlib.Nat.{mul-le-mul}
use lib.ListN.{length, take}
use lib.Seq.{take_at}
use lib.Dec.{eqb}
use borrow.Author.Tests.{eq-eqb, eqb-true}
use Rattle.rules.specs.Outcomes.{BuildAnswer}
use Rattle.rules.specs.declared.Refusal.{Refusal}
use Rattle.rules.specs.Refusals.{◌then◌, Verdict}
use Rattle.rules.specs.Ranges.{table, over}
use Rattle.rules.specs.Listing.{Listing, size, pairs_verdict, listing_verdict}
use Rattle.rules.specs.Order.{sound_verdict}
use Rattle.rules.specs.Index.{built_words, built_directory, built_head, built_bits}
use Rattle.rules.specs.Outcomes.{BuildOutcome, room_verdict, filled_verdict, build_verdict, build_outcome}
use Rattle.rules.proofs.Verdicts.{and_both, not_yes, then_fine}
use Rattle.rules.proofs.Needs.{fine_pairs}
use Rattle.rules.proofs.Accepted.{listing_fine}
use Rattle.rules.proofs.Builts.{length_words, length_directory}
use Rattle.stages.specs.Stages.{stage_table}
use Rattle.stages.proofs.Lasts.{length_stages}
use Rattle.build.proofs.Ones.{rows-count}
use Rattle.build.proofs.Outcomes.{room_enough}
use Rattle.answers.specs.Printed.{built_line}
use Rattle.answers.proofs.Lengths.{length_built}
use Rattle.reading.specs.declared.Card.{Card}
use Rattle.reading.specs.declared.Phase.TheVariants.{Needs}
use Rattle.reading.specs.Card.{listing_of, misplaced, refuse, loaded, end_frame, reads}
use Rattle.reading.specs.Held.{Areas, areas, reading_of, loaded_card, Settled, Roomy, Fit, Took}
use Rattle.reading.proofs.Taking.{needs_held, took}
use Rattle.reading.proofs.Phases.{words_few}

-- what an accepted build says of its listing
module _ (c : Listing) (words directory work : List ℕ) {built : BuildAnswer} {words' directory' work' : List ℕ}
    (done : record { answer = built; words = words'; directory = directory'; work = work' } ≡ build_outcome c words directory work) where
  pub outcome_verdict : built.verdict ≡ build_verdict c words directory work
  unfolding build_outcome
  outcome_verdict = ap (λ (o : BuildOutcome). o.answer.verdict) done

  -- so its pairs are in order over as many units as there are tracks
  pub build_pairs : {units : ℕ} → built.verdict ≡ Ok tt → length c.tracks ≡ units → (pairs_verdict units c.needs ≡ Ok tt) × (units ≤ 1024)
  unfolding build_verdict filled_verdict
  build_pairs fine e =
      let v = then_fine (filled_verdict c words directory work) (sound_verdict c) (sym outcome_verdict ∙ fine) in
      let a = listing_fine c (then_fine (listing_verdict c) (room_verdict c words directory work) v.0).0 in
      rw (sym e ∙ a.tracks_long) (fine_pairs c.n c.needs a.needs_pairs, a.n_in.1)

module _ {card : Card} {tracks needs words directory work list : List ℕ} (fit : Fit card (areas tracks needs words directory work list)) where
  abbrev held : Areas
  held = areas tracks needs words directory work list

  abbrev course : Listing
  course = listing_of (reading_of card held)

  module _ (count filler : ℕ) where
    pub end_misplaced : (count ≡ card.pairs → filler ≡ 0 → ⊥) → end_frame (reading_of card held) count filler ≡ misplaced (reading_of card held)
    unfolding end_frame
    end_misplaced h =
        rw (
          needs_held fit.room,
          not_yes
              (eqb count card.pairs && eqb filler 0)
              (λ t.
              let both = and_both (eqb count card.pairs) (eqb filler 0) t in
              h (eqb-true count card.pairs both.0) (eqb-true filler 0 both.1)),
        )

  -- areas of the same lengths
  pub built_room : {words' directory' work' : List ℕ} → length words' ≡ length words → length directory' ≡ length directory → length work' ≡ length work
      → Roomy card (areas tracks needs words' directory' work' list)
  built_room long long' long'' =
      let r = fit.room in
      record {
        lines_few = r.lines_few;
        pairs_few = r.pairs_few;
        units_few = r.units_few;
        areas_room = record {
          track_room = r.areas_room.track_room;
          need_room = r.areas_room.need_room;
          word_room = omega arith;
          directory_room = omega arith;
          work_room = omega arith;
          list_room = r.areas_room.list_room;
        };
      }

  -- ---- the verdict of the build

  room_there : listing_verdict course ≡ Ok tt → room_verdict course words directory work ≡ Ok tt
  room_there h =
      let a = listing_fine course h in
      let few = words_few a in
      room_enough course words directory work (omega arith) (omega arith)
      (omega (arith, mul-le-mul a.n_in.1 a.k_in.1))

  build_verdict_lem : build_verdict course words directory work ≡ (listing_verdict course then sound_verdict course)
  unfolding build_verdict filled_verdict
  build_verdict_lem = go (listing_verdict course) refl
    where
      go : (v : Verdict) → listing_verdict course ≡ v
          → ((listing_verdict course then room_verdict course words directory work) then sound_verdict course) ≡ (listing_verdict course then sound_verdict course)
      go (Ok _) e = rw (e, room_there e)
      go (Err r) e = rw e

  end_loads : (count filler : ℕ) → count ≡ card.pairs → filler ≡ 0
      → end_frame (reading_of card held) count filler ≡ loaded (reading_of card held) (build_verdict course words directory work)
  unfolding end_frame
  end_loads count filler p q = rw (needs_held fit.room, eq-eqb count card.pairs p, q, build_verdict_lem)

  -- ---- after the build
  module _ {built : BuildAnswer} {words' directory' work' : List ℕ}
      (done : record { answer = built; words = words'; directory = directory'; work = work' } ≡ build_outcome course words directory work)
      (count filler : ℕ) (right : count ≡ card.pairs) (empty : filler ≡ 0) where
    pub end_refused : {refusal : Refusal} → built.verdict ≡ Err refusal
        → end_frame (reading_of card held) count filler ≡ refuse (reading_of card held) refusal
    unfolding loaded
    end_refused h = end_loads count filler right empty ∙ rw (sym (outcome_verdict course words directory work done) ∙ h)

    -- the stages stand over the start of the work area
    module _ {work'' : List ℕ} (long : length words' ≡ length words) (long' : length directory' ≡ length directory) (long'' : length work'' ≡ length work)
        (staged : work'' ≡ over work' (stage_table (take (2 * card.pairs) needs) card.units))
        (e : card.phase ≡ Needs) (fine : built.verdict ≡ Ok tt) where
      abbrev holding : Areas
      holding = areas tracks needs words' directory' work'' list

      built_fine : build_verdict course words directory work ≡ Ok tt
      built_fine = sym (outcome_verdict course words directory work done) ∙ fine

      pub listing_accepted : listing_verdict course ≡ Ok tt
      listing_accepted = (then_fine (listing_verdict course) (sound_verdict course) (sym build_verdict_lem ∙ built_fine)).0

      built_words_lem : words' ≡ over words (built_words course)
      unfolding build_outcome
      built_words_lem = ap (λ (o : BuildOutcome). o.words) done ∙ rw built_fine

      built_directory_lem : directory' ≡ over directory (built_directory course)
      unfolding build_outcome
      built_directory_lem = ap (λ (o : BuildOutcome). o.directory) done ∙ rw built_fine

      built_lens : built.head.lens ≡ table (size (take card.units tracks)) 32
      unfolding build_outcome built_head
      built_lens = ap (λ (o : BuildOutcome). o.answer.head.lens) done ∙ rw built_fine

      bits_are : built.bits ≡ built_bits course
      unfolding build_outcome
      bits_are = ap (λ (o : BuildOutcome). o.answer.bits) done ∙ rw built_fine

      load_fit : Fit (loaded_card card built.head.lens) holding
      unfolding over
      load_fit =
          let s : Settled Needs card held = rw e at fit.settled in
          let left : reads Needs ≡ mathlib.Core.Bool.true → card.lines ≤ 65535 = rw e at fit.lines_left in
          let count_is = (rows-count _ (listing_fine course listing_accepted) built_lens refl).1 in
          let room : Roomy card holding = built_room long long' long'' in
          record {
            room = record {
              lines_few = room.lines_few;
              pairs_few = room.pairs_few;
              units_few = room.units_few;
              areas_room = room.areas_room;
            };
            lines_left = left;
            settled = (
              s.0,
              s.1,
              record {
                accepted = listing_accepted;
                sound = (then_fine (listing_verdict course) (sound_verdict course) (sym build_verdict_lem ∙ built_fine)).1;
                count_is = count_is;
                words_are = rw (built_words_lem, count_is) (take_at (built_words course) _ _ (length_words course));
                directory_is = rw (built_directory_lem, count_is) (take_at (built_directory course) _ _ (length_directory course));
                lens_are = built_lens;
                starts = refl;
                stages_are = rw staged (take_at (stage_table (take (2 * card.pairs) needs) card.units) _ _ (length_stages (take (2 * card.pairs) needs) card.units));
              },
            );
          }

      pub took_end : {before out : List ℕ} → out ≡ over before (built_line built.bits)
          → Took (end_frame (reading_of card held) count filler) before (record { card = loaded_card card built.head.lens; wrote = 15 }) holding out
      unfolding loaded
      took_end o =
          rw (end_loads count filler right empty, built_fine, ← bits_are)
          (took (built_line built.bits) o (sym (length_built built.bits)) (omega arith) load_fit)
