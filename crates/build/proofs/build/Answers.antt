-- `build::build` meets its contract: an Ok of the check makes the listing accepted, the two lengths that are compared are W and n * k, and
-- each part that was lent comes back before what was not lent, which is what `over` says. Assumes nothing.
use Rattle.std.specs.Prelude.{Option, Some, None, Ok, Err}
use Rattle.std.proofs.lemmas.Result.{err_from_is_err_and}
use Rattle.rules.specs.declared.Built.{Built}
use Prim.Native.Nat.{ℕ, ◌+◌, ◌-◌, ◌*◌, ◌/◌, ◌≤◌, ◌<◌}
use mathlib.Core.Path.{◌≡◌, refl, sym, ap, ◌∙◌, subst}
use mathlib.Core.List.{List, ◌++◌}
use mathlib.Core.Logic.{◌⊎◌, inl, inr}
use native.Mathlib.Omega.{arith}
use native.Mathlib.Nat.{mul-le-mul}
use lib.ListN.{length, get_or, take, drop, length-take}
use lib.Seq.{take_at}
use Rattle.rules.specs.declared.Refusal.TheVariants.{ShortArea, UnsoundTrack}
use Rattle.rules.specs.Ranges.{first_found, table, over}
use Rattle.rules.specs.Lent.{lent_listing}
use Rattle.rules.specs.Listing.{Listing, listing, listing_verdict, size}
use Rattle.rules.specs.Order.{unsound, sound_verdict}
use Rattle.rules.specs.Index.{lens_of, built_count, built_words, built_directory, built_work}
use Rattle.rules.specs.Outcomes.{room_verdict, build_outcome}
use Rattle.rules.proofs.Overs.{over-part}
use Rattle.rules.proofs.Found.{found_first, refuse_found, refuse_not_found}
use Rattle.rules.proofs.Accepted.{Accepted, listing_fine}
use Rattle.rules.proofs.Builts.{length_words, length_directory, length_work}
use Rattle.layout.specs.Starts.{row_starts}
use Rattle.build.specs.Ones.{Given, outcome}
use Rattle.build.proofs.Ones.{rows-count}
use Rattle.build.proofs.Outcomes.{room_enough, room_short, refused-listing, refused_room, refused-unsound, outcome_built, bits_few, answer_is, outcome_same}
use Rattle.build.proofs.build.Goals as goal
use Rattle.build.proofs.build.Goals.{In_default}

-- ---- past refusals 1 to 5 the listing is accepted

module _ (n k : ℕ) (tracks needs : List ℕ) (f : Ok tt ≡ listing_verdict (listing n k tracks needs)) where
  accepted : Accepted (listing n k tracks needs)
  accepted = listing_fine (listing n k tracks needs) (sym f)

  -- m is the count of tracks as the code counts with it
  module _ (m : ℕ) (m_is : m ≡ k) where
    -- the listing by the length of its track list is the same
    long_is : listing (length tracks) m tracks needs ≡ listing n k tracks needs
    long_is = rw (m_is, accepted.tracks_long)

    accepted_long : Accepted (listing (length tracks) m tracks needs)
    accepted_long = subst (λ (l : Listing). Accepted l) (sym long_is) accepted

    entries_are : length tracks * m ≡ n * k
    entries_are = rw (m_is, accepted.tracks_long)

    entries_few : length tracks * m ≤ 1024 * 32
    entries_few = rw (m_is, accepted.tracks_long) (mul-le-mul accepted.n_in.1 accepted.k_in.1)

    module _ (lens row : List ℕ) (lens_are : lens ≡ table (size tracks) 32) (row_is : row ≡ row_starts (lens_of lens) m) where
      -- what is compared with the areas is W
      count_is : (get_or row m 0 + 63) / 64 ≡ built_count (listing n k tracks needs)
      count_is = rw m_is (rows-count row accepted lens_are (rw m_is at row_is)).1

      -- the part that is lent of an area is as long as W
      part_long : (area : List ℕ) → (get_or row m 0 + 63) / 64 ≤ length area
          → length (take ((get_or row m 0 + 63) / 64) area) ≡ built_count (listing (length tracks) m tracks needs)
      part_long area h = simp length-take (omega (arith, count_is, ap built_count long_is))

      module _ (words directory work : List ℕ) where
        -- refusal 6
        short_area : (length words < (get_or row m 0 + 63) / 64) ⊎ ((length directory < (get_or row m 0 + 63) / 64) ⊎ (length work < length tracks * m))
            → outcome (Err ShortArea) words directory work ≡ build_outcome (listing n k tracks needs) words directory work
        short_area s =
            refused_room (listing n k tracks needs) _ _ _ (sym f) (room_short (listing n k tracks needs) _ _ _ (grind (arith, count_is, entries_are, s)))

        module _ (w : (get_or row m 0 + 63) / 64 ≤ length words) (d : (get_or row m 0 + 63) / 64 ≤ length directory)
            (e : length tracks * m ≤ length work) where
          room : room_verdict (listing n k tracks needs) words directory work ≡ Ok tt
          room =
              room_enough (listing n k tracks needs) _ _ _ (omega (arith, count_is)) (omega (arith, count_is)) (omega (arith, entries_are))

          module _ (bad : Option ℕ) (bad_long : bad ≡ first_found (unsound (listing (length tracks) m tracks needs)) (length tracks))
              (now_work : List ℕ) (work_is : now_work ≡ built_work (listing (length tracks) m tracks needs)) where
            bad_is : bad ≡ first_found (unsound (listing n k tracks needs)) n
            bad_is = bad_long ∙ ap (λ (l : Listing). first_found (unsound l) l.n) long_is

            -- the part that was lent comes back as long as it was
            work_long : length now_work ≡ length tracks * m
            work_long = ap length work_is ∙ length_work (listing (length tracks) m tracks needs)

            work_over : now_work ++ drop (length tracks * m) work ≡ over work (built_work (listing n k tracks needs))
            work_over =
                over-part work now_work _ _ (work_is ∙ ap built_work long_is) (length_work (listing n k tracks needs) ∙ sym entries_are)

            -- refusal 7
            unsound_track : (i : ℕ) → Some i ≡ bad
                → outcome (Err (UnsoundTrack (i + 1))) words directory (now_work ++ drop (length tracks * m) work)
                ≡ build_outcome (listing n k tracks needs) words directory work
            unfolding sound_verdict
            unsound_track i h =
                outcome_same {a = Err (UnsoundTrack (i + 1))} refl refl refl work_over
                ∙ refused-unsound (listing n k tracks needs) _ _ _ (sym f) room
                (refuse_found (unsound (listing n k tracks needs)) n (λ i. UnsoundTrack (i + 1)) (h ∙ bad_is))

            module _ (h : None ≡ bad) where
              -- past it the tracks are sound
              sound : sound_verdict (listing n k tracks needs) ≡ Ok tt
              unfolding sound_verdict
              sound = refuse_not_found (unsound (listing n k tracks needs)) n (λ i. UnsoundTrack (i + 1)) (h ∙ bad_is)

              given : Given (listing (length tracks) m tracks needs) lens (take (length tracks * m) (now_work ++ drop (length tracks * m) work))
              given = record {
                accepted = accepted_long;
                sound = subst (λ (l : Listing). sound_verdict l ≡ Ok tt) (sym long_is) sound;
                lens_are = lens_are;
                work_is = take_at _ _ _ work_long ∙ work_is;
              }

              built : (now_words now_directory : List ℕ) → now_words ≡ built_words (listing (length tracks) m tracks needs)
                  → now_directory ≡ built_directory (listing (length tracks) m tracks needs)
                  → outcome
                  (Ok (record { head = record { lens = lens; n = n; k = k }; bits = 2 * n * (k - 1) }))
                  (now_words ++ drop ((get_or row m 0 + 63) / 64) words)
                  (now_directory ++ drop ((get_or row m 0 + 63) / 64) directory)
                  (now_work ++ drop (length tracks * m) work)
                  ≡ build_outcome (listing n k tracks needs) words directory work
              built now_words now_directory p q =
                  outcome_same
                  (ap (λ (b : Built). Ok b) (answer_is (listing n k tracks needs) accepted lens lens_are))
                  (over-part _ _ _ _ (p ∙ ap built_words long_is) (length_words (listing n k tracks needs) ∙ sym count_is))
                  (over-part _ _ _ _ (q ∙ ap built_directory long_is) (length_directory (listing n k tracks needs) ∙ sym count_is))
                  work_over
                  ∙ outcome_built (listing n k tracks needs) _ _ _ (sym f) room sound

-- ---- the goals

pub returns-in_err-check : goal.returns-in_err-check
returns-in_err-check c =
    let p = err_from_is_err_and c.from_residual.result c.from_residual.ensures.1 in
    rw (p.1, p.2) (refused-listing (lent_listing c.args.course.now) _ _ _ (sym c.in_err-check.ensures))

pub track_lengths-lens-requires : goal.track_lengths-lens-requires
track_lengths-lens-requires c =
    let a = accepted _ _ _ _ c.in_ok-check.ensures in
    record {
      tracks_len_bound = omega (arith, a.tracks_long, a.n_in);
      by_index = λ i l. omega (arith, a.tracks_below i (omega (arith, a.tracks_long)), a.k_in);
    }

pub row_starts-row-requires : goal.row_starts-row-requires
row_starts-row-requires c = omega (arith, (accepted _ _ _ _ c.in_ok-check.ensures).k_in)

pub bounds-row-tracks_count : goal.bounds-row-tracks_count
bounds-row-tracks_count c = omega (arith, (accepted _ _ _ _ c.in_ok-check.ensures).k_in)

pub overflow_mul-entries : goal.overflow_mul-entries
overflow_mul-entries c = omega (arith, entries_few _ _ _ _ c.in_ok-check.ensures _ c.from-tracks_count.ensures)

pub returns-then-words-count : goal.returns-then-words-count
returns-then-words-count c =
    short_area _ _ _ _ c.in_ok-check.ensures _ c.from-tracks_count.ensures
    _ _ c.track_lengths-lens.ensures c.row_starts-row.ensures _ _ _
    (elim c.then-words-count.either [ inl a ↦ inl (omega arith) | inr (inl a) ↦ inr (inl (omega arith)) | inr (inr a) ↦ inr (inr (omega arith)) ])

pub fill_work-requires-clause-accepted : goal.fill_work-requires-clause-accepted
fill_work-requires-clause-accepted c = accepted_long _ _ _ _ c.in_ok-check.ensures _ c.from-tracks_count.ensures

pub overflow_cast-result : goal.overflow_cast-result
overflow_cast-result c =
    let a = accepted _ _ _ _ c.in_ok-check.ensures in
    omega (arith, a.tracks_long, a.n_in, found_first _ _ _ c.in-Some.ensures.value)

pub overflow_add-result : goal.overflow_add-result
overflow_add-result c =
    let a = accepted _ _ _ _ c.in_ok-check.ensures in
    omega (arith, a.tracks_long, a.n_in, found_first _ _ _ c.in-Some.ensures.value)

pub returns-in-Some : goal.returns-in-Some
returns-in-Some c =
    unsound_track _ _ _ _ c.in_ok-check.ensures _ c.from-tracks_count.ensures
    _ _ c.track_lengths-lens.ensures c.row_starts-row.ensures _ _ _ (omega arith) (omega arith) (omega arith)
    _ c.fill_work.ensures.value _ c.fill_work.ensures.work_after _ (sym c.in-Some.is)

pub fill_index-requires : goal.fill_index-requires
fill_index-requires c =
    let part = part_long _ _ _ _ c.in_ok-check.ensures _ c.from-tracks_count.ensures _ _ c.track_lengths-lens.ensures c.row_starts-row.ensures in
    record {
      given =
          given _ _ _ _ c.in_ok-check.ensures _ c.from-tracks_count.ensures
          _ _ c.track_lengths-lens.ensures c.row_starts-row.ensures c.args.words.now c.args.directory.now _ (omega arith) (omega arith) (omega arith)
          _ c.fill_work.ensures.value _ c.fill_work.ensures.work_after (sym c.in_default.is);
      row_value = c.row_starts-row.ensures;
      words_len = part c.args.words.now (omega arith);
      directory_len = part c.args.directory.now (omega arith);
    }

pub overflow_sub-result : goal.overflow_sub-result
overflow_sub-result c = omega (arith, (accepted _ _ _ _ c.in_ok-check.ensures).k_in)

pub overflow_mul-result-2 : goal.overflow_mul-result-2
overflow_mul-result-2 c = rw (c.from.ensures, c.from-2.ensures) (omega (arith, bits_few _ (accepted _ _ _ _ c.in_ok-check.ensures)))

pub returns : goal.returns
returns c =
    rw (c.from.ensures, c.from-2.ensures)
    (built _ _ _ _ c.in_ok-check.ensures _ c.from-tracks_count.ensures
    _ _ c.track_lengths-lens.ensures c.row_starts-row.ensures _ _ _ (omega arith) (omega arith) (omega arith)
    _ c.fill_work.ensures.value _ c.fill_work.ensures.work_after (sym c.in_default.is)
    _ _ c.fill_index.ensures.words_after c.fill_index.ensures.directory_after)
