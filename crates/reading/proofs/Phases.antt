-- What each phase has settled: the areas of a card that reads on, and the index of one that is asked.
-- Assumes nothing.
use Prim.Native.Nat.{ℕ, ◌*◌, ◌≤◌, ◌<◌}
use mathlib.Core.Path.{◌≡◌, sym, ap, ◌∙◌, subst}
use mathlib.Core.List.{List}
use native.Mathlib.Omega.{arith}
use lib.ListN.{length, take}
use Rattle.rules.specs.Listing.{Listing, size}
use Rattle.rules.specs.Index.{built_index, built_head, built_count}
use Rattle.rules.proofs.Accepted.{Accepted, listing_fine}
use Rattle.rules.proofs.Layouts.{words_most}
use Rattle.rules.proofs.Builts.{built_whole, units_built}
use Rattle.stages.specs.Stages.{stage_table}
use Rattle.stages.proofs.Lasts.{stages_built}
use Rattle.reading.specs.declared.Card.{Card}
use Rattle.reading.specs.declared.Phase.{Phase}
use Rattle.reading.specs.declared.Phase.TheVariants.{Head, Tracks, Needs, Asking, Stopped}
use Rattle.reading.specs.Card.{listing_of, read_index}
use Rattle.reading.specs.Held.{Areas, areas, reading_of, Settled, Roomy, Fit, asked, Ready, stages_of}

-- W of an accepted listing
pub words_few : {c : Listing} → Accepted c → built_count c ≤ 992
words_few {c} a = words_most (size c.tracks) c.k (omega (arith, units_built c a, a.n_in)) a.k_in.1

-- ---- what a phase has settled of the areas

module _ {card : Card} {a : Areas} (fit : Fit card a) where
  pub tracks_left : card.phase ≡ Tracks → card.units < length a.tracks
  tracks_left e = let s : Settled Tracks card a = rw e at fit.settled in omega (arith, s.0.n_in)

  pub tracks_few : card.phase ≡ Needs → card.k ≤ 32
  tracks_few e = let s : Settled Needs card a = rw e at fit.settled in s.0.k_in.1

  pub count_few : card.phase ≡ Asking → card.count ≤ 992
  count_few e =
      let s = subst (λ (phase : Phase). Settled phase card a) e fit.settled in
      omega (arith, s.2.count_is, words_few (listing_fine (listing_of (reading_of card a)) s.2.accepted))

-- ---- another line, another list area

abbrev renumbered : Card → ℕ → Card
renumbered card lines =
    record {
      phase = card.phase;
      lines = lines;
      n = card.n;
      k = card.k;
      units = card.units;
      pairs = card.pairs;
      count = card.count;
      lens = card.lens;
      row = card.row;
    }

-- neither the line nor the list area matters to what is settled
settled_kept : (phase : Phase) (card : Card) (ts needs ws ds work list : List ℕ) (lines : ℕ) (list' : List ℕ)
    → Settled phase card (areas ts needs ws ds work list) → Settled phase (renumbered card lines) (areas ts needs ws ds work list')
settled_kept Head card ts needs ws ds work list lines list' s = s
settled_kept Tracks card ts needs ws ds work list lines list' s = s
settled_kept Needs card ts needs ws ds work list lines list' s = s
settled_kept Asking card ts needs ws ds work list lines list' s =
    let l = s.2 in (
      s.0,
      s.1,
      record {
        accepted = l.accepted;
        sound = l.sound;
        count_is = l.count_is;
        words_are = l.words_are;
        directory_is = l.directory_is;
        lens_are = l.lens_are;
        starts = l.starts;
        stages_are = l.stages_are;
      },
    )
settled_kept Stopped card ts needs ws ds work list lines list' s = s

module _ {card : Card} {ts needs ws ds work list : List ℕ} (fit : Fit card (areas ts needs ws ds work list)) where
  abbrev held : Areas
  held = areas ts needs ws ds work list

  -- one line more
  pub next_room : (lines : ℕ) → lines ≤ 65536 → Roomy (renumbered card lines) held
  next_room lines h =
      let r = fit.room in
      record {
        lines_few = h;
        pairs_few = r.pairs_few;
        units_few = r.units_few;
        areas_room = r.areas_room;
      }

  pub next_fit : (lines : ℕ) → lines ≤ 65535 → Fit (renumbered card lines) held
  next_fit lines h =
      record {
        room = next_room lines (omega arith);
        lines_left = λ e. h;
        settled = settled_kept card.phase card ts needs ws ds work list lines list fit.settled;
      }

  -- another list area
  pub list_fit : {list' : List ℕ} → length list' ≡ length list → Fit card (areas ts needs ws ds work list')
  list_fit {list'} h =
      let r = fit.room in
      record {
        room = record {
          lines_few = r.lines_few;
          pairs_few = r.pairs_few;
          units_few = r.units_few;
          areas_room = record {
            track_room = r.areas_room.track_room;
            need_room = r.areas_room.need_room;
            word_room = r.areas_room.word_room;
            directory_room = r.areas_room.directory_room;
            work_room = r.areas_room.work_room;
            list_room = omega arith;
          };
        };
        lines_left = fit.lines_left;
        settled = settled_kept card.phase card ts needs ws ds work list card.lines list' fit.settled;
      }

  -- the index that lies in the areas is the one that the listing builds, and it is whole
  module _ (e : card.phase ≡ Asking) where
    abbrev course : Listing
    course = listing_of (reading_of card held)

    loaded : Settled Asking card held
    loaded = subst (λ (phase : Phase). Settled phase card held) e fit.settled

    pub units_held : length (take card.units ts) ≡ card.n
    units_held = (listing_fine course loaded.2.accepted).tracks_long

    pub index_is : read_index (reading_of card held) ≡ asked card (take card.units ts) (take card.count ws) (take card.count ds)
    unfolding built_index built_head
    index_is = rw (loaded.2.words_are, loaded.2.directory_is, loaded.2.lens_are, units_held)

    pub ready : Ready card (take card.units ts) (take card.count ws) (take card.count ds)
    ready =
        record {
          sure = record {
            is_whole = rw (← index_is) (built_whole course (listing_fine course loaded.2.accepted) loaded.2.sound);
            starts = loaded.2.starts;
          };
          units_are = units_held;
          units_few = omega (arith, units_held, loaded.0.n_in);
        }

    -- and the stages at the start of the work area are its own
    pub staged : take card.units work ≡ stages_of (asked card (take card.units ts) (take card.count ws) (take card.count ds))
    unfolding built_index built_head
    staged =
        loaded.2.stages_are
        ∙ ap (stage_table (take (2 * card.pairs) needs)) loaded.1
        ∙ sym (stages_built course (listing_fine course loaded.2.accepted) loaded.2.sound)
        ∙ ap stages_of index_is
