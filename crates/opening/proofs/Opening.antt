-- 01 and 02: what is refused, and what a card holds after them.
-- Assumes nothing.
use Prim.Native.Nat.{ℕ, ◌+◌, ◌*◌, ◌≤◌}
use mathlib.Core.Path.{◌≡◌, refl}
use mathlib.Core.Bool.{true, cond, ◌&&◌}
use mathlib.Core.List.{List, [], ◌∷◌, ◌++◌}
use mathlib.Core.Logic.{◌⊎◌, ⊎_elim}
use native.Mathlib.Omega.{arith}
use native.Mathlib.Numerals.{add-one}
use lib.ListN.{take, set, length-set}
use lib.Seq.{take-suc-set}
use lib.Dec.{eqb}
use borrow.Author.Tests.{eq-eqb, ne_eqb}
use Rattle.rules.specs.declared.Refusal.TheVariants.{OutOfLimits}
use Rattle.rules.specs.Listing.{within}
use Rattle.rules.proofs.Verdicts.{and_both, not_yes, within_is, is_within}
use Rattle.reading.specs.declared.Card.{Card}
use Rattle.reading.specs.declared.Phase.{Phase}
use Rattle.reading.specs.declared.Phase.TheVariants.{Head, Tracks, Needs}
use Rattle.reading.specs.Card.{Reading, refuse, misplaced, reads, head_frame, track_frame}
use Rattle.reading.specs.Held.{Areas, areas, reading_of, Limited, Settled, Fit, Took}
use Rattle.reading.proofs.Taking.{took_nothing, tracks_held}

-- ---- 01

abbrev head_card : Card → ℕ → ℕ → Card
head_card card n k =
    record {
      phase = Tracks;
      lines = card.lines;
      n = n;
      k = k;
      units = card.units;
      pairs = card.pairs;
      count = card.count;
      lens = card.lens;
      row = card.row;
    }

pub head_refused : (r : Reading) (n k : ℕ) → (1 ≤ n → n ≤ 1024 → 1 ≤ k → k ≤ 32 → ⊥) → head_frame r n k ≡ refuse r OutOfLimits
unfolding head_frame
head_refused r n k h =
    rw
    (not_yes
    (within 1 1024 n && within 1 32 k)
    (λ t.
    let both = and_both (within 1 1024 n) (within 1 32 k) t in
    let p = within_is 1 1024 n both.0 in
    let q = within_is 1 32 k both.1 in
    h p.0 p.1 q.0 q.1))

pub took_head : {card : Card} {a : Areas} (n k : ℕ) (before : List ℕ) → card.phase ≡ Head → Limited n k → Fit card a
    → Took (head_frame (reading_of card a) n k) before (record { card = head_card card n k; wrote = 0 }) a before
unfolding head_frame
took_head {card} {a} n k before e l fit =
    let s : Settled Head card a = rw e at fit.settled in
    let none : take card.units a.tracks ≡ [] = rw s.0 in
    let none' : take (2 * card.pairs) a.needs ≡ [] = rw s.1 in
    let left : reads Head ≡ true → card.lines ≤ 65535 = rw e at fit.lines_left in
    let fit' : Fit (head_card card n k) a =
    record {
      room = record {
        lines_few = fit.room.lines_few;
        pairs_few = fit.room.pairs_few;
        units_few = fit.room.units_few;
        areas_room = fit.room.areas_room;
      };
      lines_left = left;
      settled = (l, omega arith, s.1);
    }
    in
    rw (is_within l.n_in.0 l.n_in.1, is_within l.k_in.0 l.k_in.1)
    (rw (none, none') at (took_nothing {card = head_card card n k} before fit'))

-- ---- 02

abbrev track_card : Card → Phase → Card
track_card card phase =
    record {
      phase = phase;
      lines = card.lines;
      n = card.n;
      k = card.k;
      units = card.units + 1;
      pairs = card.pairs;
      count = card.count;
      lens = card.lens;
      row = card.row;
    }

module _ {card : Card} {tracks needs words directory work list : List ℕ} (unit track : ℕ) (fit : Fit card (areas tracks needs words directory work list)) where
  abbrev held : Areas
  held = areas tracks needs words directory work list

  pub track-misplaced : (unit ≡ card.units + 1 → ⊥) → track_frame (reading_of card held) unit track ≡ misplaced (reading_of card held)
  unfolding track_frame
  track-misplaced h = rw (tracks_held fit.room, ne_eqb unit (card.units + 1) h)

  abbrev holding : Areas
  holding = areas (set tracks card.units track) needs words directory work list

  track_fit : (phase : Phase) → card.phase ≡ Tracks → unit ≡ card.units + 1
      → ((unit ≡ card.n) × (phase ≡ Needs)) ⊎ ((unit ≡ card.n → ⊥) × (phase ≡ Tracks)) → Fit (track_card card phase) holding
  track_fit phase e h way =
      let s : Settled Tracks card held = rw e at fit.settled in
      let left : reads Tracks ≡ true → card.lines ≤ 65535 = rw e at fit.lines_left in
      record {
        room = record {
          lines_few = fit.room.lines_few;
          pairs_few = fit.room.pairs_few;
          units_few = omega arith;
          areas_room = record {
            track_room = rw length-set fit.room.areas_room.track_room;
            need_room = fit.room.areas_room.need_room;
            word_room = fit.room.areas_room.word_room;
            directory_room = fit.room.areas_room.directory_room;
            work_room = fit.room.areas_room.work_room;
            list_room = fit.room.areas_room.list_room;
          };
        };
        lines_left = λ r. left refl;
        settled = ⊎_elim (λ w. rw w.1 (s.0, omega arith)) (λ w. rw w.1 (s.0, omega arith, s.2)) way;
      }

  pub took_track : (phase : Phase) (before : List ℕ) → card.phase ≡ Tracks → unit ≡ card.units + 1
      → ((unit ≡ card.n) × (phase ≡ Needs)) ⊎ ((unit ≡ card.n → ⊥) × (phase ≡ Tracks))
      → Took (track_frame (reading_of card held) unit track) before (record { card = track_card card phase; wrote = 0 }) holding before
  unfolding track_frame
  took_track phase before e h way =
      let s : Settled Tracks card held = rw e at fit.settled in
      let one_more : take (card.units + 1) (set tracks card.units track) ≡ take card.units tracks ++ (track ∷ []) =
      rw add-one (take-suc-set tracks card.units track (omega arith))
      in
      let next-phase : phase ≡ cond (eqb unit card.n) Needs Tracks =
      ⊎_elim (λ w. rw (eq-eqb unit card.n w.0) w.1) (λ w. rw (ne_eqb unit card.n w.0) w.1) way
      in
      rw (tracks_held fit.room, eq-eqb unit (card.units + 1) h, ← next-phase, ← one_more) (took_nothing before (track_fit phase e h way))
