-- 03: the pair stands behind the pairs that are held, and the 8,193rd is refused.
-- Assumes nothing.
use Prim.Native.Nat.{ℕ, suc, ◌+◌, ◌*◌, ◌<◌}
use mathlib.Core.Path.{◌≡◌}
use mathlib.Core.List.{List, [], ◌∷◌, ◌++◌, append_assoc}
use native.Mathlib.Omega.{arith}
use native.Mathlib.Numerals.{add-one}
use lib.ListN.{length, take, set, length-set}
use lib.Seq.{take-suc-set}
use borrow.Author.Tests.{ne_eqb}
use Rattle.rules.specs.declared.Refusal.TheVariants.{OutOfLimits}
use Rattle.reading.specs.declared.Card.{Card}
use Rattle.reading.specs.declared.Phase.TheVariants.{Needs}
use Rattle.reading.specs.Card.{refuse, need_frame}
use Rattle.reading.specs.Held.{Areas, areas, reading_of, Settled, Fit, Took}
use Rattle.reading.proofs.Taking.{took_nothing, needs_held}

abbrev need_card : Card → Card
need_card card =
    record {
      phase = card.phase;
      lines = card.lines;
      n = card.n;
      k = card.k;
      units = card.units;
      pairs = card.pairs + 1;
      count = card.count;
      lens = card.lens;
      row = card.row;
    }

-- a pair stored after the pairs that are held
pub pair_stored : (needs : List ℕ) (m u v : ℕ) → 2 * m + 1 < length needs
    → take (2 * (m + 1)) (set (set needs (2 * m) u) (2 * m + 1) v) ≡ take (2 * m) needs ++ (u ∷ v ∷ [])
pair_stored needs m u v h =
    let e : 2 * (m + 1) ≡ suc (2 * m + 1) = omega arith in
    rw (e, take-suc-set (set needs (2 * m) u) (2 * m + 1) v (rw length-set h), add-one, take-suc-set needs (2 * m) u (omega arith), append_assoc)

module _ {card : Card} {tracks needs words directory work list : List ℕ} (u v : ℕ) (fit : Fit card (areas tracks needs words directory work list)) where
  abbrev before_need : Areas
  before_need = areas tracks needs words directory work list

  pub need_refused : card.pairs ≡ 8192 → need_frame (reading_of card before_need) u v ≡ refuse (reading_of card before_need) OutOfLimits
  unfolding need_frame
  need_refused h = rw (needs_held fit.room, h)

  abbrev after_need : Areas
  after_need = areas tracks (set (set needs (2 * card.pairs) u) (2 * card.pairs + 1) v) words directory work list

  need_fit : card.phase ≡ Needs → (card.pairs ≡ 8192 → ⊥) → Fit (need_card card) after_need
  need_fit e h =
      let s : Settled Needs card before_need = rw e at fit.settled in
      record {
        room = record {
          lines_few = fit.room.lines_few;
          pairs_few = omega arith;
          units_few = fit.room.units_few;
          areas_room = record {
            track_room = fit.room.areas_room.track_room;
            need_room = rw (length-set, length-set) fit.room.areas_room.need_room;
            word_room = fit.room.areas_room.word_room;
            directory_room = fit.room.areas_room.directory_room;
            work_room = fit.room.areas_room.work_room;
            list_room = fit.room.areas_room.list_room;
          };
        };
        lines_left = fit.lines_left;
        settled = rw e s;
      }

  pub took_need : (before : List ℕ) → card.phase ≡ Needs → (card.pairs ≡ 8192 → ⊥)
      → Took (need_frame (reading_of card before_need) u v) before (record { card = need_card card; wrote = 0 }) after_need before
  unfolding need_frame
  took_need before e h =
      rw (needs_held fit.room, ne_eqb card.pairs 8192 h, ← e, ← pair_stored needs card.pairs u v (omega arith))
      (took_nothing before (need_fit e h))
