-- What a step leaves of a card and its areas: what it printed, and that the card is fit.
-- Assumes nothing.
use Prim.Native.Nat.{ℕ, ◌*◌, ◌≤◌}
use mathlib.Core.Path.{◌≡◌, refl, sym, ◌∙◌}
use mathlib.Core.List.{List}
use native.Mathlib.Omega.{arith}
use lib.ListN.{length, take}
use lib.Seq.{length-take-le}
use Rattle.rules.specs.declared.Refusal.{Refusal}
use Rattle.rules.specs.Ranges.{over}
use Rattle.rules.specs.Listing.{pairs}
use Rattle.answers.specs.Printed.{refused_line}
use Rattle.answers.proofs.Lengths.{length_refused_line}
use Rattle.reading.specs.declared.Card.{Card}
use Rattle.reading.specs.declared.Phase.TheVariants.{Stopped}
use Rattle.reading.specs.Card.{go_on, refuse}
use Rattle.reading.specs.Held.{Areas, reading_of, card_in, Roomy, Fit, next, Took}

-- ---- what is printed

-- a step that wrote these bytes
pub took : (xs : List ℕ) {before out : List ℕ} {card : Card} {a : Areas} {wrote : ℕ} → out ≡ over before xs → wrote ≡ length xs → wrote ≤ 5125
    → Fit card a → Took (next (reading_of card a) xs) before (record { card = card; wrote = wrote }) a out
took xs e w few fit = record { reading_is = refl; wrote_is = w; out_is = e; few = few; fit = fit }

-- a step that wrote nothing
pub took_nothing : {card : Card} {a : Areas} (before : List ℕ) → Fit card a
    → Took (go_on (reading_of card a)) before (record { card = card; wrote = 0 }) a before
unfolding over
took_nothing before fit = record { reading_is = refl; wrote_is = refl; out_is = refl; few = omega arith; fit = fit }

pub stopped_fit : {card : Card} {a : Areas} → Roomy card a → Fit (card_in Stopped card) a
stopped_fit h =
    record {
      room = record {
        lines_few = h.lines_few;
        pairs_few = h.pairs_few;
        units_few = h.units_few;
        areas_room = h.areas_room;
      };
      lines_left = λ e. absurd (let z : ◌≡◌ {A = ℕ} 0 1 = cc in omega arith);
      settled = tt;
    }

pub took_refused : {card : Card} {a : Areas} {before out : List ℕ} {wrote : ℕ} (refusal : Refusal) → Roomy card a → wrote ≡ 20
    → out ≡ over before (refused_line refusal)
    → Took (refuse (reading_of card a) refusal) before (record { card = card_in Stopped card; wrote = wrote }) a out
unfolding refuse
took_refused refusal h w e = took (refused_line refusal) e (w ∙ sym (length_refused_line refusal)) (omega arith) (stopped_fit h)

-- ---- what the areas hold

pub tracks_held : {card : Card} {a : Areas} → Roomy card a → length (take card.units a.tracks) ≡ card.units
tracks_held {card} {a} h = length-take-le card.units a.tracks (omega arith)

pub needs_held : {card : Card} {a : Areas} → Roomy card a → pairs (take (2 * card.pairs) a.needs) ≡ card.pairs
needs_held {card} {a} h = let e = length-take-le (2 * card.pairs) a.needs (omega arith) in omega arith
