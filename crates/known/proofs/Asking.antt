-- What is known of the units of a whole index: where they stand, and which spans of positions hold the units that a kind asks for.
-- Assumes nothing.
use Prim.Native.Nat.{ℕ, ◌≤◌, ◌<◌}
use mathlib.Core.Path.{◌≡◌, sym, ap, ◌∙◌}
use mathlib.Core.Bool.{true, false, not, ◌&&◌, and-true}
use mathlib.Core.List.{List}
use native.Mathlib.Omega.{arith}
use lib.ListN.{get_or, replicate, get_or-replicate}
use lib.Dec.{leb}
use borrow.Author.Tests.{lt-ltb, le-leb}
use Rattle.rules.specs.Listing.{track, position}
use Rattle.rules.specs.Index.{Index, sizes, low_at, low_in, high_in}
use Rattle.rules.specs.Questions.{kind10_by, kind11_by, kind10, kind11, units_where, kind12, kind13}
use Rattle.rules.specs.Ranges.{every}
use Rattle.rules.proofs.Ranges.{every_same, get_or-table, table_to}
use Rattle.rules.proofs.Verdicts.{no_and}
use Rattle.rules.proofs.Wholes.{Whole, whole_is, unit_track, unit_position, sizes_are, low_in_most, high_in_most, needs_by_high, low_blocks, step_blocks}
use Rattle.bounds.specs.Known.{Known, Standing, none_reaches}
use Rattle.bounds.proofs.Knowing.{known_whole}
use Rattle.lists.specs.Spans.{in_spans, spanned, Tracks, Held}
use Rattle.lists.proofs.Units.{spanned_same}
use Rattle.known.specs.Asked.{Sure, UnitOf}

-- ---- the lows and the highs of a unit, one for each track

abbrev pub lows_of : Index → ℕ → List ℕ
lows_of x u = table_to (low_in x u) 32 x.head.k

abbrev pub highs_of : Index → ℕ → List ℕ
highs_of x u = table_to (high_in x u) 32 x.head.k

-- entry q of a table that is filled for the first k tracks
entry_is : (f : ℕ → ℕ) {k q : ℕ} → k ≤ 32 → q < k → get_or (table_to f 32 k) q 0 ≡ f q
entry_is f {k} {q} few l = get_or-table _ 32 q (omega arith) ∙ rw (lt-ltb q k l)

-- ---- the index

module _ {x : Index} {row : List ℕ} (s : Sure x row) where
  pub whole_of : Whole x
  whole_of = whole_is x s.is_whole

  pub known_of : Known (sizes x) x.head.k x.words x.directory row
  known_of = known_whole x row s.is_whole s.starts

  pub tracks_of : Tracks x.tracks x.head.k
  tracks_of =
      let n = whole_of.tracks_long in
      record {
        few_units = omega (arith, whole_of.n_in);
        few_tracks = whole_of.k_in.1;
        each = λ i l. whole_of.tracks_below i (omega arith);
      }

  pub low_entry : (u q : ℕ) → q < x.head.k → get_or (lows_of x u) q 0 ≡ low_in x u q
  low_entry u q l = entry_is (low_in x u) whole_of.k_in.1 l

  pub high_entry : (u q : ℕ) → q < x.head.k → get_or (highs_of x u) q 0 ≡ high_in x u q
  high_entry u q l = entry_is (high_in x u) whole_of.k_in.1 l

-- ---- one unit

module _ {x : Index} {row : List ℕ} (s : Sure x row) {u : ℕ} (h : UnitOf x.tracks u) where
  pub unit_to : u ≤ x.head.n
  unit_to = omega (arith, h.to, (whole_of s).tracks_long)

  pub standing_of : Standing (sizes x) x.head.k (track x.tracks u) (position x.tracks u)
  standing_of =
      let i = unit_position x (whole_of s) u h.from unit_to in
      record { in_track = unit_track x (whole_of s) u h.from unit_to; from = i.0; to = i.1 }

  -- a low is a position of its track, or 0
  pub lows_within : (q : ℕ) → q < x.head.k → get_or (lows_of x u) q 0 ≤ sizes x q
  lows_within q l = omega (arith, low_entry s u q l, low_in_most x (whole_of s) u h.from unit_to q l)

  pub highs_from : (q : ℕ) → q < x.head.k → 1 ≤ get_or (highs_of x u) q 0
  highs_from q l = omega (arith, high_entry s u q l, high_in_most x (whole_of s) u h.from unit_to q l)

  pub lows_held : Held (replicate 32 1) (lows_of x u) x.tracks x.head.k
  lows_held = record {
    starts = λ q l. omega (arith, get_or-replicate {A = ℕ} 32 q 1 0 (omega (arith, (whole_of s).k_in)));
    ends = λ q l. omega (arith, lows_within q l, sizes_are x (whole_of s) q l);
  }

  pub highs_held : Held (highs_of x u) x.head.lens x.tracks x.head.k
  highs_held = record { starts = highs_from; ends = λ q l. omega (arith, sizes_are x (whole_of s) q l) }

-- ---- two units

module _ {x : Index} {row : List ℕ} (s : Sure x row) {u v : ℕ} (h : UnitOf x.tracks u) (g : UnitOf x.tracks v) where
  -- u needs v where v's position is at least 1, as each is, and at most low
  low_spans : in_spans (replicate 32 1) (lows_of x u) x.tracks v ≡ kind10 x u v
  unfolding in_spans kind10_by
  low_spans =
      let i = standing_of s g in
      rw (get_or-replicate {A = ℕ} 32 (track x.tracks v) 1 0 (omega (arith, (whole_of s).k_in, i.in_track)), le-leb 1 (position x.tracks v) i.from, low_entry s u (track x.tracks v) i.in_track)

  -- v needs u where v's position is at least high, and at most the last, as each is
  high_spans : in_spans (highs_of x u) x.head.lens x.tracks v ≡ kind10 x v u
  unfolding in_spans
  high_spans =
      let i = standing_of s g in
      rw (high_entry s u (track x.tracks v) i.in_track, le-leb (position x.tracks v) (sizes x (track x.tracks v)) i.to)
      (and-true _ ∙ sym (needs_by_high x (whole_of s) u v h.from (unit_to s h) g.from (unit_to s g)))

  -- no unit at a low of u needs v
  pub lows_clear : every (λ p. not (low_blocks x u v p)) x.head.k
      ≡ none_reaches (sizes x) x.head.k x.words (lows_of x u) (track x.tracks v) (position x.tracks v)
  unfolding none_reaches
  lows_clear =
      every_same (λ p. not (low_blocks x u v p)) _ x.head.k
      (λ p l. ap (λ i. not (leb 1 i && leb (position x.tracks v) (low_at (sizes x) x.head.k x.words p i (track x.tracks v)))) (sym (low_entry s u p l)))

  -- a unit that u needs is a direct step of u where no unit at a low of u needs it
  pub step_yes : kind10 x u v ≡ true
      → kind11 x u v ≡ none_reaches (sizes x) x.head.k x.words (lows_of x u) (track x.tracks v) (position x.tracks v)
  step_yes t =
      step_blocks x (whole_of s) u v h.from (unit_to s h) g.from (unit_to s g)
      ∙ ap (λ b. b && every (λ p. not (low_blocks x u v p)) x.head.k) t
      ∙ lows_clear

-- a unit that u does not need is no direct step
pub step_no : (x : Index) (u v : ℕ) → kind10 x u v ≡ false → kind11 x u v ≡ false
unfolding kind11_by
step_no x u v f = no_and _ f

-- ---- the lists

module _ {x : Index} {row : List ℕ} (s : Sure x row) {u : ℕ} (h : UnitOf x.tracks u) where
  -- kind 12: from position 1 up to low in each track
  pub lows_spanned : spanned (replicate 32 1) (lows_of x u) x.tracks ≡ kind12 x u
  lows_spanned =
      spanned_same (replicate 32 1) (lows_of x u) x.tracks (λ v. kind10 x u v) (λ v from to. low_spans s h (record { from = from; to = to }))
      ∙ ap (units_where (λ v. kind10 x u v)) (whole_of s).tracks_long

  -- kind 13: from high up to the last position in each track
  pub highs_spanned : spanned (highs_of x u) x.head.lens x.tracks ≡ kind13 x u
  highs_spanned =
      spanned_same (highs_of x u) x.head.lens x.tracks (λ v. kind10 x v u) (λ v from to. high_spans s h (record { from = from; to = to }))
      ∙ ap (units_where (λ v. kind10 x v u)) (whole_of s).tracks_long
