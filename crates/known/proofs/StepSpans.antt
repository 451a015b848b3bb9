-- Direct steps as spans of one position: the units at the lows of u that pass are those that u has as direct steps, and the units at its
-- highs that pass are those that have u as one. Assumes nothing.
use Prim.Native.Nat.{ℕ, ◌+◌, ◌≤◌, ◌<◌}
use mathlib.Core.Path.{◌≡◌, sym, ap, ◌∙◌}
use mathlib.Core.Bool.{Bool, true, false, cond, not, ◌&&◌, and-true, and-false}
use mathlib.Core.List.{List}
use mathlib.Core.Logic.{◌⊎◌, inl, inr}
use native.Mathlib.Omega.{arith}
use native.Mathlib.Decide.{dec_lt, ℕ_discrete}
use lib.ListN.{get_or, set, replicate, length-set, length-replicate, get_or-replicate}
use lib.Seq.{get_or-set_same, get_or-set_other}
use lib.Dec.{leb, ltb, eqb}
use borrow.Author.Tests.{lt-ltb, le-ltb, le-leb, lt-leb, leb-true, eq-eqb, ne_eqb, eqb-true}
use Rattle.rules.specs.Ranges.{every, table}
use Rattle.rules.specs.Listing.{track, size, position}
use Rattle.rules.specs.Order.{highest_step}
use Rattle.rules.specs.Index.{Index, sizes, low_in}
use Rattle.rules.specs.Questions.{kind11, units_where, kind14, kind15}
use Rattle.rules.proofs.Ranges.{true_or_false, not_both, every_same, length-table, get_or-table, table_is, table_same}
use Rattle.rules.proofs.Verdicts.{and_both, both_and, no_and, and_no, same_test}
use Rattle.rules.proofs.Wholes.{sizes_are, low_blocks, high_blocks, step_at-low, step_at-high}
use Rattle.bounds.specs.Known.{Standing, none_reaches, reaches_none}
use Rattle.lists.specs.Spans.{in_spans, spanned, last_spanned, Held}
use Rattle.lists.proofs.Units.{spanned_same, last_same}
use Rattle.lists.specs.declared.Spans.{Spans}
use Rattle.known.specs.Asked.{Sure, UnitOf, one_from, one_to, step_at, step_up_at}
use Rattle.known.proofs.Asking.{lows_of, highs_of, whole_of, low_entry, high_entry, unit_to, standing_of, lows_within, highs_from, lows_clear}

-- ---- arrays filled at the tracks that pass

-- a track below m that passes
abbrev pub below : (ℕ → Bool) → ℕ → ℕ → Bool
below passes m q = ltb q m && passes q

module _ (passes : ℕ → Bool) (at : List ℕ) (d : ℕ) where
  -- the given positions at the tracks below m that pass, d at any other
  abbrev pub filled : ℕ → List ℕ
  filled m = table (λ q. cond (below passes m q) (get_or at q 0) d) 32

  pub filled_none : replicate 32 d ≡ filled 0
  filled_none =
      table_is _ (replicate 32 d) 32 (length-replicate 32 d) (λ j l. get_or-replicate 32 j d 0 l ∙ rw (le-ltb j 0 (omega arith)))

  -- one track more, where it is not j or does not pass, tells the same of j
  below_next : (i j : ℕ) → (j ≡ i → passes i ≡ false) → below passes i j ≡ below passes (i + 1) j
  below_next i j f = go (dec_lt j i) (dec_lt i j)
    where
      go : Dec (j < i) → Dec (i < j) → below passes i j ≡ below passes (i + 1) j
      go (yes l) h = rw (lt-ltb j i l, lt-ltb j (i + 1) (omega arith))
      go (no n) (yes l) = rw (le-ltb j i (omega arith), le-ltb j (i + 1) (omega arith))
      go (no n) (no m) =
          let e : j ≡ i = omega arith in
          rw (e, f e, le-ltb i i (omega arith)) (sym (and-false (ltb i (i + 1))))

  pub filled_no : (i : ℕ) → passes i ≡ false → filled i ≡ filled (i + 1)
  filled_no i f = table_same _ _ 32 (λ j l. rw (below_next i j (λ e. f)))

  pub filled_yes : (i : ℕ) → i < 32 → passes i ≡ true → set (filled i) i (get_or at i 0) ≡ filled (i + 1)
  filled_yes i l t =
      table_is _ (set (filled i) i (get_or at i 0)) 32 (simp (length-set, length-table)) (λ j h. at_each j h (ℕ_discrete j i))
    where
      at_each : (j : ℕ) → j < 32 → Dec (j ≡ i) → get_or (set (filled i) i (get_or at i 0)) j 0 ≡ cond (below passes (i + 1) j) (get_or at j 0) d
      at_each j h (yes e) =
          rw (e, lt-ltb i (i + 1) (omega arith), t) (get_or-set_same (filled i) i (get_or at i 0) 0 (rw length-table l))
      at_each j h (no n) =
          get_or-set_other (filled i) i j (get_or at i 0) 0 n ∙ get_or-table _ 32 j h
          ∙ ap (λ b. cond b (get_or at j 0) d) (below_next i j (λ e. absurd (n e)))

  -- all that pass are below m
  filled_all : (m : ℕ) → ((q : ℕ) → m ≤ q → passes q ≡ false) → filled m ≡ table (λ q. cond (passes q) (get_or at q 0) d) 32
  filled_all m out = table_same _ _ 32 (λ q l. ap (λ b. cond b (get_or at q 0) d) (go q (dec_lt q m)))
    where
      go : (q : ℕ) → Dec (q < m) → below passes m q ≡ passes q
      go q (yes l) = rw (lt-ltb q m l)
      go q (no n) = no_and (passes q) (le-ltb q m (omega arith)) ∙ sym (out q (omega arith))

-- two such arrays are the spans
pub filled_spans : (passes : ℕ → Bool) (at : List ℕ) (m : ℕ) {from to : List ℕ} → from ≡ filled passes at 1 m → to ≡ filled passes at 0 m
    → ((q : ℕ) → m ≤ q → passes q ≡ false)
    → ◌≡◌ {A = Spans} (record { from = from; to = to }) (record { from = one_from passes at; to = one_to passes at })
filled_spans passes at m e f out = rw (e ∙ filled_all passes at 1 m out, f ∙ filled_all passes at 0 m out)

-- ---- the tests of one track

module _ (s : ℕ → ℕ) (k : ℕ) (words at : List ℕ) (q : ℕ) where
  pub step_past : k ≤ q → step_at s k words at q ≡ false
  unfolding step_at
  step_past l = rw (le-ltb q k l)

  pub step_none : get_or at q 0 < 1 → step_at s k words at q ≡ false
  unfolding step_at
  step_none l = rw (lt-leb 1 (get_or at q 0) l, and-false (ltb q k))

  pub step_there : q < k → 1 ≤ get_or at q 0 → step_at s k words at q ≡ none_reaches s k words at q (get_or at q 0)
  unfolding step_at
  step_there l h = rw (lt-ltb q k l, le-leb 1 (get_or at q 0) h)

  pub step_below : q < k → step_at s k words at q ≡ (leb 1 (get_or at q 0) && none_reaches s k words at q (get_or at q 0))
  unfolding step_at
  step_below l = rw (lt-ltb q k l)

  pub step_up_past : k ≤ q → step_up_at s k words at q ≡ false
  unfolding step_up_at
  step_up_past l = rw (le-ltb q k l)

  pub step_up_none : s q < get_or at q 0 → step_up_at s k words at q ≡ false
  unfolding step_up_at
  step_up_none l = rw (lt-leb (get_or at q 0) (s q) l, and-false (ltb q k))

  pub step_up_there : q < k → get_or at q 0 ≤ s q → step_up_at s k words at q ≡ reaches_none s k words q (get_or at q 0) at
  unfolding step_up_at
  step_up_there l h = rw (lt-ltb q k l, le-leb (get_or at q 0) (s q) h)

  pub step_up_below : q < k → step_up_at s k words at q ≡ (leb (get_or at q 0) (s q) && reaches_none s k words q (get_or at q 0) at)
  unfolding step_up_at
  step_up_below l = rw (lt-ltb q k l)

-- ---- units in the spans of one position

-- a unit is in the spans where it stands at the given position and its track passes
in_one : (passes : ℕ → Bool) (at ts : List ℕ) (v : ℕ) → track ts v < 32 → 1 ≤ position ts v
    → in_spans (one_from passes at) (one_to passes at) ts v ≡ (eqb (position ts v) (get_or at (track ts v) 0) && passes (track ts v))
unfolding in_spans
in_one passes at ts v l h =
    rw (get_or-table (λ q. cond (passes q) (get_or at q 0) 1) 32 (track ts v) l, get_or-table (λ q. cond (passes q) (get_or at q 0) 0) 32 (track ts v) l)
    (go (passes (track ts v)) (position ts v) (get_or at (track ts v) 0) h)
  where
    stands : (i a : ℕ) → (leb a i && leb i a) ≡ eqb i a
    stands i a =
        same_test _ _
        (λ t. let r = and_both (leb a i) (leb i a) t in eq-eqb i a (omega (arith, leb-true a i r.0, leb-true i a r.1)))
        (λ t. let e : i ≡ a = eqb-true i a t in both_and (le-leb a i (omega arith)) (le-leb i a (omega arith)))

    go : (b : Bool) (i a : ℕ) → 1 ≤ i → (leb (cond b a 1) i && leb i (cond b a 0)) ≡ (eqb i a && b)
    go true i a h = stands i a ∙ sym (and-true (eqb i a))
    go false i a h = and_no (leb 1 i) (lt-leb i 0 h) ∙ sym (and-false (eqb i a))

-- the spans are of positions that units have, where what passes is a unit's
held_one : (passes : ℕ → Bool) (at ts : List ℕ) (k : ℕ) → k ≤ 32
    → ((q : ℕ) → q < k → passes q ≡ true → (1 ≤ get_or at q 0) × (get_or at q 0 ≤ size ts q)) → Held (one_from passes at) (one_to passes at) ts k
held_one passes at ts k few each = record {
  starts = λ q l. rw (get_or-table (λ q. cond (passes q) (get_or at q 0) 1) 32 q (omega arith)) (start q l (true_or_false (passes q)));
  ends = λ q l. rw (get_or-table (λ q. cond (passes q) (get_or at q 0) 0) 32 q (omega arith)) (end q l (true_or_false (passes q)));
}
  where
    start : (q : ℕ) → q < k → (passes q ≡ true) ⊎ (passes q ≡ false) → 1 ≤ cond (passes q) (get_or at q 0) 1
    start q l (inl t) = rw t (each q l t).0
    start q l (inr f) = rw f (omega arith)

    end : (q : ℕ) → q < k → (passes q ≡ true) ⊎ (passes q ≡ false) → cond (passes q) (get_or at q 0) 0 ≤ size ts q
    end q l (inl t) = rw t (each q l t).1
    end q l (inr f) = rw f (omega arith)

-- two tests behind the same equation need to agree only where it holds
same_where : (i a : ℕ) (b c : Bool) → (i ≡ a → b ≡ c) → (eqb i a && b) ≡ (eqb i a && c)
same_where i a b c h = go (ℕ_discrete i a)
  where
    go : Dec (i ≡ a) → (eqb i a && b) ≡ (eqb i a && c)
    go (yes e) = ap (λ d. eqb i a && d) (h e)
    go (no n) = rw (ne_eqb i a n)

-- ---- the direct steps of u, and the units that have u as one

-- the unit at the low of u in track q is a direct step of u
abbrev pub step_of : Index → ℕ → ℕ → Bool
step_of x u = step_at (sizes x) x.head.k x.words (lows_of x u)

-- the unit at the high of u in track q has u as a direct step
abbrev pub step_up_of : Index → ℕ → ℕ → Bool
step_up_of x u = step_up_at (sizes x) x.head.k x.words (highs_of x u)

-- the spans of those units
abbrev pub steps_from : Index → ℕ → List ℕ
steps_from x u = one_from (step_of x u) (lows_of x u)

abbrev pub steps_to : Index → ℕ → List ℕ
steps_to x u = one_to (step_of x u) (lows_of x u)

abbrev pub steps_up_from : Index → ℕ → List ℕ
steps_up_from x u = one_from (step_up_of x u) (highs_of x u)

abbrev pub steps_up_to : Index → ℕ → List ℕ
steps_up_to x u = one_to (step_up_of x u) (highs_of x u)

module _ {x : Index} {row : List ℕ} (s : Sure x row) {u : ℕ} (h : UnitOf x.tracks u) where
  pub steps_held : Held (steps_from x u) (steps_to x u) x.tracks x.head.k
  steps_held = held_one (step_of x u) (lows_of x u) x.tracks x.head.k (whole_of s).k_in.1 each
    where
      stands : (q : ℕ) → step_of x u q ≡ true → Dec (0 < get_or (lows_of x u) q 0) → 1 ≤ get_or (lows_of x u) q 0
      stands q t (yes l) = l
      stands q t (no n) = absurd (not_both t (step_none (sizes x) x.head.k x.words (lows_of x u) q (omega arith)))

      each : (q : ℕ) → q < x.head.k → step_of x u q ≡ true → (1 ≤ get_or (lows_of x u) q 0) × (get_or (lows_of x u) q 0 ≤ size x.tracks q)
      each q l t = (stands q t (dec_lt 0 (get_or (lows_of x u) q 0)), omega (arith, lows_within s h q l, sizes_are x (whole_of s) q l))

  pub steps_up_held : Held (steps_up_from x u) (steps_up_to x u) x.tracks x.head.k
  steps_up_held = held_one (step_up_of x u) (highs_of x u) x.tracks x.head.k (whole_of s).k_in.1 each
    where
      stands : (q : ℕ) → step_up_of x u q ≡ true → Dec (sizes x q < get_or (highs_of x u) q 0) → get_or (highs_of x u) q 0 ≤ sizes x q
      stands q t (yes l) = absurd (not_both t (step_up_none (sizes x) x.head.k x.words (highs_of x u) q l))
      stands q t (no n) = omega arith

      each : (q : ℕ) → q < x.head.k → step_up_of x u q ≡ true → (1 ≤ get_or (highs_of x u) q 0) × (get_or (highs_of x u) q 0 ≤ size x.tracks q)
      each q l t = (highs_from s h q l, omega (arith, stands q t (dec_lt (sizes x q) (get_or (highs_of x u) q 0)), sizes_are x (whole_of s) q l))

module _ {x : Index} {row : List ℕ} (s : Sure x row) {u v : ℕ} (h : UnitOf x.tracks u) (g : UnitOf x.tracks v) where
  -- v needs no unit at a high of u
  highs_clear : every (λ p. not (high_blocks x u v p)) x.head.k
      ≡ reaches_none (sizes x) x.head.k x.words (track x.tracks v) (position x.tracks v) (highs_of x u)
  unfolding reaches_none
  highs_clear =
      every_same (λ p. not (high_blocks x u v p)) _ x.head.k
      (λ p l. ap (λ i. not (leb i (sizes x p) && leb i (low_in x v p))) (sym (high_entry s u p l)))

  -- v is in the spans at the lows exactly when it is a direct step of u
  step_spans : in_spans (steps_from x u) (steps_to x u) x.tracks v ≡ kind11 x u v
  step_spans =
      in_one (step_of x u) (lows_of x u) x.tracks v (omega (arith, i.in_track, (whole_of s).k_in)) i.from
      ∙ same_where (position x.tracks v) (get_or (lows_of x u) (track x.tracks v) 0) _ _ passes
      ∙ rw (low_entry s u (track x.tracks v) i.in_track)
      (sym (step_at-low x (whole_of s) u v h.from (unit_to s h) g.from (unit_to s g)))
    where
      i : Standing (sizes x) x.head.k (track x.tracks v) (position x.tracks v)
      i = standing_of s g

      passes : position x.tracks v ≡ get_or (lows_of x u) (track x.tracks v) 0
          → step_of x u (track x.tracks v) ≡ every (λ p. not (low_blocks x u v p)) x.head.k
      passes e =
          step_there (sizes x) x.head.k x.words (lows_of x u) (track x.tracks v) i.in_track (omega (arith, i.from))
          ∙ rw (sym e) (sym (lows_clear s h g))

  -- and in those at the highs exactly when it has u as a direct step
  step_up_spans : in_spans (steps_up_from x u) (steps_up_to x u) x.tracks v ≡ kind11 x v u
  step_up_spans =
      in_one (step_up_of x u) (highs_of x u) x.tracks v (omega (arith, i.in_track, (whole_of s).k_in)) i.from
      ∙ same_where (position x.tracks v) (get_or (highs_of x u) (track x.tracks v) 0) _ _ passes
      ∙ rw (high_entry s u (track x.tracks v) i.in_track)
      (sym (step_at-high x (whole_of s) u v h.from (unit_to s h) g.from (unit_to s g)))
    where
      i : Standing (sizes x) x.head.k (track x.tracks v) (position x.tracks v)
      i = standing_of s g

      passes : position x.tracks v ≡ get_or (highs_of x u) (track x.tracks v) 0
          → step_up_of x u (track x.tracks v) ≡ every (λ p. not (high_blocks x u v p)) x.head.k
      passes e =
          step_up_there (sizes x) x.head.k x.words (highs_of x u) (track x.tracks v) i.in_track (omega (arith, i.to))
          ∙ rw (sym e) (sym highs_clear)

-- ---- the lists

module _ {x : Index} {row : List ℕ} (s : Sure x row) {u : ℕ} (h : UnitOf x.tracks u) where
  -- kind 14
  pub steps_spanned : spanned (steps_from x u) (steps_to x u) x.tracks ≡ kind14 x u
  steps_spanned =
      spanned_same (steps_from x u) (steps_to x u) x.tracks (kind11 x u) (λ v from to. step_spans s h (record { from = from; to = to }))
      ∙ ap (units_where (kind11 x u)) (whole_of s).tracks_long

  -- kind 15
  pub steps_up_spanned : spanned (steps_up_from x u) (steps_up_to x u) x.tracks ≡ kind15 x u
  steps_up_spanned =
      spanned_same (steps_up_from x u) (steps_up_to x u) x.tracks (λ v. kind11 x v u) (λ v from to. step_up_spans s h (record { from = from; to = to }))
      ∙ ap (units_where (λ v. kind11 x v u)) (whole_of s).tracks_long

  pub steps_last : last_spanned (steps_from x u) (steps_to x u) x.tracks u ≡ highest_step (kind11 x) u
  steps_last =
      last_same (steps_from x u) (steps_to x u) x.tracks (kind11 x) u
      (λ v from below. step_spans s h (record { from = from; to = omega (arith, h.to) }))
