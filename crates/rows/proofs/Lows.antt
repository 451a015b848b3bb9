-- Rows that are settled from the last unit down: a unit's own entry, read before it becomes its low, is its position, so it tells whether
-- the unit needs the one before it in its track. Assumes nothing.
use Prim.Native.Nat.{ℕ, ◌+◌, ◌*◌, ◌≤◌, ◌<◌}
use mathlib.Core.Path.{◌≡◌, sym, ◌∙◌}
use mathlib.Core.Bool.{Bool, true, false, not}
use mathlib.Core.List.{List}
use native.Mathlib.Omega.{arith}
use native.Mathlib.Decide.{dec_lt, ℕ_discrete}
use lib.ListN.{length, get_or, set, length-set}
use lib.Seq.{get_or-set_same}
use lib.Dec.{eqb}
use borrow.Author.Tests.{eq-eqb, ne_eqb}
use Rattle.std.specs.Prelude.{Option, Some, None}
use Rattle.rules.specs.Ranges.{first_found, greatest, rows}
use Rattle.rules.specs.Listing.{Listing, pairs, in_track}
use Rattle.rules.specs.Order.{low, unsound}
use Rattle.rules.specs.Index.{built_work}
use Rattle.rules.proofs.Found.{found_at, none_found}
use Rattle.rules.proofs.Ranges.{rows_is, length-rows, get_d_rows}
use Rattle.rules.proofs.Tracks.{in_le, track-next}
use Rattle.rules.proofs.Accepted.{Accepted}
use Rattle.rules.proofs.Bounds.{reach, own_sound, low_under}
use Rattle.rows.specs.Rows.{brings, pairs_to}
use Rattle.rows.proofs.RowsWritten.{row_end, entry_other}
use Rattle.rows.proofs.UnitPairs.{to_all}
use Rattle.rows.proofs.Reaches.{Reaches, brings-low, own_entry, other_entry}

-- ---- the first number from i on that passes, if any

abbrev pub FirstFrom : (ℕ → Bool) → ℕ → ℕ → Option ℕ → Type 0
FirstFrom p n i None = (y : ℕ) → i ≤ y → y < n → p y ≡ false
FirstFrom p n i (Some x) = (i ≤ x) × (x < n) × ((y : ℕ) → i ≤ y → y < x → p y ≡ false) × (p x ≡ true)

module _ (p : ℕ → Bool) (n : ℕ) where
  from_end : FirstFrom p n n None
  from_end = λ y a b. absurd (omega arith)

  from_here : (i : ℕ) → i < n → p i ≡ true → FirstFrom p n i (Some i)
  from_here i l t = (omega arith, l, (λ y a b. absurd (omega arith)), t)

  from_past : (i : ℕ) (x : Option ℕ) → FirstFrom p n (i + 1) x → p i ≡ false → FirstFrom p n i x
  from_past i None r t = λ y a b. at y a b (ℕ_discrete i y)
    where
      at : (y : ℕ) → i ≤ y → y < n → Dec (i ≡ y) → p y ≡ false
      at y a b (yes e) = rw (sym e) t
      at y a b (no m) = r y (omega (arith, m)) b
  from_past i (Some x) r t = (omega (arith, r.0), r.1, (λ y a b. at y a b (ℕ_discrete i y)), r.3)
    where
      at : (y : ℕ) → i ≤ y → y < x → Dec (i ≡ y) → p y ≡ false
      at y a b (yes e) = rw (sym e) t
      at y a b (no m) = r.2 y (omega (arith, m)) b

  from_start : (x : Option ℕ) → FirstFrom p n 0 x → x ≡ first_found p n
  from_start None r = none_found p n (λ y b. r y (omega arith) b)
  from_start (Some x) r = found_at p n x r.1 (λ y b. r.2 y (omega arith) b) r.3

-- ---- the rows while they are settled

-- the rows of the first i units are as they were filled, those past them are settled
pub record RowsSettled (c : Listing) (work : List ℕ) (bad : Option ℕ) (j i : ℕ) : Type 0 where
  pub upto : i ≤ c.n
  pub work_long : length work ≡ c.n * c.k
  pub reached : Reaches c work i
  pub settled : (v q : ℕ) → i ≤ v → v < c.n → q < c.k → get_or work (v * c.k + q) 0 ≡ low c (v + 1) q
  pub pair_is : j ≡ pairs_to c.needs i
  pub refused : FirstFrom (unsound c) c.n i bad

module _ {c : Listing} (a : Accepted c) where
  pub settled_start : (work : List ℕ) → work ≡ rows (λ i q. reach c (i + 1) q) c.n c.k → RowsSettled c work None (pairs c.needs) c.n
  settled_start work e = record {
    upto = omega arith;
    work_long = rw e (length-rows (λ i q. reach c (i + 1) q) c.k c.n);
    reached = λ v q l m. rw e (get_d_rows (λ i q. reach c (i + 1) q) c.k c.n v q l m);
    settled = λ v q l m. absurd (omega arith);
    pair_is = sym (to_all a.needs_pairs);
    refused = from_end (unsound c) c.n;
  }

  -- what the pairs of unit i + 1 bring to its own entry is its low, which is below its position
  module _ {work : List ℕ} {bad : Option ℕ} {j : ℕ} (i l : ℕ) (s : RowsSettled c work bad j (i + 1))
      (is : l ≡ greatest (brings work c.needs c.k i (get_or c.tracks i 0)) (pairs c.needs)) where
    in_n : i < c.n
    in_n = omega (arith, s.upto)

    p_in : get_or c.tracks i 0 < c.k
    p_in = a.tracks_below i in_n

    own_low : l ≡ low c (i + 1) (get_or c.tracks i 0)
    own_low = is ∙ brings-low c a work i (get_or c.tracks i 0) (λ v q h m. s.reached v q (omega arith) m) p_in

    own_position : get_or work (i * c.k + get_or c.tracks i 0) 0 ≡ in_track c.tracks (get_or c.tracks i 0) (i + 1)
    own_position = s.reached i (get_or c.tracks i 0) (omega arith) p_in ∙ own_entry c i

    pub own_under : l < c.n
    own_under =
        let t : low c (i + 1) (get_or c.tracks i 0) < in_track c.tracks (get_or c.tracks i 0) (i + 1) =
        rw (track-next c.tracks i) at (low_under c a (i + 1) (omega arith)) in
        omega (arith, own_low, in_le c.tracks (get_or c.tracks i 0) (i + 1), in_n)

    own_test : unsound c i ≡ not (eqb (l + 1) (get_or work (i * c.k + get_or c.tracks i 0) 0))
    own_test = rw (own_low, own_position) (rw (track-next c.tracks i) at (own_sound c a i in_n))

    pub refused_here : (l + 1 ≡ get_or work (i * c.k + get_or c.tracks i 0) 0 → ⊥) → FirstFrom (unsound c) c.n i (Some i)
    refused_here n = from_here (unsound c) c.n i in_n (own_test ∙ rw (ne_eqb _ _ n))

    pub refused_past : l + 1 ≡ get_or work (i * c.k + get_or c.tracks i 0) 0 → FirstFrom (unsound c) c.n i bad
    refused_past e = from_past (unsound c) c.n i bad s.refused (own_test ∙ rw (eq-eqb _ _ e))

    pub settled_next : (bad' : Option ℕ) (j' : ℕ) → FirstFrom (unsound c) c.n i bad' → j' ≡ pairs_to c.needs i
        → RowsSettled c (set work (i * c.k + get_or c.tracks i 0) l) bad' j' i
    settled_next bad' j' f e = record {
      upto = omega (arith, in_n);
      work_long = length-set work _ _ ∙ s.work_long;
      reached = λ v q h m. entry_other work v q i p c.k l m p_in (λ z. omega (arith, z.0)) ∙ s.reached v q (omega arith) m;
      settled = λ v q b h m. entry v q b h m (ℕ_discrete i v);
      pair_is = e;
      refused = f;
    }
      where
        p : ℕ
        p = get_or c.tracks i 0

        own : (q : ℕ) → q < c.k → Dec (p ≡ q) → get_or (set work (i * c.k + p) l) (i * c.k + q) 0 ≡ low c (i + 1) q
        own q m (yes t) =
            rw (sym t)
            (get_or-set_same work (i * c.k + p) l 0 (omega (arith, row_end i c.n c.k in_n, p_in, s.work_long)) ∙ own_low)
        own q m (no n) =
            entry_other work i q i p c.k l m p_in (λ z. n (sym z.1))
            ∙ s.reached i q (omega arith) m
            ∙ other_entry c i q n

        entry : (v q : ℕ) → i ≤ v → v < c.n → q < c.k → Dec (i ≡ v) → get_or (set work (i * c.k + p) l) (v * c.k + q) 0 ≡ low c (v + 1) q
        entry v q b h m (yes t) = rw (sym t) (own q m (ℕ_discrete p q))
        entry v q b h m (no n) =
            entry_other work v q i p c.k l m p_in (λ z. n (sym z.0)) ∙ s.settled v q (omega (arith, n)) h m

  -- all rows are settled
  pub settled_all : {work : List ℕ} {bad : Option ℕ} {j i : ℕ} → RowsSettled c work bad j i → i ≡ 0
      → (bad ≡ first_found (unsound c) c.n) × (work ≡ built_work c)
  unfolding built_work
  settled_all {work} {bad} {j} {i} s e = (
    from_start (unsound c) c.n bad (rw e at s.refused),
    rows_is (λ i q. low c (i + 1) q) c.k c.n work s.work_long (λ v q l m. s.settled v q (omega arith) l m),
  )
