-- Rows that hold what a hop to their unit brings: from the rows of all smaller units the pairs of a unit bring it its low, and with its
-- position in the entry of its own track the next row holds the same. Assumes nothing.
use Prim.Native.Nat.{ℕ, ◌+◌, ◌-◌, ◌*◌, ◌≤◌, ◌<◌}
use mathlib.Core.Path.{◌≡◌, refl, sym, ap, ◌∙◌}
use mathlib.Core.Bool.{cond}
use mathlib.Core.List.{List}
use native.Mathlib.Omega.{arith}
use native.Mathlib.Decide.{dec_lt, ℕ_discrete}
use lib.ListN.{length, get_or, set, length-set, replicate, length-replicate, get_or-replicate}
use lib.Seq.{get_or-set_same, get_or-set_other}
use lib.Dec.{eqb}
use borrow.Author.Tests.{eq-eqb, ne_eqb}
use Rattle.rules.specs.Ranges.{greatest, rows, bit1}
use Rattle.rules.specs.Listing.{Listing, pairs, upper, lower, in_track}
use Rattle.rules.specs.Order.{low}
use Rattle.rules.proofs.Ranges.{greatest_same, rows_is}
use Rattle.rules.proofs.Tracks.{in_none, in_next, track-next}
use Rattle.rules.proofs.Accepted.{Accepted}
use Rattle.rules.proofs.Bounds.{reach, row_term, low_row, reach_own, reach_other}
use Rattle.rows.specs.Rows.{RowIs, brings, pairs_to}
use Rattle.rows.proofs.RowsWritten.{row_end, entry_other, rows_before}
use Rattle.rows.proofs.UnitPairs.{to_none, brings_own, brings_none}

-- the rows of the first i units hold what a hop to them brings
abbrev pub Reaches : Listing → List ℕ → ℕ → Type 0
Reaches c work i = (v q : ℕ) → v < i → q < c.k → get_or work (v * c.k + q) 0 ≡ reach c (v + 1) q

-- in its own track a unit's row holds its position, and in any other its low
module _ (c : Listing) (i : ℕ) where
  pub own_entry : reach c (i + 1) (get_or c.tracks i 0) ≡ in_track c.tracks (get_or c.tracks i 0) (i + 1)
  own_entry = rw (track-next c.tracks i) at (reach_own c (i + 1))

  pub other_entry : (q : ℕ) → (get_or c.tracks i 0 ≡ q → ⊥) → reach c (i + 1) q ≡ low c (i + 1) q
  other_entry q n = reach_other c (i + 1) q (λ t. n (sym (track-next c.tracks i) ∙ t))

module _ (c : Listing) (a : Accepted c) where
  -- then the pairs of unit i + 1 bring it its low
  pub brings-low : (work : List ℕ) (i q : ℕ) → Reaches c work i → q < c.k
      → greatest (brings work c.needs c.k i q) (pairs c.needs) ≡ low c (i + 1) q
  unfolding row_term
  brings-low work i q r h =
      greatest_same (brings work c.needs c.k i q) (row_term c a (i + 1) q) (pairs c.needs) (λ x b. same x b (ℕ_discrete _ _))
      ∙ sym (low_row c a (i + 1) q)
    where
      same : (x : ℕ) → x < pairs c.needs → Dec (upper c.needs x ≡ i + 1)
          → brings work c.needs c.k i q x ≡ cond (eqb (upper c.needs x) (i + 1)) (reach c (lower c.needs x) q) 0
      same x b (yes e) =
          let s = a.needs_pairs.second_in x b in
          let v : lower c.needs x - 1 + 1 ≡ lower c.needs x = omega arith in
          rw (eq-eqb _ _ e)
          (brings_own work c.needs c.k i q x e
          ∙ r (lower c.needs x - 1) q (omega (arith, a.needs_pairs.goes_down x b)) h
          ∙ ap (λ (u : ℕ). reach c u q) v)
      same x b (no n) = rw (ne_eqb _ _ n) (brings_none work c.needs c.k i q x n)

-- ---- the rows while they are filled

-- before unit i + 1: the rows so far, how many units of each track were seen, and the first pair that is left
pub record RowsFilled (c : Listing) (work seen : List ℕ) (j i : ℕ) : Type 0 where
  pub upto : i ≤ c.n
  pub work_long : length work ≡ c.n * c.k
  pub reached : Reaches c work i
  pub seen_long : length seen ≡ 32
  pub seen_are : (q : ℕ) → q < 32 → get_or seen q 0 ≡ in_track c.tracks q i
  pub pair_is : j ≡ pairs_to c.needs i

-- one unit more is seen
seen_next : (ts seen : List ℕ) (i p q : ℕ) → get_or ts i 0 ≡ p → p < length seen
    → ((q : ℕ) → q < 32 → get_or seen q 0 ≡ in_track ts q i) → p < 32 → q < 32
    → get_or (set seen p (get_or seen p 0 + 1)) q 0 ≡ in_track ts q (i + 1)
seen_next ts seen i p q e l h m b = go (ℕ_discrete p q)
  where
    go : Dec (p ≡ q) → get_or (set seen p (get_or seen p 0 + 1)) q 0 ≡ in_track ts q (i + 1)
    go (yes s) =
        let y : bit1 (eqb (get_or ts i 0) q) ≡ 1 = rw (eq-eqb (get_or ts i 0) q (e ∙ s)) in
        rw (sym s) (get_or-set_same seen p (get_or seen p 0 + 1) 0 l ∙ omega (arith, h p m, in_next ts q i, ap (λ (q : ℕ). in_track ts q i) s, ap (λ (q : ℕ). in_track ts q (i + 1)) s))
    go (no n) =
        let y : bit1 (eqb (get_or ts i 0) q) ≡ 0 = rw (ne_eqb (get_or ts i 0) q (λ s. n (sym e ∙ s))) in
        get_or-set_other seen p q (get_or seen p 0 + 1) 0 (λ s. n (sym s)) ∙ omega (arith, h q b, in_next ts q i)

module _ {c : Listing} (a : Accepted c) where
  pub rows_filled_start : (work : List ℕ) → length work ≡ c.n * c.k → RowsFilled c work (replicate 32 0) 0 0
  rows_filled_start work l = record {
    upto = omega arith;
    work_long = l;
    reached = λ v q h. absurd (omega arith);
    seen_long = length-replicate {A = ℕ} 32 0;
    seen_are = λ q h. get_or-replicate 32 q 0 0 h ∙ sym (in_none c.tracks q);
    pair_is = sym (to_none a.needs_pairs);
  }

  -- the row of unit i + 1 is cleared, joined to those of its pairs, and gets the unit's position
  pub rows_filled_next : {work cleared row seen : List ℕ} {j i : ℕ} (j' : ℕ) → RowsFilled c work seen j i → i < c.n
      → RowIs work cleared (i * c.k) c.k (λ q. 0)
      → RowIs cleared row (i * c.k) c.k (λ q. greatest (brings cleared c.needs c.k i q) (pairs c.needs))
      → j' ≡ pairs_to c.needs (i + 1)
      → RowsFilled
      c
      (set row (i * c.k + get_or c.tracks i 0) (get_or (set seen (get_or c.tracks i 0) (get_or seen (get_or c.tracks i 0) 0 + 1)) (get_or c.tracks i 0) 0))
      (set seen (get_or c.tracks i 0) (get_or seen (get_or c.tracks i 0) 0 + 1))
      j'
      (i + 1)
  rows_filled_next {work} {cleared} {row} {seen} {j} {i} j' f l r s e = record {
    upto = omega arith;
    work_long = length-set row _ _ ∙ s.same_length ∙ r.same_length ∙ f.work_long;
    reached = λ v q h. entry v q (dec_lt v i) h;
    seen_long = length-set seen _ _ ∙ f.seen_long;
    seen_are = counted;
    pair_is = e;
  }
    where
      p : ℕ
      p = get_or c.tracks i 0

      seen' : List ℕ
      seen' = set seen p (get_or seen p 0 + 1)

      p_in : p < c.k
      p_in = a.tracks_below i l

      p_low : p < 32
      p_low = omega (arith, p_in, a.k_in)

      counted : (q : ℕ) → q < 32 → get_or seen' q 0 ≡ in_track c.tracks q (i + 1)
      counted q h = seen_next c.tracks seen i p q refl (omega (arith, p_low, f.seen_long)) f.seen_are p_low h

      earlier : Reaches c cleared i
      earlier v q b m = rows_before i c.k r v q b m ∙ f.reached v q b m

      own : (q : ℕ) → q < c.k → Dec (p ≡ q) → get_or (set row (i * c.k + p) (get_or seen' p 0)) (i * c.k + q) 0 ≡ reach c (i + 1) q
      own q m (yes t) =
          rw (sym t)
          (get_or-set_same row (i * c.k + p) (get_or seen' p 0) 0
          (omega (arith, row_end i c.n c.k l, p_in, s.same_length, r.same_length, f.work_long))
          ∙ counted p p_low
          ∙ sym (own_entry c i))
      own q m (no n) =
          entry_other row i q i p c.k (get_or seen' p 0) m p_in (λ z. n (sym z.1))
          ∙ s.row q m
          ∙ brings-low c a cleared i q earlier m
          ∙ sym (other_entry c i q n)

      entry : (v q : ℕ) → Dec (v < i) → v < i + 1 → q < c.k → get_or (set row (i * c.k + p) (get_or seen' p 0)) (v * c.k + q) 0 ≡ reach c (v + 1) q
      entry v q (yes b) h m =
          entry_other row v q i p c.k (get_or seen' p 0) m p_in (λ z. omega (arith, z.0))
          ∙ rows_before i c.k s v q b m
          ∙ earlier v q b m
      entry v q (no n) h m = let t : v ≡ i = omega arith in rw t (own q m (ℕ_discrete p q))

  -- all rows are filled
  pub rows_filled_all : {work seen : List ℕ} {j i : ℕ} → RowsFilled c work seen j i → i ≡ c.n → work ≡ rows (λ i q. reach c (i + 1) q) c.n c.k
  rows_filled_all {work} f e = rows_is (λ i q. reach c (i + 1) q) c.k c.n work f.work_long (rw e at f.reached)
