-- The pairs that begin with one unit stand together, and what they bring to its row. Assumes nothing.
use Prim.Native.Nat.{ℕ, ◌+◌, ◌-◌, ◌*◌, ◌≤◌, ◌<◌, max}
use mathlib.Core.Path.{◌≡◌, sym, ap, ◌∙◌}
use mathlib.Core.List.{List}
use mathlib.Core.Logic.{inl, inr}
use native.Mathlib.Omega.{arith}
use native.Mathlib.Decide.{dec_lt}
use lib.ListN.{get_or}
use lib.Arith.{digits_lt}
use lib.Dec.{ltb}
use borrow.Author.Tests.{ltb-true, ltb-false, eq-eqb, ne_eqb}
use Rattle.rules.specs.Ranges.{greatest}
use Rattle.rules.specs.Listing.{pairs, upper, lower}
use Rattle.rules.proofs.Ranges.{first_le, first_before, first_met, greatest-next, greatest_zero, greatest_past}
use Rattle.rules.proofs.Needs.{Pairs, Below, ascends_far}
use Rattle.rows.specs.Rows.{RowIs, brings, pairs_to}
use Rattle.rows.proofs.RowsWritten.{row_end, joined, row_as_is, row_again}

module _ {n : ℕ} {l : List ℕ} (ok : Pairs n l) where
  -- ---- the pairs of the units up to u come first

  pub to_within : (u : ℕ) → pairs_to l u ≤ pairs l
  unfolding pairs_to
  to_within u = first_le (λ x. ltb u (upper l x)) (pairs l)

  pub to_under : (u x : ℕ) → x < pairs_to l u → upper l x ≤ u
  unfolding pairs_to
  to_under u x h = ltb-false u (upper l x) (first_before (λ x. ltb u (upper l x)) (pairs l) x h)

  pub to_past : (u x : ℕ) → pairs_to l u ≤ x → x < pairs l → u < upper l x
  unfolding pairs_to
  to_past u x h b = go (dec_lt (pairs_to l u) x)
    where
      met : u < upper l (pairs_to l u)
      met = ltb-true u (upper l (pairs_to l u)) (first_met (λ x. ltb u (upper l x)) (pairs l) (omega arith))

      up : Below l (pairs_to l u) x → u < upper l x
      up (inl s) = omega (arith, met)
      up (inr s) = omega (arith, met)

      go : Dec (pairs_to l u < x) → u < upper l x
      go (yes s) = up (ascends_far l ok.ascends (pairs_to l u) x s b)
      go (no m) = let e : pairs_to l u ≡ x = omega arith in omega (arith, met, ap (upper l) e)

  pub to_next : (u : ℕ) → pairs_to l u ≤ pairs_to l (u + 1)
  to_next u = go (dec_lt (pairs_to l (u + 1)) (pairs_to l u))
    where
      go : Dec (pairs_to l (u + 1) < pairs_to l u) → pairs_to l u ≤ pairs_to l (u + 1)
      go (yes h) =
          let x = pairs_to l (u + 1) in
          absurd (omega (arith, to_past (u + 1) x (omega arith) (omega (arith, to_within u)), to_under u x h))
      go (no m) = omega arith

  pub to_none : pairs_to l 0 ≡ 0
  to_none = go (dec_lt 0 (pairs_to l 0))
    where
      go : Dec (0 < pairs_to l 0) → pairs_to l 0 ≡ 0
      go (yes h) = absurd (omega (arith, to_under 0 0 h, ok.first_in 0 (omega (arith, to_within 0))))
      go (no m) = omega arith

  pub to_all : pairs_to l n ≡ pairs l
  to_all = go (dec_lt (pairs_to l n) (pairs l))
    where
      go : Dec (pairs_to l n < pairs l) → pairs_to l n ≡ pairs l
      go (yes h) = absurd (omega (arith, to_past n (pairs_to l n) (omega arith) h, ok.first_in (pairs_to l n) h))
      go (no m) = omega (arith, to_within n)

  -- ---- the pairs of unit i + 1 are those from pairs_to l i to pairs_to l (i + 1)

  pub pair_own : (i x : ℕ) → x < pairs l → upper l x ≡ i + 1 → (pairs_to l i ≤ x) × (x < pairs_to l (i + 1))
  pair_own i x b e = (from (dec_lt x (pairs_to l i)), to (dec_lt x (pairs_to l (i + 1))))
    where
      from : Dec (x < pairs_to l i) → pairs_to l i ≤ x
      from (yes h) = absurd (omega (arith, to_under i x h))
      from (no m) = omega arith

      to : Dec (x < pairs_to l (i + 1)) → x < pairs_to l (i + 1)
      to (yes h) = h
      to (no m) = absurd (omega (arith, to_past (i + 1) x (omega arith) b))

  pub own_pair : (i x : ℕ) → pairs_to l i ≤ x → x < pairs_to l (i + 1) → upper l x ≡ i + 1
  own_pair i x a b = omega (arith, to_past i x a (omega (arith, to_within (i + 1))), to_under (i + 1) x b)

  -- the row of the pair's second unit stands before the unit's own
  pub pair_row : (k i x : ℕ) → x < pairs l → upper l x ≡ i + 1 → (1 ≤ lower l x) × ((lower l x - 1) * k + k ≤ i * k)
  pair_row k i x b e =
      let s = ok.second_in x b in
      (s.0, row_end (lower l x - 1) i k (omega (arith, ok.goes_down x b)))

-- ---- what the pairs bring

module _ (work l : List ℕ) (k i q : ℕ) where
  pub brings_own : (x : ℕ) → upper l x ≡ i + 1 → brings work l k i q x ≡ get_or work ((lower l x - 1) * k + q) 0
  unfolding brings
  brings_own x e = rw (eq-eqb _ _ e)

  pub brings_none : (x : ℕ) → (upper l x ≡ i + 1 → ⊥) → brings work l k i q x ≡ 0
  unfolding brings
  brings_none x n = rw (ne_eqb _ _ n)

  -- the pairs before those of the unit, and those past them, bring nothing
  pub brings_before : {n : ℕ} → Pairs n l → greatest (brings work l k i q) (pairs_to l i) ≡ 0
  brings_before ok = greatest_zero (brings work l k i q) (pairs_to l i) (λ x h. brings_none x (λ e. omega (arith, to_under ok i x h)))

  pub brings_past : {n : ℕ} → Pairs n l → greatest (brings work l k i q) (pairs l) ≡ greatest (brings work l k i q) (pairs_to l (i + 1))
  brings_past ok =
      greatest_past (brings work l k i q) (pairs_to l (i + 1)) (pairs l) (to_within ok (i + 1))
      (λ x h b. brings_none x (λ e. omega (arith, to_past ok (i + 1) x h b)))

-- ---- the row of unit i + 1 when its pairs before pair j are joined to it

pub record RowTo (work work' l : List ℕ) (k i j : ℕ) : Type 0 where
  pub from : pairs_to l i ≤ j
  pub to : j ≤ pairs_to l (i + 1)
  pub row : RowIs work work' (i * k) k (λ q. greatest (brings work l k i q) j)

module _ {n : ℕ} {l : List ℕ} (ok : Pairs n l) where
  pub row_to_start : (work : List ℕ) (k i : ℕ) → ((q : ℕ) → q < k → get_or work (i * k + q) 0 ≡ 0) → RowTo work work l k i (pairs_to l i)
  row_to_start work k i z = record {
    from = omega arith;
    to = to_next ok i;
    row = row_as_is work (i * k) k _ (λ q h. z q h ∙ sym (brings_before work l k i q ok));
  }

  pub row_to_more : {work work' work'' : List ℕ} {k i j : ℕ} → RowTo work work' l k i j → j < pairs l → upper l j ≡ i + 1
      → RowIs work' work'' (i * k) k (joined work' (i * k) ((lower l j - 1) * k)) → RowTo work work'' l k i (j + 1)
  row_to_more {work} {work'} {work''} {k} {i} {j} r b e s = record {
    from = omega (arith, r.from);
    to = omega (arith, (pair_own ok i j b e).1);
    row = row_again _ r.row s same;
  }
    where
      earlier : lower l j - 1 < i
      earlier = omega (arith, ok.second_in j b, ok.goes_down j b)

      same : (q : ℕ) → q < k → joined work' (i * k) ((lower l j - 1) * k) q ≡ greatest (brings work l k i q) (j + 1)
      same q h =
          omega (
            arith,
            greatest-next (brings work l k i q) j,
            brings_own work l k i q j e,
            r.row.row q h,
            r.row.kept ((lower l j - 1) * k + q) (inl (digits_lt earlier h)),
          )

  pub row_to_end : {work work' : List ℕ} {k i j : ℕ} → RowTo work work' l k i j → (j < pairs l → upper l j ≡ i + 1 → ⊥)
      → (j ≡ pairs_to l (i + 1)) × RowIs work work' (i * k) k (λ q. greatest (brings work l k i q) (pairs l))
  row_to_end {work} {work'} {k} {i} {j} r stop = (last, ended)
    where
      last : j ≡ pairs_to l (i + 1)
      last = go (dec_lt j (pairs_to l (i + 1)))
        where
          go : Dec (j < pairs_to l (i + 1)) → j ≡ pairs_to l (i + 1)
          go (yes h) = absurd (stop (omega (arith, to_within ok (i + 1))) (own_pair ok i j r.from h))
          go (no m) = omega (arith, r.to)

      ended : RowIs work work' (i * k) k (λ q. greatest (brings work l k i q) (pairs l))
      ended = record {
        same_length = r.row.same_length;
        row = λ q h. r.row.row q h ∙ ap (greatest (brings work l k i q)) last ∙ sym (brings_past work l k i q ok);
        kept = r.row.kept;
      }

-- ---- what unit i + 1 needs in track q by its pairs from pair j on

pub record LowTo (work l : List ℕ) (k i q low j : ℕ) : Type 0 where
  pub from : pairs_to l i ≤ j
  pub to : j ≤ pairs_to l (i + 1)
  pub within : j ≤ pairs l
  pub all : max low (greatest (brings work l k i q) j) ≡ greatest (brings work l k i q) (pairs l)

module _ {n : ℕ} {l : List ℕ} (ok : Pairs n l) where
  pub low_to_start : (work : List ℕ) (k i q : ℕ) → LowTo work l k i q 0 (pairs_to l (i + 1))
  low_to_start work k i q = record { from = to_next ok i; to = omega arith; within = to_within ok (i + 1); all = omega (arith, brings_past work l k i q ok) }

  pub low_to_more : {work : List ℕ} {k i q low j : ℕ} (low' : ℕ) → LowTo work l k i q low j → 0 < j → upper l (j - 1) ≡ i + 1
      → low' ≡ max low (get_or work ((lower l (j - 1) - 1) * k + q) 0) → LowTo work l k i q low' (j - 1)
  low_to_more {work} {k} {i} {q} {low} {j} low' r z e s = record {
    from = (pair_own ok i (j - 1) (omega (arith, r.within)) e).0;
    to = omega (arith, r.to);
    within = omega (arith, r.within);
    all =
        let b : j - 1 + 1 ≡ j = omega arith in
        omega (
          arith,
          r.all,
          ap (greatest (brings work l k i q)) b,
          greatest-next (brings work l k i q) (j - 1),
          brings_own work l k i q (j - 1) e,
        );
  }

  pub low_to_end : {work : List ℕ} {k i q low j : ℕ} → LowTo work l k i q low j → (0 < j → upper l (j - 1) ≡ i + 1 → ⊥)
      → (low ≡ greatest (brings work l k i q) (pairs l)) × (j ≡ pairs_to l i)
  low_to_end {work} {k} {i} {q} {low} {j} r stop =
      (omega (arith, r.all, ap (greatest (brings work l k i q)) last, brings_before work l k i q ok), last)
    where
      last : j ≡ pairs_to l i
      last = go (dec_lt (pairs_to l i) j)
        where
          go : Dec (pairs_to l i < j) → j ≡ pairs_to l i
          go (yes h) = absurd (stop (omega arith) (own_pair ok i (j - 1) (omega arith) (omega (arith, r.to))))
          go (no m) = omega (arith, r.from)
