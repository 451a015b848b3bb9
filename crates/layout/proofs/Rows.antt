-- The table by which a vector is found: its length, what stands in it, and how it is filled. Assumes nothing.
use Prim.Native.Nat.{ℕ, ◌+◌, ◌-◌, ◌≤◌, ◌<◌}
use mathlib.Core.Path.{◌≡◌, refl, sym, ap, ◌∙◌}
use mathlib.Core.Bool.{cond}
use mathlib.Core.List.{List}
use native.Mathlib.Omega.{arith}
use native.Mathlib.Decide.{dec_lt, ℕ_discrete}
use lib.ListN.{get_or, set, replicate, length-set, get_or-replicate}
use lib.Seq.{get_or-set_same, get_or-set_other}
use lib.Dec.{leb}
use borrow.Author.Tests.{le-leb, lt-leb}
use Rattle.rules.specs.Ranges.{sum, table}
use Rattle.rules.specs.Layout.{offset}
use Rattle.rules.proofs.Ranges.{sum_none, length-table, get_or-table, table_is}
use Rattle.rules.proofs.Layouts.{offset-start}
use Rattle.layout.specs.Starts.{start_at, row_starts}

module _ (s : ℕ → ℕ) (k : ℕ) where
  -- the table once the rows below p are summed
  abbrev pub starts_to : ℕ → List ℕ
  starts_to p = table (start_at s k p) 66

  start_row : (p i : ℕ) → i ≤ p → p ≤ 32 → start_at s k p i ≡ offset s k i 0
  unfolding start_at
  start_row p i h few = rw (le-leb i 32 (omega arith), le-leb i p h)

  start_units : (p q : ℕ) → q ≤ p → start_at s k p (q + 33) ≡ sum s q
  unfolding start_at
  start_units p q h =
      let e : q + 33 - 33 ≡ q = omega arith in
      rw (lt-leb (q + 33) 32 (omega arith), e, le-leb q p h)

  pub starts_in : (p i : ℕ) → i ≤ p → p ≤ 32 → get_or (starts_to p) i 0 ≡ offset s k i 0
  starts_in p i h few = get_or-table _ 66 i (omega arith) ∙ start_row p i h few

  pub units_in : (p q : ℕ) → q ≤ p → p ≤ 32 → get_or (starts_to p) (q + 33) 0 ≡ sum s q
  units_in p q h few = get_or-table _ 66 (q + 33) (omega arith) ∙ start_units p q h

  pub starts_at : (p : ℕ) → p ≤ k → k ≤ 32 → get_or (row_starts s k) p 0 ≡ offset s k p 0
  unfolding row_starts
  starts_at p h few = starts_in k p h few

  pub units_at : (q : ℕ) → q ≤ k → k ≤ 32 → get_or (row_starts s k) (q + 33) 0 ≡ sum s q
  unfolding row_starts
  units_at q h few = units_in k q h few

  module _ {row : List ℕ} (e : row ≡ row_starts s k) (few : k ≤ 32) where
    pub row_start : (p : ℕ) → p ≤ k → get_or row p 0 ≡ offset s k p 0
    row_start p h = ap (λ r. get_or r p 0) e ∙ starts_at p h few

    pub row_units : (q : ℕ) → q ≤ k → get_or row (q + 33) 0 ≡ sum s q
    row_units q h = ap (λ r. get_or r (q + 33) 0) e ∙ units_at q h few

  -- ---- how it is filled

  pub starts_none : replicate 66 0 ≡ starts_to 0
  unfolding start_at
  starts_none = table_is _ (replicate 66 0) 66 refl (λ i l. get_or-replicate 66 i 0 0 l ∙ go i (dec_lt 32 i) (dec_lt 0 i) (dec_lt 0 (i - 33)))
    where
      go : (i : ℕ) → Dec (32 < i) → Dec (0 < i) → Dec (0 < i - 33)
          → 0 ≡ cond (leb i 32) (cond (leb i 0) (offset s k i 0) 0) (cond (leb (i - 33) 0) (sum s (i - 33)) 0)
      go i (yes a) _ (yes c) = rw (lt-leb i 32 a, lt-leb (i - 33) 0 c)
      go i (yes a) _ (no c) =
          let e : i - 33 ≡ 0 = omega arith in
          rw (lt-leb i 32 a, le-leb (i - 33) 0 (omega arith), e) (sym (sum_none s))
      go i (no a) (yes b) _ = rw (le-leb i 32 (omega arith), lt-leb i 0 b)
      go i (no a) (no b) _ =
          let e : i ≡ 0 = omega arith in
          rw (le-leb i 32 (omega arith), le-leb i 0 (omega arith), e) (sym (offset-start s k))

  -- a bound one further is another only for what it newly reaches
  one_further : (p x : ℕ) → (x ≡ p + 1 → ⊥) → leb x p ≡ leb x (p + 1)
  one_further p x n = go (dec_lt x (p + 1)) (dec_lt (p + 1) x)
    where
      go : Dec (x < p + 1) → Dec (p + 1 < x) → leb x p ≡ leb x (p + 1)
      go (yes l) _ = rw (le-leb x p (omega arith), le-leb x (p + 1) (omega arith))
      go (no _) (yes g) = rw (lt-leb x p (omega arith), lt-leb x (p + 1) g)
      go (no a) (no b) = absurd (n (omega arith))

  -- so the turn of row p changes its two entries and no other
  start_kept : (p i : ℕ) → p < 32 → (i ≡ p + 1 → ⊥) → (i ≡ p + 34 → ⊥) → start_at s k p i ≡ start_at s k (p + 1) i
  unfolding start_at
  start_kept p i l a b = go (dec_lt 32 i)
    where
      go : Dec (32 < i) → cond (leb i 32) (cond (leb i p) (offset s k i 0) 0) (cond (leb (i - 33) p) (sum s (i - 33)) 0)
          ≡ cond (leb i 32) (cond (leb i (p + 1)) (offset s k i 0) 0) (cond (leb (i - 33) (p + 1)) (sum s (i - 33)) 0)
      go (yes g) = rw (lt-leb i 32 g, one_further p (i - 33) (λ e. b (omega arith)))
      go (no g) = rw (le-leb i 32 (omega arith), one_further p i a)

  pub starts_next : (p v w : ℕ) → p < 32 → v ≡ offset s k (p + 1) 0 → w ≡ sum s (p + 1) → set (set (starts_to p) (p + 1) v) (p + 34) w ≡ starts_to (p + 1)
  starts_next p v w l e f =
      table_is _ (set (set (starts_to p) (p + 1) v) (p + 34) w) 66 (simp (length-set, length-table))
      (λ i h. at_each i h (ℕ_discrete i (p + 1)) (ℕ_discrete i (p + 34)))
    where
      at_each : (i : ℕ) → i < 66 → Dec (i ≡ p + 1) → Dec (i ≡ p + 34) → get_or (set (set (starts_to p) (p + 1) v) (p + 34) w) i 0 ≡ start_at s k (p + 1) i
      at_each i h _ (yes b) =
          let d : p + 34 ≡ p + 1 + 33 = omega arith in
          rw b
          (get_or-set_same (set (starts_to p) (p + 1) v) (p + 34) w 0 (rw (length-set, length-table) (omega arith))
          ∙ f ∙ sym (rw d (start_units (p + 1) (p + 1) (omega arith))))
      at_each i h (yes a) (no b) =
          rw a
          (get_or-set_other (set (starts_to p) (p + 1) v) (p + 34) (p + 1) w 0 (λ g. omega arith)
          ∙ get_or-set_same (starts_to p) (p + 1) v 0 (rw length-table (omega arith))
          ∙ e ∙ sym (start_row (p + 1) (p + 1) (omega arith) (omega arith)))
      at_each i h (no a) (no b) =
          get_or-set_other (set (starts_to p) (p + 1) v) (p + 34) i w 0 (λ g. b (omega arith))
          ∙ get_or-set_other (starts_to p) (p + 1) i v 0 (λ g. a (omega arith))
          ∙ get_or-table _ 66 i h ∙ start_kept p i l a b

  pub starts_all : starts_to k ≡ row_starts s k
  unfolding row_starts
  starts_all = refl
