-- Rows of an area: where they stand, the greater of two rows, and a row that is written twice. Assumes nothing.
use Prim.Native.Nat.{ℕ, ◌+◌, ◌*◌, ◌≤◌, ◌<◌, max}
use mathlib.Core.Path.{◌≡◌, refl, sym, ap, ◌∙◌}
use mathlib.Core.List.{List}
use mathlib.Core.Logic.{inl}
use native.Mathlib.Omega.{arith}
use native.Mathlib.Nat.{suc-mul, mul-le-mul_right}
use native.Mathlib.Decide.{dec_lt}
use lib.ListN.{get_or, set}
use lib.Seq.{get_or-set_other}
use lib.Arith.{digits_lt}
use Rattle.rows.specs.Rows.{RowIs}

-- ---- where the rows stand

-- a row ends where a later one begins, or before
pub row_end : (i m k : ℕ) → i < m → i * k + k ≤ m * k
row_end i m k h = rw (sym (suc-mul i k)) (mul-le-mul_right k h)

-- an entry stands in one row, at one place
pub entry_same : (v q i p k : ℕ) → q < k → p < k → v * k + q ≡ i * k + p → (v ≡ i) × (q ≡ p)
entry_same v q i p k a b e = go (dec_lt v i) (dec_lt i v)
  where
    go : Dec (v < i) → Dec (i < v) → (v ≡ i) × (q ≡ p)
    go (yes l) d = absurd (omega (arith, row_end v i k l))
    go (no n) (yes l) = absurd (omega (arith, row_end i v k l))
    go (no n) (no m) = let s : v ≡ i = omega arith in (s, omega (arith, ap (λ (x : ℕ). x * k) s))

-- where one entry is written, every other is as it was
pub entry_other : (area : List ℕ) (v q i p k x : ℕ) → q < k → p < k → ((v ≡ i) × (q ≡ p) → ⊥)
    → get_or (set area (i * k + p) x) (v * k + q) 0 ≡ get_or area (v * k + q) 0
entry_other area v q i p k x a b n = get_or-set_other area (i * k + p) (v * k + q) x 0 (λ e. n (entry_same v q i p k a b e))

-- ---- the greater of two rows

abbrev pub joined : List ℕ → ℕ → ℕ → ℕ → ℕ
joined area at from q = max (get_or area (at + q) 0) (get_or area (from + q) 0)

-- ---- whole rows

-- an area as it is
pub row_as_is : (area : List ℕ) (at k : ℕ) (f : ℕ → ℕ) → ((q : ℕ) → q < k → get_or area (at + q) 0 ≡ f q) → RowIs area area at k f
row_as_is area at k f h = record { same_length = refl; row = h; kept = λ x h. refl }

-- nothing is written yet
pub row_start : (area : List ℕ) (at : ℕ) (f : ℕ → ℕ) → RowIs area area at 0 f
row_start area at f = row_as_is area at 0 f (λ q l. absurd (omega arith))

-- a row that is written again
pub row_again : {a b c : List ℕ} {at k : ℕ} {f g : ℕ → ℕ} (h : ℕ → ℕ) → RowIs a b at k f → RowIs b c at k g
    → ((q : ℕ) → q < k → g q ≡ h q) → RowIs a c at k h
row_again h r s e = record {
  same_length = s.same_length ∙ r.same_length;
  row = λ q l. s.row q l ∙ e q l;
  kept = λ x o. s.kept x o ∙ r.kept x o;
}

-- the rows before it are as they were
pub rows_before : {a b : List ℕ} {f : ℕ → ℕ} (i k : ℕ) → RowIs a b (i * k) k f → (v q : ℕ) → v < i → q < k
    → get_or b (v * k + q) 0 ≡ get_or a (v * k + q) 0
rows_before i k r v q l h = r.kept _ (inl (digits_lt l h))
