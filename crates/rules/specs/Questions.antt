-- Kinds 10 to 18, as functions of low and high, and so of any index.
use Rattle.std.specs.Prelude.{ℕ, suc, Bool, cond, ◌&&◌, List, length, get_or, leb, ltb, eqb}
use Rattle.rules.specs.Ranges.{every, keep, greatest}
use Rattle.rules.specs.Listing.{track, in_track, position}
use Rattle.rules.specs.Order.{stage}
use Rattle.rules.specs.Index.{Index, low_in, high_in}

-- v's position is at most low(u, track of v)
unfoldable pub kind10_by : (ℕ → ℕ → ℕ) → List ℕ → ℕ → ℕ → Bool
kind10_by low ts u v = leb (position ts v) (low u (track ts v))

-- kind 10, and low(u, p) < high(v, p) for every track p
unfoldable pub kind11_by : (ℕ → ℕ → ℕ) → (ℕ → ℕ → ℕ) → List ℕ → ℕ → ℕ → ℕ → Bool
kind11_by low high ts k u v = kind10_by low ts u v && every (λ p. ltb (low u p) (high v p)) k

abbrev pub kind10 : Index → ℕ → ℕ → Bool
kind10 x = kind10_by (low_in x) x.tracks

abbrev pub kind11 : Index → ℕ → ℕ → Bool
kind11 x = kind11_by (low_in x) (high_in x) x.tracks x.head.k

-- the units 1 to n that pass, ascending
unfoldable pub units_where : (ℕ → Bool) → ℕ → List ℕ
units_where p n = keep (λ v. leb 1 v && p v) (suc n)

abbrev pub kind12 : Index → ℕ → List ℕ
kind12 x u = units_where (λ v. kind10 x u v) x.head.n

abbrev pub kind13 : Index → ℕ → List ℕ
kind13 x u = units_where (λ v. kind10 x v u) x.head.n

abbrev pub kind14 : Index → ℕ → List ℕ
kind14 x u = units_where (λ v. kind11 x u v) x.head.n

abbrev pub kind15 : Index → ℕ → List ℕ
kind15 x u = units_where (λ v. kind11 x v u) x.head.n

abbrev pub kind16 : Index → ℕ → ℕ
kind16 x u = stage (kind11 x) u

-- the unit at position i of track q, 0 if none
unfoldable pub unit_at : List ℕ → ℕ → ℕ → ℕ
unit_at ts q i = greatest (λ j. cond (eqb (get_or ts j 0) q && eqb (in_track ts q (suc j)) i) (suc j) 0) (length ts)

abbrev pub kind17 : Index → ℕ → ℕ → ℕ
kind17 x u q = unit_at x.tracks q (low_in x u q)

abbrev pub kind18 : Index → ℕ → ℕ → ℕ
kind18 x u q = unit_at x.tracks q (high_in x u q)
