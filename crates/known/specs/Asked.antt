-- An index known to be whole, as its parts are lent, and the spans of positions that answer each list.
use Rattle.std.specs.Prelude.{ℕ, ◌≤◌, ◌≡◌, Bool, true, cond, ◌&&◌, List, length, get_or, leb, ltb}
use Rattle.rules.specs.Ranges.{table}
use Rattle.rules.specs.Index.{Index, index, lens_of, whole}
use Rattle.layout.specs.Starts.{row_starts}
use Rattle.bounds.specs.Known.{none_reaches, reaches_none}

-- an index from its parts, whose count of units is the length of its track list
abbrev pub parts : List ℕ → ℕ → List ℕ → List ℕ → List ℕ → Index
parts lens k tracks words directory = index (record { lens = lens; n = length tracks; k = k }) tracks words directory

-- the index is whole, and the table says where each track's vectors start
pub record Sure (x : Index) (row : List ℕ) : Type 0 where
  pub is_whole : whole x ≡ true
  pub starts : row ≡ row_starts (lens_of x.head.lens) x.head.k

-- u is a unit of a track list
pub record UnitOf (tracks : List ℕ) (u : ℕ) : Type 0 where
  pub from : 1 ≤ u
  pub to : u ≤ length tracks

-- the span of one position in each track that passes, and of none in any other
abbrev pub one_from : (ℕ → Bool) → List ℕ → List ℕ
one_from passes at = table (λ q. cond (passes q) (get_or at q 0) 1) 32

abbrev pub one_to : (ℕ → Bool) → List ℕ → List ℕ
one_to passes at = table (λ q. cond (passes q) (get_or at q 0) 0) 32

-- the unit at the given low of track q is a direct step: it stands there, and none at the other lows needs it
unfoldable pub step_at : (ℕ → ℕ) → ℕ → List ℕ → List ℕ → ℕ → Bool
step_at s k words at q = ltb q k && leb 1 (get_or at q 0) && none_reaches s k words at q (get_or at q 0)

-- the unit at the given high of track q has a direct step there: it stands there, and needs none at the other highs
unfoldable pub step_up_at : (ℕ → ℕ) → ℕ → List ℕ → List ℕ → ℕ → Bool
step_up_at s k words at q = ltb q k && leb (get_or at q 0) (s q) && reaches_none s k words q (get_or at q 0) at
