-- The places of units in an index whose vectors are lent.
use Rattle.std.specs.Prelude.{ℕ}
use Rattle.rules.specs.Index.{lens_of, low_at, high_at}
use Rattle.bounds.specs.declared.Place.{Place}
use Rattle.bounds.specs.declared.Vectors.{Vectors}
use Rattle.bounds.specs.Known.{Standing}

-- the length of track q
abbrev pub size : Vectors → ℕ → ℕ
size v q = lens_of v.lens.now q

-- a unit stands at a
abbrev pub Stands : Vectors → Place → Type 0
Stands v a = Standing (size v) v.k a.track a.at

-- low and high of a in track q
abbrev pub low : Vectors → Place → ℕ → ℕ
low v a q = low_at (size v) v.k v.words.now a.track a.at q

abbrev pub high : Vectors → Place → ℕ → ℕ
high v a q = high_at (size v) v.k v.words.now a.track a.at q
