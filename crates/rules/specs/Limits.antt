-- The limits of document 01's table, once.
use Rattle.std.specs.Prelude.{ℕ}
use Rattle.rules.specs.declared.Limits.{Limits}

abbrev pub max_units : ℕ
max_units = 1024

abbrev pub max_tracks : ℕ
max_tracks = 32

abbrev pub max_needs : ℕ
max_needs = 8192

abbrev pub max_lines : ℕ
max_lines = 65535

-- the four together, as the code has them
abbrev pub limits : Limits
limits = record { units = max_units; tracks = max_tracks; needs = max_needs; lines = max_lines }
