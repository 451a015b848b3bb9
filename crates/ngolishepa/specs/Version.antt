-- Which layout of the structs that C reads and writes: one more with each change of one.
use Rattle.std.specs.Prelude.{ℕ}

abbrev pub version : ℕ
version = 1
