-- `words::fill_directory`: after j turns the first j entries are written, and `before` is the next of them.
-- No entry is above the last, so each fits. Assumes nothing.
use mathlib.Core.Path.{◌≡◌}
use Rattle.rules.specs.Ranges.{table, over}
use Rattle.rules.specs.Bits.{ones_before}
use Rattle.words.proofs.fill_directory.Given as goal

abbrev pub invariant-loop-j : goal.invariant-loop-j
invariant-loop-j l = (l.before ≡ ones_before l.words l.j) × (l.directory ≡ over l.initial.directory (table (ones_before l.words) l.j))
