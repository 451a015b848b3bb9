-- `words::last_word`: the words that are left are halved. Fewer than t stand before the first of them, and t or more before the word after the last.
-- Assumes nothing.
use Prim.Native.Nat.{ℕ, ◌+◌, ◌-◌, ◌≤◌, ◌<◌}
use Rattle.words.specs.Words.{Returns}
use Rattle.words.proofs.last_word.Given as goal

abbrev pub invariant-loop-first : goal.invariant-loop-first
invariant-loop-first g l = record {
  from_lo : l.lo ≤ l.first;
  ordered : l.first ≤ l.last;
  to_hi : l.last ≤ l.hi;
  around : (d : ℕ → ℕ) → Returns (goal.B-post g l.before) l.lo l.hi d → d l.lo < l.t → (d l.first < l.t) × (l.last < l.hi → l.t ≤ d (l.last + 1));
}

abbrev pub decreases-loop-first : goal.decreases-loop-first
decreases-loop-first g l = l.last - l.first
