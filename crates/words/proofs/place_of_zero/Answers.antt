-- `words::place_of_zero`: what stands before a word and what it shows are what the directory and the words say. Assumes nothing.
use Prim.Native.Nat.{◌+◌, ◌-◌, ◌*◌, ◌≤◌}
use mathlib.Core.Path.{◌≡◌, sym, ◌∙◌}
use native.Mathlib.Omega.{arith}
use borrow.Author.Rules.{rules}
use lib.ListN.{get_or}
use Rattle.rules.specs.Ranges.{sum}
use Rattle.rules.specs.Bits.{bit, rank}
use Rattle.rules.proofs.Bits.{bit_le, rank_le, zeros_sum, place_of_zero_lem}
use Rattle.words.proofs.Searches.{true_at, entry_le, finds_zeros}
use Rattle.words.proofs.place_of_zero.Goals as goal

pub overflow_sub-off : goal.overflow_sub-off
overflow_sub-off c = rw c.requires.before_value (rank_le c.args.words.now c.args.off)

pub place_sought-requires-clause-before_callable : goal.place_sought-requires-clause-before_callable
place_sought-requires-clause-before_callable c = λ j l h.
    let t = true_at c.requires.covers j l h in
    let low : get_or c.args.directory.now j 0 ≤ 64 * j = entry_le (λ k. (c.type_inv.words k).fits) c.requires.covers j l h in
    search rules

pub place_sought-requires-clause-word_callable : goal.place_sought-requires-clause-word_callable
place_sought-requires-clause-word_callable c = λ j l h. let t = true_at c.requires.covers j l h in search rules

pub place_sought-requires-clause-finds : goal.place_sought-requires-clause-finds
place_sought-requires-clause-finds c = (
  λ x. 1 - bit c.args.words.now x,
  finds_zeros (λ j. (c.type_inv.words j).fits) c.requires.covers c.requires.before_value c.requires.le_i.0 c.requires.le_i.1
      (λ j r l h said. search rules) (λ j w l h said. search rules),
)

pub returns : goal.returns
unfolding rank
returns c =
    let a = c.args in
    let t : a.off - a.before + a.i - sum (λ x. 1 - bit a.words.now x) a.off ≡ a.i = omega (arith, c.requires.before_value, zeros_sum (bit a.words.now) (bit_le a.words.now) a.off) in
    rw t at (c.place_sought.ensures (λ x. 1 - bit a.words.now x) (finds_zeros (λ j. (c.type_inv.words j).fits) c.requires.covers c.requires.before_value c.requires.le_i.0 c.requires.le_i.1
    (λ j r l h said. search rules) (λ j w l h said. search rules)))
    ∙ sym (place_of_zero_lem _ (λ y. bit_le a.words.now (a.off + y)) a.m a.i)
