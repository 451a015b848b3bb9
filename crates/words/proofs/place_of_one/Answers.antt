-- `words::place_of_one`: what stands before a word and what it shows are what the directory and the words say. Assumes nothing.
use Prim.Native.Nat.{◌+◌, ◌-◌}
use mathlib.Core.Path.{◌≡◌}
use native.Mathlib.Omega.{arith}
use borrow.Author.Rules.{rules}
use Rattle.rules.specs.Ranges.{sum}
use Rattle.rules.specs.Bits.{bit, rank}
use Rattle.rules.proofs.Bits.{rank_add, rank_le}
use Rattle.words.proofs.Searches.{true_at, finds_ones}
use Rattle.words.proofs.place_of_one.Goals as goal

pub overflow_add-before : goal.overflow_add-before
overflow_add-before c =
    let a = c.args in
    omega (arith, rank_add a.words.now a.off a.m, rank_le a.words.now (a.off + a.m))

pub place_sought-requires-clause-before_callable : goal.place_sought-requires-clause-before_callable
place_sought-requires-clause-before_callable c = λ j l h. let t = true_at c.requires.covers j l h in search rules

pub place_sought-requires-clause-word_callable : goal.place_sought-requires-clause-word_callable
place_sought-requires-clause-word_callable c = λ j l h. let t = true_at c.requires.covers j l h in search rules

pub place_sought-requires-clause-finds : goal.place_sought-requires-clause-finds
place_sought-requires-clause-finds c = (
  bit c.args.words.now,
  finds_ones (λ j. (c.type_inv.words j).fits) c.requires.covers c.requires.before_value c.requires.le_i.0 c.requires.le_i.1
      (λ j r l h said. search rules) (λ j w l h said. search rules),
)

pub returns : goal.returns
unfolding rank
returns c =
    let a = c.args in
    let t : a.before + a.i - sum (bit a.words.now) a.off ≡ a.i = omega (arith, c.requires.before_value) in
    rw t at (c.place_sought.ensures (bit a.words.now) (finds_ones (λ j. (c.type_inv.words j).fits) c.requires.covers c.requires.before_value c.requires.le_i.0 c.requires.le_i.1
    (λ j r l h said. search rules) (λ j w l h said. search rules)))
