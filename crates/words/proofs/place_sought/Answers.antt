-- `words::place_sought`: the search finds the word that holds the bit, and the bit in it; `placed` says its place. Assumes nothing.
use Prim.Native.Nat.{ℕ, ◌+◌, ◌-◌, ◌*◌, ◌/◌, ◌≤◌}
use native.Mathlib.Omega.{arith}
use lib.Count.{ones, ones-le}
use Rattle.rules.specs.Ranges.{sum}
use Rattle.words.specs.Words.{Finds, LastBelow}
use Rattle.words.proofs.Searches.{Placed, first_word, in_word, placed}
use Rattle.words.proofs.place_sought.Goals as goal
use Rattle.words.proofs.place_sought.Goals.{Start, After-before-2, After-one_in_word-r}

module _ (g : _) (c : After-before-2 g) {b : ℕ → ℕ} (s : Finds b (goal.B-post g c.args.before) (goal.W-post g c.args.word) c.args.off c.args.m c.args.t) where
  last : LastBelow (λ j. sum b (64 * j)) (c.args.off / 64) ((c.args.off + c.args.m - 1) / 64) c.args.t c.last_word-j.result
  last = c.last_word-j.ensures.last_below _ s.standing (first_word s.in_vector)

  -- the bit sought is among those of the word that is found
  among : (1 ≤ c.args.t - c.before-2.result) × (c.args.t - c.before-2.result ≤ ones c.word.result)
  among = in_word s c.word.type_inv last c.before-2.ensures c.word.ensures

pub one_in_word-r-requires : goal.one_in_word-r-requires
one_in_word-r-requires g c = among g c c.requires.finds.1

pub overflow_sub-t : goal.overflow_sub-t
overflow_sub-t g c = omega (arith, (among g c c.requires.finds.1).0)

pub overflow_cast-t : goal.overflow_cast-t
overflow_cast-t g c = omega (arith, (among g c c.requires.finds.1).1, ones-le 64 c.word.result c.word.type_inv)

there : (g : _) (c : After-one_in_word-r g) {b : ℕ → ℕ} → Finds b (goal.B-post g c.args.before) (goal.W-post g c.args.word) c.args.off c.args.m c.args.t → Placed b c.args.off c.args.m c.args.t (64 * c.last_word-j.result + c.one_in_word-r.result)
there g c s =
    placed s c.word.type_inv (last g (goal.at.overflow_sub-result g c).After-before-2 s) c.before-2.ensures c.word.ensures c.one_in_word-r.ensures

pub overflow_sub-result : goal.overflow_sub-result
overflow_sub-result g c = omega (arith, (there g c c.requires.finds.1).from_off)

pub returns : goal.returns
returns g c = λ b s. (there g (goal.at.returns g c).After-one_in_word-r s).place
