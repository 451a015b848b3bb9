-- The vectors of an index that is known to be whole, by the laws of `rules`: what is known of its ones, and the words that a search looks at.
-- Assumes nothing.
use Prim.Native.Nat.{ℕ, ◌+◌, ◌≤◌, ◌<◌}
use mathlib.Core.List.{List}
use native.Mathlib.Omega.{arith}
use Rattle.rules.specs.Layout.{offset, word_count}
use Rattle.rules.proofs.Layouts.{vector-within, words_most, length_most}
use Rattle.rules.proofs.Vectors.{Vector, OnesTrue}
use Rattle.words.specs.Words.{Covers}
use Rattle.bounds.specs.Known.{Known}

module _ {s : ℕ → ℕ} {k : ℕ} {words directory row : List ℕ} (known : Known s k words directory row) where
  pub ones_true : OnesTrue s k words
  ones_true = record { each = known.ones }

  pub words_few : word_count s k ≤ 992
  words_few = words_most s k known.lengths.few_units known.lengths.few_tracks

  pub length_few : (q : ℕ) → q < k → s q ≤ 1024
  length_few q h = length_most s k q known.lengths.few_units h

  pub vector_covers : {p q : ℕ} → Vector k p q → Covers words directory (offset s k p q) (s p + s q)
  vector_covers {p} {q} v =
      let within = vector-within s k p q v.here v.there v.other in
      record {
        some_bits = omega (arith, known.lengths.used p v.here);
        narrow = omega (arith, within, words_few);
        at_each = λ j a b. known.directory_true j (omega (arith, within));
      }
