-- What a build writes depends on the listing's needs alone: another need list with the same needs, filed with the same tracks, builds the
-- same index bit for bit. Assumes nothing.
use Prim.Native.Nat.{ℕ, ◌+◌, ◌*◌}
use mathlib.Core.Path.{◌≡◌, ap}
use mathlib.Core.List.{List}
use Rattle.rules.specs.Ranges.{bit1}
use Rattle.rules.specs.Listing.{listing, refuse_first}
use Rattle.rules.specs.Order.{needs, unit_before, unsound, sound_verdict, low}
use Rattle.rules.specs.Bits.{word_of}
use Rattle.rules.specs.Index.{one_at, built_bit, built_words, built_directory, built_work}
use Rattle.rules.proofs.Ranges.{greatest_same, some_same, sum_same, table_same, first_same, rows_same}

module _ (n k : ℕ) (ts l m : List ℕ) (same : (u v : ℕ) → needs l u v ≡ needs m u v) where
  pub low_redrawn : (u q : ℕ) → low (listing n k ts l) u q ≡ low (listing n k ts m) u q
  unfolding low
  low_redrawn u q = greatest_same _ _ u (λ v h. rw (same u v))

  one_redrawn : (u q : ℕ) → one_at (listing n k ts l) u q ≡ one_at (listing n k ts m) u q
  unfolding one_at
  one_redrawn u q = rw (low_redrawn u q)

  bit_redrawn : (x : ℕ) → built_bit (listing n k ts l) x ≡ built_bit (listing n k ts m) x
  unfolding built_bit
  bit_redrawn x = ap bit1 (some_same _ _ n (λ i h. some_same _ _ k (λ q g. rw (one_redrawn (i + 1) q))))

  pub words_redrawn : built_words (listing n k ts l) ≡ built_words (listing n k ts m)
  unfolding built_words word_of
  words_redrawn = table_same _ _ _ (λ j h. sum_same _ _ 64 (λ i g. rw (bit_redrawn (64 * j + i))))

  pub directory_redrawn : built_directory (listing n k ts l) ≡ built_directory (listing n k ts m)
  unfolding built_directory
  directory_redrawn = rw words_redrawn

  pub work_redrawn : built_work (listing n k ts l) ≡ built_work (listing n k ts m)
  unfolding built_work
  work_redrawn = rows_same _ _ n k (λ i q. low_redrawn (i + 1) q)

  pub sound_redrawn : sound_verdict (listing n k ts l) ≡ sound_verdict (listing n k ts m)
  unfolding sound_verdict refuse_first unsound
  sound_redrawn = rw (first_same (unsound (listing n k ts l)) (unsound (listing n k ts m)) n (λ i h. rw (same (i + 1) (unit_before ts (i + 1)))))
