-- An index that is whole is known to be so. Assumes nothing.
use Prim.Native.Nat.{ℕ}
use mathlib.Core.Path.{◌≡◌}
use mathlib.Core.Bool.{true}
use mathlib.Core.List.{List}
use native.Mathlib.Omega.{arith}
use Rattle.rules.specs.Index.{Index, sizes, whole}
use Rattle.rules.proofs.Wholes.{Whole, whole_is, units_sum}
use Rattle.layout.specs.Starts.{row_starts}
use Rattle.bounds.specs.Known.{Known}

pub known_whole : (x : Index) (row : List ℕ) → whole x ≡ true → row ≡ row_starts (sizes x) x.head.k
    → Known (sizes x) x.head.k x.words x.directory row
known_whole x row h e = go (whole_is x h)
  where
    go : Whole x → Known (sizes x) x.head.k x.words x.directory row
    go good = record {
      lengths = record {
        some_track = good.k_in.0;
        few_tracks = good.k_in.1;
        few_units = omega (arith, units_sum x good, good.n_in.1);
        used = good.used;
      };
      directory_true = λ j l. record {
        word = omega (arith, good.words_reach);
        entry = omega (arith, good.directory_reach);
        true_there = good.true_there j l;
      };
      ones = good.ones.each;
      starts = e;
    }
