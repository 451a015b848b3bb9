-- An index is what its first W words and directory entries are: areas that agree there make the same index, however long they are.
-- Assumes nothing.
use Prim.Native.Nat.{ℕ, ◌+◌, ◌*◌, ◌/◌, ◌%◌, ◌≤◌, ◌<◌}
use mathlib.Core.Path.{◌≡◌, sym, ap, ◌∙◌}
use mathlib.Core.List.{List}
use native.Mathlib.Omega.{arith}
use lib.ListN.{length, get_or}
use lib.Count.{ones}
use lib.Dec.{ltb}
use Rattle.rules.specs.Ranges.{every}
use Rattle.rules.specs.Listing.{track, position}
use Rattle.rules.specs.Layout.{vector_bits, offset, word_count}
use Rattle.rules.specs.Bits.{digit, bit, ones_before}
use Rattle.rules.specs.Index.{Index, index, sizes, vector_of, vector, low_at, low_in, high_at, high_in}
use Rattle.rules.specs.Questions.{kind10, kind11, kind10_by, kind11_by}
use Rattle.rules.proofs.Ranges.{sum_same, every_same}
use Rattle.rules.proofs.Places.{one_place_same, zero_place_same}
use Rattle.rules.proofs.Layouts.{offset-within, room_holds, words_hold, vector_other}
use Rattle.rules.proofs.Wholes.{Whole, unit_track}

-- the entries below m are the same
abbrev pub SameBelow : List ℕ → List ℕ → ℕ → Type 0
SameBelow a b m = (j : ℕ) → j < m → get_or a j 0 ≡ get_or b j 0

pub bit_agree : (a b : List ℕ) (m x : ℕ) → SameBelow a b m → x < 64 * m → bit a x ≡ bit b x
unfolding bit
bit_agree a b m x h l = ap (λ (w : ℕ). digit w (x % 64)) (h (x / 64) (omega arith))

pub ones_agree : (a b : List ℕ) (m j : ℕ) → SameBelow a b m → j ≤ m → ones_before a j ≡ ones_before b j
unfolding ones_before
ones_agree a b m j h l = sum_same _ _ j (λ i q. ap ones (h i (omega arith)))

module _ (s : ℕ → ℕ) (k : ℕ) (a b : List ℕ) (h : SameBelow a b (word_count s k)) (p q : ℕ) (row : p < k) (column : q < k) where
  pub vector_agree : (y : ℕ) → y < vector_bits s p q → vector_of s k a p q y ≡ vector_of s k b p q y
  unfolding vector_of
  vector_agree y l =
      bit_agree a b (word_count s k) (offset s k p q + y) h (omega (arith, offset-within s k p q row column, room_holds s p q, words_hold s k))

  pub low_agree : (i : ℕ) → low_at s k a p i q ≡ low_at s k b p i q
  unfolding low_at
  low_agree i = rw (one_place_same (vector_of s k a p q) (vector_of s k b p q) (vector_bits s p q) i vector_agree)

  -- the high of a position of q is read off vector p,q
  pub high_agree : (i : ℕ) → high_at s k a q i p ≡ high_at s k b q i p
  unfolding high_at
  high_agree i = rw (zero_place_same (vector_of s k a p q) (vector_of s k b p q) (vector_bits s p q) i vector_agree)

-- an index whose areas are replaced by others that reach and agree
module _ (x : Index) (ws ds : List ℕ)
    (words_reach : word_count (sizes x) x.head.k ≤ length ws) (directory_reach : word_count (sizes x) x.head.k ≤ length ds)
    (words_agree : SameBelow x.words ws (word_count (sizes x) x.head.k))
    (directory_agrees : SameBelow x.directory ds (word_count (sizes x) x.head.k))
    (good : Whole x) where
  pub whole_agree : Whole (index x.head x.tracks ws ds)
  whole_agree = record {
    n_in = good.n_in;
    k_in = good.k_in;
    tracks_long = good.tracks_long;
    tracks_below = good.tracks_below;
    lengths = good.lengths;
    used = good.used;
    beyond = good.beyond;
    words_reach = words_reach;
    directory_reach = directory_reach;
    spare = λ y a b. sym (bit_agree x.words ws (word_count (sizes x) x.head.k) y words_agree b) ∙ good.spare y a b;
    true_there = λ j l. sym (directory_agrees j l) ∙ good.true_there j l ∙ ones_agree x.words ws (word_count (sizes x) x.head.k) j words_agree (omega arith);
    ones = record {
      each = λ p q a b n.
          sum_same (vector_of (sizes x) x.head.k ws p q) (vector x p q) (sizes x p + sizes x q)
          (λ y l. sym (vector_agree (sizes x) x.head.k x.words ws words_agree p q a b y (rw (vector_other (sizes x) p q n) l)))
          ∙ good.ones.each p q a b n;
    };
  }

  -- so low and high are the same, and each question answers the same
  pub low_in_agree : (u q : ℕ) → 1 ≤ u → u ≤ x.head.n → q < x.head.k → low_in (index x.head x.tracks ws ds) u q ≡ low_in x u q
  low_in_agree u q u1 un column =
      sym (low_agree (sizes x) x.head.k x.words ws words_agree (track x.tracks u) q (unit_track x good u u1 un) column (position x.tracks u))

  pub high_in_agree : (u q : ℕ) → 1 ≤ u → u ≤ x.head.n → q < x.head.k → high_in (index x.head x.tracks ws ds) u q ≡ high_in x u q
  high_in_agree u q u1 un row =
      sym (high_agree (sizes x) x.head.k x.words ws words_agree q (track x.tracks u) row (unit_track x good u u1 un) (position x.tracks u))

  pub kind10_agree : (u v : ℕ) → 1 ≤ u → u ≤ x.head.n → 1 ≤ v → v ≤ x.head.n → kind10 (index x.head x.tracks ws ds) u v ≡ kind10 x u v
  unfolding kind10_by
  kind10_agree u v u1 un v1 vn = rw (low_in_agree u (track x.tracks v) u1 un (unit_track x good v v1 vn))

  pub kind11_agree : (u v : ℕ) → 1 ≤ u → u ≤ x.head.n → 1 ≤ v → v ≤ x.head.n → kind11 (index x.head x.tracks ws ds) u v ≡ kind11 x u v
  unfolding kind11_by
  kind11_agree u v u1 un v1 vn = rw (kind10_agree u v u1 un v1 vn, between)
    where
      same : (p : ℕ) → p < x.head.k
          → ltb (low_in (index x.head x.tracks ws ds) u p) (high_in (index x.head x.tracks ws ds) v p) ≡ ltb (low_in x u p) (high_in x v p)
      same p l = rw (low_in_agree u p u1 un l, high_in_agree v p v1 vn l)

      between : every (λ p. ltb (low_in (index x.head x.tracks ws ds) u p) (high_in (index x.head x.tracks ws ds) v p)) x.head.k
          ≡ every (λ p. ltb (low_in x u p) (high_in x v p)) x.head.k
      between = every_same _ _ x.head.k same
