-- The search for a place: the word by halving what the directory covers, then the bit in it. One account serves 1s and 0s: b x is 1 where bit x is sought.
-- Assumes nothing.
use Prim.Native.Nat.{ℕ, ◌+◌, ◌-◌, ◌*◌, ◌/◌, ◌%◌, ◌^◌, ◌≤◌, ◌<◌}
use mathlib.Core.Path.{◌≡◌, sym, ap, ◌∙◌}
use mathlib.Core.List.{List}
use native.Mathlib.Omega.{arith}
use native.Mathlib.Nat.{mod-eq_of_lt}
use lib.ListN.{get_or}
use lib.Count.{ones}
use mir.Syntax.{w64}
use Rattle.std.proofs.lemmas.Nat.Bits.{bit_at_not}
use Rattle.rules.specs.Ranges.{sum}
use Rattle.rules.specs.Bits.{digit, bit, rank, place_of_one}
use Rattle.rules.proofs.Ranges.{sum_same, sum-next, sum_add, sum_up}
use Rattle.rules.proofs.Bits.{Words, digits-ones, bit_le, bit_in, rank_word, ones_before_le, zeros_sum, place_of_one_is}
use Rattle.words.specs.Words.{IsOne, TrueAt, Covers, Shows, InVector, Returns, Finds, LastBelow}

-- those before bit r of the word j that v shows are those before the word and the ones of its part
counts : (b : ℕ → ℕ) (j v r : ℕ) → Shows b j v → r ≤ 64 → sum b (64 * j + r) ≡ sum b (64 * j) + ones (v % 2 ^ r)
counts b j v r shows l =
    sum_add b (64 * j) r
    ∙ ap (λ (x : ℕ). sum b (64 * j) + x) (sum_same (λ i. b (64 * j + i)) (digit v) r (λ i h. sym (shows i (omega arith))) ∙ digits-ones v r)

module _ {b : ℕ → ℕ} {off m t : ℕ} (s : InVector b off m t) where
  -- the vector's first word has too few before it
  pub first_word : sum b (64 * (off / 64)) < t
  first_word = omega (arith, s.after, sum_up b (64 * (off / 64)) off)

  -- the t-th of all lies in the vector
  at_least : (x : ℕ) → sum b x + 1 ≡ t → b x ≡ 1 → off ≤ x
  at_least x e there = grind (arith, s.after, sum-next b x, sum_up b (x + 1) off)

  below : (x : ℕ) → sum b x + 1 ≡ t → x < off + m
  below x e = grind (arith, s.among, sum_up b (off + m) x)

-- bit x is in the vector, and is its t-th of all
pub record Placed (b : ℕ → ℕ) (off m t x : ℕ) : Type 0 where
  pub from_off : off ≤ x
  pub place : x + 1 - off ≡ place_of_one (λ y. b (off + y)) m (t - sum b off)

-- the last word that has too few before it, and what the calls return of it
module _ {b : ℕ → ℕ} {before word : ℕ → ℕ → Type 0} {off m t j d w : ℕ} (s : Finds b before word off m t) (small : w < 2 ^ 64)
    (last : LastBelow (λ k. sum b (64 * k)) (off / 64) ((off + m - 1) / 64) t j) (counted : before j d) (shown : word j w) where
  stands : d ≡ sum b (64 * j)
  stands = s.standing j d last.from_lo last.to_hi counted

  shows : Shows b j w
  shows = s.shown j w last.from_lo last.to_hi shown

  -- the t-th is among its bits
  pub in_word : (1 ≤ t - d) × (t - d ≤ ones w)
  in_word =
      let next : t ≤ sum b (64 * (j + 1)) = grind (arith, last.enough, s.in_vector.among, sum_up b (off + m) (64 * (j + 1))) in
      let e : 64 * (j + 1) ≡ 64 * j + 64 = omega arith in
      (omega (arith, stands, last.fewer), omega (arith, stands, rw e at next, rw (mod-eq_of_lt small) at (counts b j w 64 shows (omega arith))))

  pub placed : {r : ℕ} → IsOne w (t - d) r → Placed b off m t (64 * j + r)
  placed {r} o =
      let x : ℕ = 64 * j + r in
      let e : sum b x + 1 ≡ t = omega (arith, counts b j w r shows (omega (arith, o.inside)), stands, last.fewer, o.before) in
      let there : b x ≡ 1 = sym (shows r o.inside) ∙ o.set_there in
      let from_off : off ≤ x = at_least s.in_vector x e there in
      let y : off + (x - off) ≡ x = omega arith in
      let passed : sum b off + sum (λ z. b (off + z)) (x - off) ≡ sum b x = sym (sum_add b off (x - off)) ∙ ap (sum b) y in
      let after : sum b off < t = s.in_vector.after in
      record {
        from_off = from_off;
        place = omega arith ∙ sym (place_of_one_is (λ z. b (off + z)) m (x - off) (t - sum b off) (omega (arith, below s.in_vector x e)) (ap b y ∙ there) (omega arith));
      }

-- ---- ones and zeros

-- the directory is true at each word that the search looks at
pub true_at : {ws ds : List ℕ} {off m : ℕ} → Covers ws ds off m → (j : ℕ) → off / 64 ≤ j → j ≤ (off + m - 1) / 64 → TrueAt ws ds j
true_at covers j l h = covers.at_each j l (omega (arith, covers.some_bits))

-- an entry is no more than the bits before its word
pub entry_le : {ws ds : List ℕ} {off m : ℕ} → Words ws → Covers ws ds off m → (j : ℕ) → off / 64 ≤ j → j ≤ (off + m - 1) / 64 → get_or ds j 0 ≤ 64 * j
entry_le {ws} whole covers j l h = rw (true_at covers j l h).true_there (ones_before_le ws whole j)

-- the ones before a word of which the directory is true
ones_standing : {ws ds : List ℕ} → Words ws → (j : ℕ) → TrueAt ws ds j → get_or ds j 0 ≡ sum (bit ws) (64 * j)
unfolding rank
ones_standing {ws} whole j t = t.true_there ∙ sym (rank_word ws whole j)

module _ {ws ds : List ℕ} {off m before i : ℕ} (whole : Words ws) (covers : Covers ws ds off m) (known : before ≡ rank ws off) (some : 1 ≤ i) {count word : ℕ → ℕ → Type 0} where
  -- the directory and the words tell where the ones are
  pub finds_ones : i ≤ sum (λ y. bit ws (off + y)) m
      → Returns count (off / 64) ((off + m - 1) / 64) (λ j. get_or ds j 0) → Returns word (off / 64) ((off + m - 1) / 64) (λ j. get_or ws j 0)
      → Finds (bit ws) count word off m (before + i)
  unfolding rank
  finds_ones enough counted shown = record {
    in_vector = record { after = omega (arith, known); among = omega (arith, known, sum_add (bit ws) off m) };
    standing = λ j r l h c. counted j r l h c ∙ ones_standing whole j (true_at covers j l h);
    shown = λ j w l h c. rw (shown j w l h c) (λ r q. sym (bit_in ws j r q));
  }

  -- and where the zeros are
  pub finds_zeros : i ≤ m - sum (λ y. bit ws (off + y)) m
      → Returns count (off / 64) ((off + m - 1) / 64) (λ j. 64 * j - get_or ds j 0) → Returns word (off / 64) ((off + m - 1) / 64) (λ j. 2 ^ 64 - 1 - get_or ws j 0)
      → Finds (λ x. 1 - bit ws x) count word off m (off - before + i)
  unfolding rank digit
  finds_zeros enough counted shown = record {
    in_vector = record {
      after = omega (arith, known, zeros_sum (bit ws) (bit_le ws) off);
      among = omega (arith, known, sum_add (λ x. 1 - bit ws x) off m, zeros_sum (bit ws) (bit_le ws) off, zeros_sum (λ y. bit ws (off + y)) (λ y. bit_le ws (off + y)) m);
    };
    standing = λ j r l h c. counted j r l h c ∙ ap (λ (x : ℕ). 64 * j - x) (ones_standing whole j (true_at covers j l h)) ∙ sym (zeros_sum (bit ws) (bit_le ws) (64 * j));
    shown = λ j w l h c. rw (shown j w l h c) (λ r q. bit_at_not w64 (get_or ws j 0) r (whole j) q ∙ ap (λ (x : ℕ). 1 - x) (sym (bit_in ws j r q)));
  }
