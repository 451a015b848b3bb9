-- What judging answers: the number of the first condition that fails, by the tests before it that pass; and what no fault says.
-- Assumes nothing.
use Rattle.std.specs.Prelude.{Ok, Err}
use Prim.Native.Nat.{ℕ, ◌+◌, ◌-◌, ◌*◌, ◌/◌, ◌≤◌, ◌<◌}
use mathlib.Core.Path.{◌≡◌, sym, ap, ◌∙◌}
use mathlib.Core.Bool.{Bool, true, false, cond}
use mathlib.Core.List.{List}
use mathlib.Core.Logic.{◌⊎◌, inl, inr}
use native.Mathlib.Omega.{arith}
use lib.ListN.{length, get_or}
use lib.Dec.{leb, ltb, eqb}
use borrow.Author.Tests.{lt-ltb, le-ltb, leb-true, leb-false, le-leb, lt-leb, eqb-true, eq-eqb, ne_eqb}
use Rattle.rules.specs.declared.Refusal.TheVariants.{NotWhole}
use Rattle.rules.specs.Ranges.{first, every}
use Rattle.rules.specs.Listing.{size, within}
use Rattle.rules.specs.Layout.{room_bits, word_count}
use Rattle.rules.specs.Bits.{bit, ones_before}
use Rattle.rules.specs.Index.{Index, lens_of, sizes, in_range, tracks_fit, lengths_true, areas_reach, spare_clear, directory_true, vectors_true, conditions, first_failing, fault, whole}
use Rattle.rules.specs.Outcomes.{whole_verdict}
use Rattle.rules.proofs.Ranges.{sum_same, first_before, first_met, every_all, every_one, every-not, true_or_false}
use Rattle.rules.proofs.Verdicts.{and_both, both_and, no_and, and_no, not_yes, is_within, not_within, fine_unless, refused-unless}
use Rattle.rules.proofs.Tracks.{sizes_all}
use Rattle.rules.proofs.Layouts.{offset_last, room_most}
use Rattle.layout.proofs.Rows.{starts_at}
use Rattle.words.specs.Words.{TrueTo}
use Rattle.layout.specs.Lengths.{Lengths}
use Rattle.layout.specs.Starts.{row_starts}
use Rattle.whole.specs.declared.Fault.{Fault}
use Rattle.whole.specs.Judged.{fault_of, judged_by, judged, areas_fault}
use Rattle.whole.proofs.Lengths.{length_true}

-- ---- what is judged

module _ (s : ℕ → ℕ) (k : ℕ) {number : ℕ} where
  pub judged_faulty : (found : ℕ) → number ≡ found → 1 ≤ found → Err (fault_of found) ≡ judged_by s k number
  unfolding judged_by
  judged_faulty found e h = rw (e, ne_eqb found 0 (λ f. omega arith))

  pub judged_sound : {row : List ℕ} → number ≡ 0 → row ≡ row_starts s k → Ok row ≡ judged_by s k number
  unfolding judged_by
  judged_sound e f = rw (e, f)

module _ (x : Index) where
  -- no fault: the index is whole, and the first bits are those of its vectors
  pub judged-whole : (row : List ℕ) → Ok row ≡ judged x → (whole x ≡ true) × (row ≡ row_starts (sizes x) x.head.k)
  unfolding judged judged_by whole
  judged-whole row e = go (true_or_false (eqb (fault x) 0))
    where
      go : (eqb (fault x) 0 ≡ true) ⊎ (eqb (fault x) 0 ≡ false) → (eqb (fault x) 0 ≡ true) × (row ≡ row_starts (sizes x) x.head.k)
      go (inl t) = (t, cc (rw t at e))
      go (inr f) = cc (rw f at e)

  -- so the verdict on the index is known
  pub whole_fine : {row : List ℕ} → Ok row ≡ judged x → whole_verdict x ≡ Ok tt
  unfolding whole_verdict
  whole_fine e = fine_unless NotWhole (judged-whole _ e).0

  pub whole_refused : {f : Fault} → Err f ≡ judged x → whole_verdict x ≡ Err NotWhole
  unfolding judged judged_by whole_verdict whole
  whole_refused e = refused-unless NotWhole (not_yes (eqb (fault x) 0) (λ t. cc (rw t at e)))

-- ---- conditions 1 to 3

module _ (x : Index) where
  pub fault_1 : in_range x.head.n x.head.k ≡ false → fault x ≡ 1
  unfolding fault conditions first_failing
  fault_1 f = rw f

  module _ (t₁ : in_range x.head.n x.head.k ≡ true) where
    pub fault_2 : tracks_fit x.head.n x.head.k x.tracks ≡ false → fault x ≡ 2
    unfolding fault conditions first_failing
    fault_2 f = rw (t₁, f)

    module _ (t₂ : tracks_fit x.head.n x.head.k x.tracks ≡ true) where
      pub fault_3 : lengths_true x.head.lens x.head.k x.tracks ≡ false → fault x ≡ 3
      unfolding fault conditions first_failing
      fault_3 f = rw (t₁, t₂, f)

      pub fault-areas : lengths_true x.head.lens x.head.k x.tracks ≡ true → fault x ≡ areas_fault (sizes x) x.head.k x.words x.directory
      unfolding fault conditions first_failing areas_fault
      fault-areas t₃ = rw (t₁, t₂, t₃)

module _ (n k : ℕ) where
  pub in_range_lem : (1 ≤ n) × (n ≤ 1024) → (1 ≤ k) × (k ≤ 32) → in_range n k ≡ true
  unfolding in_range
  in_range_lem a b = both_and (is_within a.0 a.1) (is_within b.0 b.1)

  pub units_out : (n < 1) ⊎ (1024 < n) → in_range n k ≡ false
  unfolding in_range
  units_out o = no_and _ (not_within 1 1024 n o)

  pub tracks_out : (k < 1) ⊎ (32 < k) → in_range n k ≡ false
  unfolding in_range
  tracks_out o = and_no (within 1 1024 n) (not_within 1 32 k o)

module _ (n k : ℕ) (tracks : List ℕ) where
  -- the track is none
  abbrev pub bad : ℕ → Bool
  bad i = leb k (get_or tracks i 0)

  pub fits_not_long : (length tracks ≡ n → ⊥) → tracks_fit n k tracks ≡ false
  unfolding tracks_fit
  fits_not_long m = no_and _ (ne_eqb _ _ m)

  pub fits_not : length tracks ≡ n → first bad (length tracks) < length tracks → tracks_fit n k tracks ≡ false
  unfolding tracks_fit
  fits_not e l =
      and_no (eqb (length tracks) n)
      (every-not (λ i. ltb (get_or tracks i 0) k) n (first bad (length tracks)) (omega arith)
      (le-ltb (get_or tracks (first bad (length tracks)) 0) k (leb-true k _ (first_met bad (length tracks) l))))

  pub fits_below : length tracks ≤ first bad (length tracks) → (i : ℕ) → i < length tracks → get_or tracks i 0 < k
  fits_below h i l = leb-false _ _ (first_before bad (length tracks) i (omega arith))

  pub fits : length tracks ≡ n → length tracks ≤ first bad (length tracks) → tracks_fit n k tracks ≡ true
  unfolding tracks_fit
  fits e h = both_and (eq-eqb _ _ e) (every_all (λ i. ltb (get_or tracks i 0) k) n (λ i l. lt-ltb _ _ (fits_below h i (omega arith))))

-- what the lengths are known to be after these
pub lengths_known : (lens : List ℕ) (k : ℕ) (tracks : List ℕ) → 1 ≤ k → k ≤ 32 → length tracks ≤ 1024
    → ((i : ℕ) → i < length tracks → get_or tracks i 0 < k) → lengths_true lens k tracks ≡ true → Lengths (lens_of lens) k
unfolding lengths_true
lengths_known lens k tracks some few short below t = record {
  some_track = some;
  few_tracks = few;
  few_units = omega (arith, sum_same (lens_of lens) (size tracks) k (λ q l. eqb-true _ _ (at q l).0), sizes_all tracks k below);
  used = λ q l. leb-true 1 (lens_of lens q) (rw (lt-ltb q k l) at (at q l).1);
}
  where
    at : (q : ℕ) → q < k → (eqb (lens_of lens q) (size tracks q) ≡ true) × (cond (ltb q k) (leb 1 (lens_of lens q)) (eqb (lens_of lens q) 0) ≡ true)
    at q l = and_both _ _ (every_one (length_true lens k tracks) 32 q t (omega arith))

-- ---- conditions 4 to 7

module _ (s : ℕ → ℕ) (k : ℕ) (words directory : List ℕ) where
  pub areas_4 : areas_reach s k words directory ≡ false → areas_fault s k words directory ≡ 4
  unfolding areas_fault first_failing
  areas_4 f = rw f

  module _ (t₄ : areas_reach s k words directory ≡ true) where
    pub areas_5 : spare_clear s k words ≡ false → areas_fault s k words directory ≡ 5
    unfolding areas_fault first_failing
    areas_5 f = rw (t₄, f)

    module _ (t₅ : spare_clear s k words ≡ true) where
      pub areas_6 : directory_true s k words directory ≡ false → areas_fault s k words directory ≡ 6
      unfolding areas_fault first_failing
      areas_6 f = rw (t₄, t₅, f)

      module _ (t₆ : directory_true s k words directory ≡ true) where
        pub areas_7 : vectors_true s k words ≡ false → areas_fault s k words directory ≡ 7
        unfolding areas_fault first_failing
        areas_7 f = rw (t₄, t₅, t₆, f)

        pub areas_none : vectors_true s k words ≡ true → areas_fault s k words directory ≡ 0
        unfolding areas_fault first_failing
        areas_none t₇ = rw (t₄, t₅, t₆, t₇)

-- the list of first bits ends with the number of all bits
module _ {s : ℕ → ℕ} {k : ℕ} {row : List ℕ} (known : Lengths s k) (rows : row ≡ row_starts s k) where
  pub last_bits : get_or row k 0 ≡ room_bits s k
  last_bits = ap (λ (row : List ℕ). get_or row k 0) rows ∙ starts_at s k k (omega arith) known.few_tracks ∙ offset_last s k

  pub few_bits : get_or row k 0 ≤ 65536
  few_bits = omega (arith, last_bits, room_most s k known.few_units known.few_tracks)

-- the same by the number of bits
module _ (s : ℕ → ℕ) (k : ℕ) (words directory : List ℕ) (bits : ℕ) (all : bits ≡ room_bits s k) where
  pub count_is : (bits + 63) / 64 ≡ word_count s k
  unfolding word_count
  count_is = rw all

  pub reach_both : (bits + 63) / 64 ≤ length words → (bits + 63) / 64 ≤ length directory → areas_reach s k words directory ≡ true
  unfolding areas_reach
  reach_both l h = rw (sym count_is) (both_and (le-leb _ _ l) (le-leb _ _ h))

  pub reach_words : length words < (bits + 63) / 64 → areas_reach s k words directory ≡ false
  unfolding areas_reach
  reach_words l = rw (sym count_is) (no_and _ (lt-leb _ _ l))

  pub reach_directory : length directory < (bits + 63) / 64 → areas_reach s k words directory ≡ false
  unfolding areas_reach
  reach_directory l = rw (sym count_is) (and_no (leb ((bits + 63) / 64) (length words)) (lt-leb _ _ l))

  pub spare_is : spare_clear s k words ≡ every (λ i. eqb (bit words (bits + i)) 0) (64 * ((bits + 63) / 64) - bits)
  unfolding spare_clear
  spare_is = rw (sym count_is, sym all)

  pub directory_is : directory_true s k words directory ≡ every (λ j. eqb (get_or directory j 0) (ones_before words j)) ((bits + 63) / 64)
  unfolding directory_true
  directory_is = rw (sym count_is)

  pub areas_known : (bits + 63) / 64 ≤ length words → (bits + 63) / 64 ≤ length directory → directory_true s k words directory ≡ true → TrueTo words directory (word_count s k)
  unfolding directory_true
  areas_known l h t j b = record {
    word = omega (arith, count_is);
    entry = omega (arith, count_is);
    true_there = eqb-true _ _ (every_one (λ j. eqb (get_or directory j 0) (ones_before words j)) (word_count s k) j t b);
  }
