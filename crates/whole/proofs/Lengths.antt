-- What is right of one entry of the head, and the code's test of it. Assumes nothing.
use Prim.Native.Nat.{ℕ, ◌<◌}
use mathlib.Core.Path.{◌≡◌, sym, ◌∙◌}
use mathlib.Core.Bool.{Bool, true, false, cond, not, ◌&&◌, beq}
use mathlib.Core.List.{List}
use native.Mathlib.Omega.{arith}
use native.Mathlib.Decide.{dec_lt}
use lib.ListN.{get_or}
use lib.Dec.{leb, ltb, eqb}
use borrow.Author.Tests.{lt-ltb, le-ltb, le-leb, lt-leb, eq-eqb, ne_eqb, not-true, not-false}
use Rattle.rules.specs.Ranges.{table}
use Rattle.rules.specs.Listing.{size}
use Rattle.rules.specs.Index.{lens_of}
use Rattle.rules.proofs.Ranges.{get_or-table}
use Rattle.rules.proofs.Verdicts.{both_and, no_and, and_no}

-- entry q is at least 1 for a track below k, and 0 beyond
abbrev length_used : ℕ → ℕ → ℕ → Bool
length_used length k q = cond (ltb q k) (leb 1 length) (eqb length 0)

-- and it is the count in the track list
abbrev pub length_true : List ℕ → ℕ → List ℕ → ℕ → Bool
length_true lens k tracks q = eqb (lens_of lens q) (size tracks q) && length_used (lens_of lens q) k q

-- an entry is 0 exactly from k on
length_used_lem : (length k q : ℕ) → length_used length k q ≡ beq (eqb length 0) (leb k q)
length_used_lem length k q = go (dec_lt q k) (dec_lt 0 length)
  where
    go : Dec (q < k) → Dec (0 < length) → length_used length k q ≡ beq (eqb length 0) (leb k q)
    go (yes l) (yes h) = rw (lt-ltb q k l, le-leb 1 length h, lt-leb k q l, ne_eqb length 0 (λ e. omega arith))
    go (yes l) (no n) = rw (lt-ltb q k l, lt-leb 1 length (omega arith), lt-leb k q l, eq-eqb length 0 (omega arith))
    go (no m) (yes h) = rw (le-ltb q k (omega arith), le-leb k q (omega arith), ne_eqb length 0 (λ e. omega arith))
    go (no m) (no n) = rw (le-ltb q k (omega arith), le-leb k q (omega arith), eq-eqb length 0 (omega arith))

module _ (lens : List ℕ) (k : ℕ) (tracks counts : List ℕ) (counted : counts ≡ table (size tracks) 32) (q : ℕ) (inside : q < 32) where
  count_is : get_or counts q 0 ≡ size tracks q
  count_is = rw counted (get_or-table (size tracks) 32 q inside)

  pub length_right : get_or lens q 0 ≡ get_or counts q 0 → not (beq (eqb (get_or lens q 0) 0) (leb k q)) ≡ false → length_true lens k tracks q ≡ true
  length_right e t = both_and (eq-eqb _ _ (e ∙ count_is)) (length_used_lem (get_or lens q 0) k q ∙ not-false _ t)

  pub length_miscounted : (get_or lens q 0 ≡ get_or counts q 0 → ⊥) → length_true lens k tracks q ≡ false
  length_miscounted n = no_and _ (ne_eqb _ _ (λ e. n (e ∙ sym count_is)))

  pub length_misused : not (beq (eqb (get_or lens q 0) 0) (leb k q)) ≡ true → length_true lens k tracks q ≡ false
  length_misused t = and_no (eqb (lens_of lens q) (size tracks q)) (length_used_lem (get_or lens q 0) k q ∙ not-true _ t)
