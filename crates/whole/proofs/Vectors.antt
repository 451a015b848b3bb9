-- The ones of a vector as a difference of ranks, so that a row and all rows are known by the ranks at their ends. Assumes nothing.
use Prim.Native.Nat.{ℕ, ◌+◌, ◌-◌, ◌*◌, ◌≤◌, ◌<◌}
use mathlib.Core.Path.{◌≡◌, refl, sym, ap, ◌∙◌}
use mathlib.Core.Bool.{Bool, true}
use mathlib.Core.List.{List}
use native.Mathlib.Omega.{arith}
use native.Mathlib.Nat.{mul-le-mul}
use lib.Dec.{eqb}
use borrow.Author.Tests.{eqb-true, eq-eqb, ne_eqb}
use Rattle.rules.specs.Layout.{vector_room, offset, room_bits}
use Rattle.rules.specs.Bits.{rank}
use Rattle.rules.proofs.Verdicts.{same_test}
use Rattle.rules.proofs.Layouts.{offset-next, offset_own, offset-within, vector_other, room_holds, length_most, ones_in}
use Rattle.rules.proofs.Vectors.{vector_ones, rank-vector}
use Rattle.layout.specs.Lengths.{Lengths}

-- ---- lengths that are known

-- where vector p,q ends
pub record Ended (s : ℕ → ℕ) (k p q end : ℕ) : Type 0 where
  pub at_end : end ≡ offset s k p (q + 1)
  pub some_bits : 1 ≤ end
  pub within : end ≤ room_bits s k

module _ (s : ℕ → ℕ) (k : ℕ) (known : Lengths s k) where
  pub ended : (p q : ℕ) → p < k → q < k → (q ≡ p → ⊥) → (start room : ℕ) → start ≡ offset s k p q → room ≡ vector_room s p q → Ended s k p q (start + room)
  ended p q l h n start room e f = record {
    at_end = omega (arith, offset-next s k p q);
    some_bits = omega (arith, room_holds s p q, vector_other s p q (λ g. n (sym g)), known.used p l);
    within = omega (arith, offset-within s k p q l h);
  }

  pub row_within : (p : ℕ) → p < k → offset s k p 0 ≤ room_bits s k
  row_within p l = omega (arith, offset-within s k p 0 l known.some_track)

  pub row_most : (p : ℕ) → p < k → (k - 1) * s p ≤ 31744
  row_most p l =
      let few : k - 1 ≤ 31 = omega (arith, known.few_tracks) in
      mul-le-mul few (length_most s k p known.few_units l)

-- ---- vectors

module _ (s : ℕ → ℕ) (k : ℕ) (ws : List ℕ) where
  -- vector p,q has as many ones as p has units
  abbrev pub vector_true : ℕ → ℕ → Bool
  vector_true p q = eqb (vector_ones s k ws p q) (ones_in s p q)

  -- so the rank at its end tells whether a vector is true
  pub vector_test : (p q end start ones : ℕ) → Ended s k p q end → (q ≡ p → ⊥) → start ≡ offset s k p q → ones ≡ rank ws start
      → vector_true p q ≡ eqb (rank ws (end - 1 + 1)) (ones + s p)
  vector_test p q end start ones e n f g = same_test _ _ to from
    where
      last : rank ws (end - 1 + 1) ≡ ones + vector_ones s k ws p q
      last =
          let h : end - 1 + 1 ≡ offset s k p (q + 1) = omega (arith, e.at_end, e.some_bits) in
          omega (arith, ap (rank ws) h, ap (rank ws) f, rank-vector s k ws p q)

      meant : ones_in s p q ≡ s p
      meant = rw (ne_eqb p q (λ h. n (sym h)))

      to : vector_true p q ≡ true → eqb (rank ws (end - 1 + 1)) (ones + s p) ≡ true
      to t = eq-eqb _ _ (last ∙ ap (λ (x : ℕ). ones + x) (eqb-true _ _ t ∙ meant))

      from : eqb (rank ws (end - 1 + 1)) (ones + s p) ≡ true → vector_true p q ≡ true
      from t = eq-eqb (vector_ones s k ws p q) (ones_in s p q) (omega (arith, last, meant, eqb-true (rank ws (end - 1 + 1)) (ones + s p) t))

  -- there is no vector p,p
  pub own_true : (p : ℕ) → vector_true p p ≡ true
  own_true p =
      let meant : ones_in s p p ≡ 0 = rw (eq-eqb p p refl) in
      eq-eqb (vector_ones s k ws p p) (ones_in s p p) (omega (arith, rank-vector s k ws p p, ap (rank ws) (offset_own s k p)))
