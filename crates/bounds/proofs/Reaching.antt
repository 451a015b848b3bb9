-- Which of the positions in an array, one for each track, reach which: two tests of each track that must not both pass, as shown
-- track by track, and what refutes it. Assumes nothing.
use Prim.Native.Nat.{ℕ, ◌+◌, ◌<◌}
use mathlib.Core.Path.{◌≡◌, ap, ◌∙◌}
use mathlib.Core.Bool.{Bool, true, false, not, ◌&&◌}
use mathlib.Core.List.{List}
use mathlib.Core.Logic.{◌⊎◌, inl, inr}
use lib.ListN.{get_or}
use lib.Dec.{leb}
use Rattle.rules.specs.Ranges.{every}
use Rattle.rules.specs.Index.{low_at}
use Rattle.rules.proofs.Ranges.{every-next, every-not}
use Rattle.rules.proofs.Verdicts.{both_and, no_and, and_no}

module _ (a b : ℕ → Bool) where
  abbrev pub never : ℕ → Bool
  never m = every (λ i. not (a i && b i)) m

  pub never_next : (m : ℕ) → never m ≡ true → (a m ≡ false) ⊎ (b m ≡ false) → never (m + 1) ≡ true
  never_next m h w = every-next _ m ∙ both_and h (ap not (fails w))
    where
      fails : (a m ≡ false) ⊎ (b m ≡ false) → (a m && b m) ≡ false
      fails (inl f) = no_and (b m) f
      fails (inr f) = and_no (a m) f

  pub never_not : (m i : ℕ) → i < m → a i ≡ true → b i ≡ true → never m ≡ false
  never_not m i l p q = every-not _ m i l (ap not (both_and p q))

-- ---- the tests of `none_reaches`

-- track p has a unit in the array
abbrev pub present : List ℕ → ℕ → Bool
present at p = leb 1 (get_or at p 0)

-- it reaches position j of track q
abbrev pub reaching : (ℕ → ℕ) → ℕ → List ℕ → List ℕ → ℕ → ℕ → ℕ → Bool
reaching s k words at q j p = leb j (low_at s k words p (get_or at p 0) q)

-- ---- the tests of `reaches_none`

-- the position in the array for track q is a unit's
abbrev pub inside : (ℕ → ℕ) → List ℕ → ℕ → Bool
inside s at q = leb (get_or at q 0) (s q)

-- position i of track p reaches it
abbrev pub reached : (ℕ → ℕ) → ℕ → List ℕ → ℕ → ℕ → List ℕ → ℕ → Bool
reached s k words p i at q = leb (get_or at q 0) (low_at s k words p i q)
