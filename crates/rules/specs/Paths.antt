-- Paths of one hop or more along a relation, and its steps that no path goes around.
use Rattle.std.specs.Prelude.{ℕ}

-- one hop or more lead from the first number to the second
pub data Path⁺ (R : ℕ → ℕ → Type 0) : ℕ → ℕ → Type 0 where
  one : {u v : ℕ} → R u v → Path⁺ R u v
  more : {u w v : ℕ} → R u w → Path⁺ R w v → Path⁺ R u v

-- a path leads from u to v, and no third number lies between
pub record Direct (R : ℕ → ℕ → Type 0) (u v : ℕ) : Type 0 where
  pub path : Path⁺ R u v
  pub alone : (w : ℕ) → Path⁺ R u w → Path⁺ R w v → ⊥
