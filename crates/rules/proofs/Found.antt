-- The first number that passes a test, if any: what is found, what it says that none is, and the refusal that it brings. Assumes nothing.
use Rattle.std.proofs.Common.{◌≡◌, ℕ, ◌≤◌, ◌<◌, Bool, true, false, refl, arith, ltb, lt-ltb, le-ltb, Some, None}
use Rattle.std.specs.Option.{is_some}
use Rattle.std.specs.Prelude.{Ok, Err}
use native.Mathlib.Decide.{dec_lt}
use Rattle.rules.specs.declared.Refusal.{Refusal}
use Rattle.rules.specs.Ranges.{first, first_found}
use Rattle.rules.specs.Listing.{refuse_first}
use Rattle.rules.proofs.Ranges.{first_is, first_none, first_same}
use Rattle.rules.proofs.Verdicts.{refuse_at, refuse_end}

module _ (p : ℕ → Bool) (m : ℕ) where
  -- a number that passes is found where none before it does
  pub found_at : (i : ℕ) → i < m → ((j : ℕ) → j < i → p j ≡ false) → p i ≡ true → Some i ≡ first_found p m
  found_at i l before here = rw (first_is p m i l before here, lt-ltb i m l)

  -- none is found where none passes
  pub none_found : ((i : ℕ) → i < m → p i ≡ false) → None ≡ first_found p m
  none_found h = rw (first_none p m h, le-ltb m m (omega arith))

  -- what is found is the first
  pub found_first : (i : ℕ) → Some i ≡ first_found p m → (i < m) × (i ≡ first p m)
  found_first i e = go (dec_lt (first p m) m)
    where
      go : Dec (first p m < m) → (i < m) × (i ≡ first p m)
      go (yes l) = let s : i ≡ first p m = cc (rw (lt-ltb _ _ l) at e) in (omega arith, s)
      go (no n) = let l : m ≤ first p m = omega arith in cc (rw (le-ltb _ _ l) at e)

  -- where none is found the first is the end
  pub found_none : None ≡ first_found p m → m ≤ first p m
  found_none e = go (dec_lt (first p m) m)
    where
      go : Dec (first p m < m) → m ≤ first p m
      go (yes l) = cc (rw (lt-ltb _ _ l) at e)
      go (no n) = omega arith

  pub is_found : is_some (first_found p m) ≡ ltb (first p m) m
  is_found = go (dec_lt (first p m) m)
    where
      go : Dec (first p m < m) → is_some (first_found p m) ≡ ltb (first p m) m
      go (yes l) = rw (lt-ltb _ _ l)
      go (no n) = rw (le-ltb (first p m) m (omega arith))

-- the same number is found where the tests agree
pub found_same : (p q : ℕ → Bool) (m : ℕ) → ((i : ℕ) → i < m → p i ≡ q i) → first_found p m ≡ first_found q m
found_same p q m h = rw (first_same p q m h)

-- ---- the refusal that it brings

module _ (bad : ℕ → Bool) (m : ℕ) (refusal : ℕ → Refusal) where
  pub refuse_found : {i : ℕ} → Some i ≡ first_found bad m → refuse_first bad m refusal ≡ Err (refusal i)
  refuse_found {i} e = let f = found_first bad m i e in refuse_at bad m refusal i f.1 f.0

  pub refuse_not_found : None ≡ first_found bad m → refuse_first bad m refusal ≡ Ok tt
  refuse_not_found e = refuse_end bad m refusal (first bad m) refl (found_none bad m e)
