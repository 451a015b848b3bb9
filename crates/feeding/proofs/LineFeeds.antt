-- Whether some byte passes a test, looked for from the first byte on.
-- Assumes nothing.
use Prim.Native.Nat.{ℕ, zero, suc}
use mathlib.Core.Path.{◌≡◌, refl, sym}
use mathlib.Core.Bool.{Bool, true, false, ◌||◌}
use mathlib.Core.List.{List, [], ◌∷◌}
use lib.Dec.{eqb}
use lib.ListN.{length, get_or}
use Rattle.std.specs.List.{list_any}
use Rattle.rules.specs.Ranges.{some}
use Rattle.feeding.specs.Feeding.{has_line_feed}

or_swapped : (a b c : Bool) → ((a || b) || c) ≡ (a || (b || c))
or_swapped true b c = refl
or_swapped false b c = refl

-- the first number, or one past it
some_first : (p : ℕ → Bool) (m : ℕ) → some p (suc m) ≡ (p 0 || some (λ i. p (suc i)) m)
unfolding some
some_first p zero = go (p 0)
  where
    go : (b : Bool) → (false || b) ≡ (b || false)
    go true = refl
    go false = refl
some_first p (suc m) = rw (some_first p m) (or_swapped (p 0) (some (λ i. p (suc i)) m) (p (suc m)))

any_some : (p : ℕ → Bool) (xs : List ℕ) → list_any p xs ≡ some (λ i. p (get_or xs i 0)) (length xs)
unfolding some
any_some p [] = refl
any_some p (x ∷ xs) = rw (any_some p xs) (sym (some_first (λ i. p (get_or (x ∷ xs) i 0)) (length xs)))

pub line_feed_found : (bytes : List ℕ) → list_any (λ y. eqb y 10) bytes ≡ has_line_feed bytes
unfolding has_line_feed
line_feed_found bytes = any_some (λ y. eqb y 10) bytes
