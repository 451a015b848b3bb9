-- What the library's `position` finds, as the first number that passes. Assumes nothing.
use Rattle.std.proofs.Common.{◌≡◌, ℕ, ◌≤◌, ◌<◌, Bool, List, length, get_or, take, ap, arith, ◌∙◌}
use Rattle.std.specs.List.{position, position_or_len}
use Rattle.std.proofs.lemmas.List.{length-take-le, get_or-take, take_all}
use Rattle.std.proofs.lemmas.List.Sums.{position_or_len_is}
use Rattle.rules.proofs.Ranges.{first_le, first_before, first_met}
use Rattle.rules.specs.Ranges.{first, first_found}

-- the first of the first m entries that passes stands at the first index whose entry passes
pub position_found : (t : ℕ → Bool) (xs : List ℕ) (m : ℕ) → m ≤ length xs → position t (take m xs) ≡ first_found (λ i. t (get_or xs i 0)) m
position_found t xs m h = rw (long, same)
  where
    p : ℕ → Bool
    p i = t (get_or xs i 0)

    long : length (take m xs) ≡ m
    long = length-take-le m xs h

    taken : (i : ℕ) → i < m → t (get_or (take m xs) i 0) ≡ p i
    taken i l = ap t (get_or-take m xs i 0 l)

    same : position_or_len t (take m xs) ≡ first p m
    same =
        position_or_len_is t (take m xs) (first p m) 0 (omega (arith, first_le p m, long))
        (λ i l. taken i (omega (arith, first_le p m)) ∙ first_before p m i l)
        (λ l. let b : first p m < m = omega (arith, long) in taken (first p m) b ∙ first_met p m b)

-- the first entry that passes stands at the first index whose entry passes
pub position_found_all : (t : ℕ → Bool) (xs : List ℕ) → position t xs ≡ first_found (λ i. t (get_or xs i 0)) (length xs)
position_found_all t xs = rw (take_all (length xs) xs (omega arith)) at (position_found t xs (length xs) (omega arith))
