-- What is computed over a range of numbers 0, 1, .. m - 1: sums, counts, the greatest, the smallest, the first, lists.
use Rattle.std.specs.Prelude.{ℕ, zero, suc, ◌+◌, max, min, Bool, true, false, cond, ◌&&◌, ◌||◌, List, [], ◌∷◌, ◌++◌, length, drop, ltb, Option, Some, None}

-- f 0 + f 1 + .. + f (m - 1)
unfoldable pub sum : (ℕ → ℕ) → ℕ → ℕ
sum f zero = 0
sum f (suc m) = sum f m + f m

-- 1 where the test passes, else 0
abbrev pub bit1 : Bool → ℕ
bit1 true = 1
bit1 false = 0

-- how many numbers below m pass
unfoldable pub count : (ℕ → Bool) → ℕ → ℕ
count p zero = 0
count p (suc m) = count p m + bit1 (p m)

-- the greatest of f 0 .. f (m - 1), and 0 where there is none
unfoldable pub greatest : (ℕ → ℕ) → ℕ → ℕ
greatest f zero = 0
greatest f (suc m) = max (greatest f m) (f m)

-- the smallest of d, f 0, .. f (m - 1)
unfoldable pub smallest : ℕ → (ℕ → ℕ) → ℕ → ℕ
smallest d f zero = d
smallest d f (suc m) = min (smallest d f m) (f m)

-- the first number below m that passes, and m where none does
unfoldable pub first : (ℕ → Bool) → ℕ → ℕ
first p zero = 0
first p (suc m) = cond (ltb (first p m) m) (first p m) (cond (p m) m (suc m))

-- the same where there is one
abbrev pub first_found : (ℕ → Bool) → ℕ → Option ℕ
first_found p m = cond (ltb (first p m) m) (Some (first p m)) None

-- some number below m passes
unfoldable pub some : (ℕ → Bool) → ℕ → Bool
some p zero = false
some p (suc m) = some p m || p m

-- every number below m passes
unfoldable pub every : (ℕ → Bool) → ℕ → Bool
every p zero = true
every p (suc m) = every p m && p m

-- the numbers below m that pass, ascending
unfoldable pub keep : (ℕ → Bool) → ℕ → List ℕ
keep p zero = []
keep p (suc m) = keep p m ++ cond (p m) (m ∷ []) []

-- the list f 0, f 1, .. f (m - 1)
unfoldable pub table : (ℕ → ℕ) → ℕ → List ℕ
table f zero = []
table f (suc m) = table f m ++ (f m ∷ [])

-- m rows of k numbers, one after another: f 0 0, f 0 1, .. f 0 (k - 1), f 1 0, ..
unfoldable pub rows : (ℕ → ℕ → ℕ) → ℕ → ℕ → List ℕ
rows f zero k = []
rows f (suc m) k = rows f m k ++ table (f m) k

-- u, v for each v from 1 to m with r u v
unfoldable pub pairs_for : (ℕ → ℕ → Bool) → ℕ → ℕ → List ℕ
pairs_for r u zero = []
pairs_for r u (suc m) = pairs_for r u m ++ cond (r u (suc m)) (u ∷ suc m ∷ []) []

-- the pairs (u, v) with r u v, u from 1 to m and v from 1 to n, flat and ascending
unfoldable pub pairs_in : (ℕ → ℕ → Bool) → ℕ → ℕ → List ℕ
pairs_in r n zero = []
pairs_in r n (suc m) = pairs_in r n m ++ pairs_for r (suc m) n

-- an area whose first entries are now xs; the rest is kept
unfoldable pub over : List ℕ → List ℕ → List ℕ
over area xs = xs ++ drop (length xs) area
