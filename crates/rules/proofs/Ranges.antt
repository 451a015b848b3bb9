-- Laws of what is computed over a range of numbers: a law of one more number for each, and what a caller may use instead of the definition.
-- Assumes nothing.
use Prim.Native.Nat.{ℕ, zero, suc, ◌+◌, ◌-◌, ◌*◌, ◌/◌, ◌%◌, ◌≤◌, ◌<◌, max, min, zero-le}
use mathlib.Core.Path.{◌≡◌, refl, sym, ap, ◌∙◌, subst}
use mathlib.Core.Bool.{Bool, true, false, cond, ◌&&◌, ◌||◌, or-true}
use mathlib.Core.List.{List, [], ◌∷◌, ◌++◌, append-nil}
use mathlib.Core.Logic.{◌⊎◌, inl, inr}
use native.Mathlib.Omega.{arith}
use native.Mathlib.Numerals.{add-one}
use native.Mathlib.Nat.{le_refl, le_antisymm, add-suc, add-zero, suc-mul, div-add-mod', mod-lt, div-lt_iff_lt-mul}
use native.Mathlib.Decide.{dec_lt}
use lib.ListN.{length, get_or, set, length-append, replicate, length-set, length-replicate, get_or-replicate}
use lib.Seq.{get_or-append-add, get_or-append_seam, get_or_at, ext_get_or, get_or-set_same, get_or-set_other}
use lib.Arith.{digits_lt}
use lib.ListN.{get_or-append}
use lib.Dec.{leb, ltb}
use borrow.Author.Tests.{lt-ltb, le-ltb, le-leb}
use Rattle.rules.specs.Ranges.{sum, bit1, count, greatest, smallest, first, some, every, keep, table, rows}
use Rattle.rules.specs.Questions.{units_where}

-- ---- numbers below a bound

-- the last number, or one before it
pub last_or_before : {i m : ℕ} → i < suc m → (i ≡ m) ⊎ (i < m)
last_or_before {i} {m} h = go (dec_lt i m)
  where
    go : Dec (i < m) → (i ≡ m) ⊎ (i < m)
    go (yes l) = inr l
    go (no n) = inl (omega arith)

-- a test has one of its two answers
pub true_or_false : (b : Bool) → (b ≡ true) ⊎ (b ≡ false)
true_or_false true = inl refl
true_or_false false = inr refl

pub not_both : {b : Bool} → b ≡ true → b ≡ false → ⊥
not_both p q = let z : ◌≡◌ {A = ℕ} 0 1 = cc in omega arith

-- ---- sum

module _ (f : ℕ → ℕ) where
  pub sum_none : sum f 0 ≡ 0
  unfolding sum
  sum_none = refl

  pub sum-next : (m : ℕ) → sum f (m + 1) ≡ sum f m + f m
  unfolding sum
  sum-next m = rw add-one

  pub sum-suc : (m : ℕ) → sum f (suc m) ≡ sum f m + f m
  unfolding sum
  sum-suc m = refl

pub sum_same : (f g : ℕ → ℕ) (m : ℕ) → ((i : ℕ) → i < m → f i ≡ g i) → sum f m ≡ sum g m
unfolding sum
sum_same f g zero h = refl
sum_same f g (suc m) h =
    let e : f m ≡ g m = h m (omega arith) in
    let r : sum f m ≡ sum g m = sum_same f g m (λ i l. h i (omega arith)) in
    omega arith

pub sum_le : (f g : ℕ → ℕ) (m : ℕ) → ((i : ℕ) → i < m → f i ≤ g i) → sum f m ≤ sum g m
unfolding sum
sum_le f g zero h = zero-le
sum_le f g (suc m) h =
    let e : f m ≤ g m = h m (omega arith) in
    let r : sum f m ≤ sum g m = sum_le f g m (λ i l. h i (omega arith)) in
    omega arith

-- a sum up to a + b is the sum up to a and what follows
pub sum_add : (f : ℕ → ℕ) (a b : ℕ) → sum f (a + b) ≡ sum f a + sum (λ i. f (a + i)) b
unfolding sum
sum_add f a zero = rw (add-zero a) (omega arith)
sum_add f a (suc b) = rw add-suc (let r = sum_add f a b in omega arith)

pub sum_up : (f : ℕ → ℕ) (a b : ℕ) → a ≤ b → sum f a ≤ sum f b
sum_up f a b h =
    let e : a + (b - a) ≡ b = omega arith in
    subst (λ (x : ℕ). sum f a ≤ sum f x) e (omega (arith, sum_add f a (b - a)))

-- one term is at most the sum
pub sum_term : (f : ℕ → ℕ) (m i : ℕ) → i < m → sum f i + f i ≤ sum f m
sum_term f m i h = rw (sym (sum-suc f i)) (sum_up f (suc i) m h)

pub sum_zero : (f : ℕ → ℕ) (m : ℕ) → ((i : ℕ) → i < m → f i ≡ 0) → sum f m ≡ 0
unfolding sum
sum_zero f zero h = refl
sum_zero f (suc m) h =
    let e : f m ≡ 0 = h m (omega arith) in
    let r : sum f m ≡ 0 = sum_zero f m (λ i l. h i (omega arith)) in
    omega arith

pub sum_plus : (f g : ℕ → ℕ) (m : ℕ) → sum (λ i. f i + g i) m ≡ sum f m + sum g m
unfolding sum
sum_plus f g zero = refl
sum_plus f g (suc m) = let r = sum_plus f g m in omega arith

pub sum_const : (a m : ℕ) → sum (λ i. a) m ≡ m * a
unfolding sum
sum_const a zero = sym (native.Mathlib.Nat.zero-mul a)
sum_const a (suc m) = omega (arith, sum_const a m, suc-mul m a)

-- a sum of numbers that are at most a is at most m times a
pub sum_most : (f : ℕ → ℕ) (a m : ℕ) → ((i : ℕ) → i < m → f i ≤ a) → sum f m ≤ m * a
sum_most f a m h = rw (sym (sum_const a m)) (sum_le f (λ i. a) m h)

-- ---- count

pub bit1_le : (b : Bool) → bit1 b ≤ 1
bit1_le true = le_refl 1
bit1_le false = zero-le

module _ (p : ℕ → Bool) where
  pub count_none : count p 0 ≡ 0
  unfolding count
  count_none = refl

  pub count_next : (m : ℕ) → count p (m + 1) ≡ count p m + bit1 (p m)
  unfolding count
  count_next m = rw add-one

  pub count_yes : (m : ℕ) → p m ≡ true → count p (m + 1) ≡ count p m + 1
  count_yes m h = count_next m ∙ rw h

  pub count_no : (m : ℕ) → p m ≡ false → count p (m + 1) ≡ count p m
  count_no m h = count_next m ∙ rw (h, add-zero)

  pub count-sum : (m : ℕ) → count p m ≡ sum (λ i. bit1 (p i)) m
  unfolding count sum
  count-sum zero = refl
  count-sum (suc m) = rw (count-sum m)

  pub count_le : (m : ℕ) → count p m ≤ m
  unfolding count
  count_le zero = zero-le
  count_le (suc m) = let r = count_le m in let b = bit1_le (p m) in omega arith

pub count_up : (p : ℕ → Bool) (a b : ℕ) → a ≤ b → count p a ≤ count p b
count_up p a b h = rw (count-sum p a, count-sum p b) (sum_up (λ i. bit1 (p i)) a b h)

-- a number that passes is counted: the count up to it is below the count past it
pub count_past : (p : ℕ → Bool) (i m : ℕ) → i < m → p i ≡ true → count p i < count p m
count_past p i m h t =
    let r : count p (i + 1) ≤ count p m = count_up p (i + 1) m (omega arith) in
    omega (arith, count_yes p i t)

-- below a count lies a number that passes: the one with that many before it
pub count_find : (p : ℕ → Bool) (m c : ℕ) → c < count p m → (i : ℕ) × (i < m) × (p i ≡ true) × (count p i ≡ c)
unfolding count
count_find p zero c h = absurd (omega arith)
count_find p (suc m) c h = go (count_find p m c) (dec_lt c (count p m)) (true_or_false (p m))
  where
    go : (c < count p m → (i : ℕ) × (i < m) × (p i ≡ true) × (count p i ≡ c)) → Dec (c < count p m) → (p m ≡ true) ⊎ (p m ≡ false)
        → (i : ℕ) × (i < suc m) × (p i ≡ true) × (count p i ≡ c)
    go below (yes l) t = let r = below l in (r.0, omega arith, r.2, r.3)
    go below (no n) (inl t) = (m, omega arith, t, (let h' : c < count p m + 1 = rw t at h in omega arith))
    go below (no n) (inr t) = absurd (let h' : c < count p m + 0 = rw t at h in omega arith)

-- ---- greatest and smallest

module _ (f : ℕ → ℕ) where
  pub greatest_none : greatest f 0 ≡ 0
  unfolding greatest
  greatest_none = refl

  pub greatest-next : (m : ℕ) → greatest f (m + 1) ≡ max (greatest f m) (f m)
  unfolding greatest
  greatest-next m = rw add-one

  pub greatest_bound : (m i : ℕ) → i < m → f i ≤ greatest f m
  unfolding greatest
  greatest_bound zero i h = absurd (omega arith)
  greatest_bound (suc m) i h = go (greatest_bound m i) (last_or_before h)
    where
      go : (i < m → f i ≤ greatest f m) → (i ≡ m) ⊎ (i < m) → f i ≤ max (greatest f m) (f m)
      go below (inl e) = omega (arith, ap f e)
      go below (inr l) = omega (arith, below l)

  pub greatest_least : (m b : ℕ) → ((i : ℕ) → i < m → f i ≤ b) → greatest f m ≤ b
  unfolding greatest
  greatest_least zero b h = zero-le
  greatest_least (suc m) b h = omega (arith, h m (omega arith), greatest_least m b (λ i l. h i (omega arith)))

  -- the greatest is 0, or one of them
  pub greatest_met : (m : ℕ) → 0 < greatest f m → (i : ℕ) × (i < m) × (f i ≡ greatest f m)
  unfolding greatest
  greatest_met zero h = absurd (omega arith)
  greatest_met (suc m) h = go (greatest_met m) (dec_lt (greatest f m) (f m))
    where
      go : (0 < greatest f m → (i : ℕ) × (i < m) × (f i ≡ greatest f m)) → Dec (greatest f m < f m)
          → (i : ℕ) × (i < suc m) × (f i ≡ max (greatest f m) (f m))
      go below (yes l) = (m, omega arith, omega arith)
      go below (no n) = let r = below (omega arith) in (r.0, omega arith, omega (arith, r.2))

-- a bound that is met is the greatest
pub greatest_is : (f : ℕ → ℕ) (m i b : ℕ) → i < m → f i ≡ b → ((j : ℕ) → j < m → f j ≤ b) → greatest f m ≡ b
greatest_is f m i b l e h = omega (arith, greatest_bound f m i l, greatest_least f m b h)

pub greatest_zero : (f : ℕ → ℕ) (m : ℕ) → ((j : ℕ) → j < m → f j ≡ 0) → greatest f m ≡ 0
greatest_zero f m h = omega (arith, greatest_least f m 0 (λ j l. omega (arith, h j l)))

pub greatest_same : (f g : ℕ → ℕ) (m : ℕ) → ((i : ℕ) → i < m → f i ≡ g i) → greatest f m ≡ greatest g m
unfolding greatest
greatest_same f g zero h = refl
greatest_same f g (suc m) h = rw (h m (omega arith), greatest_same f g m (λ i l. h i (omega arith)))

module _ (d : ℕ) (f : ℕ → ℕ) where
  pub smallest-start : (m : ℕ) → smallest d f m ≤ d
  unfolding smallest
  smallest-start zero = le_refl d
  smallest-start (suc m) = let r = smallest-start m in omega arith

  pub smallest_bound : (m i : ℕ) → i < m → smallest d f m ≤ f i
  unfolding smallest
  smallest_bound zero i h = absurd (omega arith)
  smallest_bound (suc m) i h = go (smallest_bound m i) (last_or_before h)
    where
      go : (i < m → smallest d f m ≤ f i) → (i ≡ m) ⊎ (i < m) → min (smallest d f m) (f m) ≤ f i
      go below (inl e) = omega (arith, ap f e)
      go below (inr l) = omega (arith, below l)

  -- the smallest is the start, or one of them
  pub smallest_met : (m : ℕ) → smallest d f m < d → (i : ℕ) × (i < m) × (f i ≡ smallest d f m)
  unfolding smallest
  smallest_met zero h = absurd (omega arith)
  smallest_met (suc m) h = go (smallest_met m) (dec_lt (f m) (smallest d f m))
    where
      go : (smallest d f m < d → (i : ℕ) × (i < m) × (f i ≡ smallest d f m)) → Dec (f m < smallest d f m)
          → (i : ℕ) × (i < suc m) × (f i ≡ min (smallest d f m) (f m))
      go below (yes l) = (m, omega arith, omega arith)
      go below (no n) = let r = below (omega arith) in (r.0, omega arith, omega (arith, r.2))

-- ---- first

module _ (p : ℕ → Bool) where
  pub first_le : (m : ℕ) → first p m ≤ m
  unfolding first
  first_le zero = zero-le
  first_le (suc m) = go (dec_lt (first p m) m) (true_or_false (p m))
    where
      go : Dec (first p m < m) → (p m ≡ true) ⊎ (p m ≡ false) → cond (ltb (first p m) m) (first p m) (cond (p m) m (suc m)) ≤ suc m
      go (yes l) t = rw (lt-ltb _ _ l) (omega arith)
      go (no n) (inl t) = rw (le-ltb (first p m) m (omega arith), t) (omega arith)
      go (no n) (inr t) = rw (le-ltb (first p m) m (omega arith), t) (omega arith)

  pub first_none : (m : ℕ) → ((j : ℕ) → j < m → p j ≡ false) → first p m ≡ m
  unfolding first
  first_none zero h = refl
  first_none (suc m) h =
      let e : first p m ≡ m = first_none m (λ j l. h j (omega arith)) in
      rw (le-ltb (first p m) m (omega arith), h m (omega arith))

  -- what passes after none before it did is the first
  pub first_is : (m i : ℕ) → i < m → ((j : ℕ) → j < i → p j ≡ false) → p i ≡ true → first p m ≡ i
  unfolding first
  first_is zero i l b t = absurd (omega arith)
  first_is (suc m) i l b t = go (λ h. first_is m i h b t) (last_or_before l)
    where
      go : (i < m → first p m ≡ i) → (i ≡ m) ⊎ (i < m) → cond (ltb (first p m) m) (first p m) (cond (p m) m (suc m)) ≡ i
      go below (inl e) =
          let n : first p m ≡ m = first_none m (λ j h. b j (omega arith)) in
          let t' : p m ≡ true = rw e at t in
          rw (le-ltb (first p m) m (omega arith), t') (sym e)
      go below (inr h) =
          let r : first p m ≡ i = below h in
          rw (lt-ltb (first p m) m (omega arith)) r

  -- none before it passes, and it passes or is the end
  pub first_at : (m i : ℕ) → i ≤ m → ((j : ℕ) → j < i → p j ≡ false) → (i < m → p i ≡ true) → first p m ≡ i
  first_at m i l b t = go (dec_lt i m)
    where
      go : Dec (i < m) → first p m ≡ i
      go (yes h) = first_is m i h b (t h)
      go (no n) = let e : i ≡ m = omega arith in first_none m (λ j h. b j (omega arith)) ∙ sym e

  -- none before the first passes
  pub first_before : (m j : ℕ) → j < first p m → p j ≡ false
  unfolding first
  first_before zero j h = absurd (omega arith)
  first_before (suc m) j h = go (first_before m j) (dec_lt (first p m) m) (true_or_false (p m))
    where
      go : (j < first p m → p j ≡ false) → Dec (first p m < m) → (p m ≡ true) ⊎ (p m ≡ false) → p j ≡ false
      go below (yes l) t = below (rw (lt-ltb _ _ l) at h)
      go below (no n) (inl t) =
          let h' : j < m = rw (le-ltb (first p m) m (omega arith), t) at h in
          below (omega (arith, first_le m))
      go below (no n) (inr t) =
          let h' : j < suc m = rw (le-ltb (first p m) m (omega arith), t) at h in
          last (last_or_before h')
        where
          last : (j ≡ m) ⊎ (j < m) → p j ≡ false
          last (inl e) = rw e t
          last (inr l) = below (omega (arith, first_le m))

  -- the first passes
  pub first_met : (m : ℕ) → first p m < m → p (first p m) ≡ true
  unfolding first
  first_met zero h = absurd (omega arith)
  first_met (suc m) h = go (first_met m) (dec_lt (first p m) m) (true_or_false (p m))
    where
      go : (first p m < m → p (first p m) ≡ true) → Dec (first p m < m) → (p m ≡ true) ⊎ (p m ≡ false)
          → p (cond (ltb (first p m) m) (first p m) (cond (p m) m (suc m))) ≡ true
      go below (yes l) t = rw (lt-ltb _ _ l) (below l)
      go below (no n) (inl t) = rw (le-ltb (first p m) m (omega arith), t) t
      go below (no n) (inr t) = absurd (let h' : suc m < suc m = rw (le-ltb (first p m) m (omega arith), t) at h in omega arith)

pub first_same : (p q : ℕ → Bool) (m : ℕ) → ((i : ℕ) → i < m → p i ≡ q i) → first p m ≡ first q m
unfolding first
first_same p q zero h = refl
first_same p q (suc m) h = rw (h m (omega arith), first_same p q m (λ i l. h i (omega arith)))

-- ---- some and every

module _ (p : ℕ → Bool) where
  pub some_yes : (m i : ℕ) → i < m → p i ≡ true → some p m ≡ true
  unfolding some
  some_yes zero i h t = absurd (omega arith)
  some_yes (suc m) i h t = go (λ l. some_yes m i l t) (last_or_before h)
    where
      go : (i < m → some p m ≡ true) → (i ≡ m) ⊎ (i < m) → (some p m || p m) ≡ true
      go below (inl e) = let t' : p m ≡ true = rw e at t in rw t' (or-true (some p m))
      go below (inr l) = rw (below l)

  pub some_find : (m : ℕ) → some p m ≡ true → (i : ℕ) × (i < m) × (p i ≡ true)
  unfolding some
  some_find zero h = absurd (not_both h refl)
  some_find (suc m) h = go (some_find m) (true_or_false (some p m)) (true_or_false (p m))
    where
      go : (some p m ≡ true → (i : ℕ) × (i < m) × (p i ≡ true)) → (some p m ≡ true) ⊎ (some p m ≡ false) → (p m ≡ true) ⊎ (p m ≡ false)
          → (i : ℕ) × (i < suc m) × (p i ≡ true)
      go below (inl s) t = let r = below s in (r.0, omega arith, r.2)
      go below (inr s) (inl t) = (m, omega arith, t)
      go below (inr s) (inr t) = absurd (not_both (rw (s, t) at h) refl)

  pub some_none : (m : ℕ) → ((i : ℕ) → i < m → p i ≡ false) → some p m ≡ false
  unfolding some
  some_none zero h = refl
  some_none (suc m) h = rw (some_none m (λ i l. h i (omega arith)), h m (omega arith))

  pub some_no : (m i : ℕ) → some p m ≡ false → i < m → p i ≡ false
  some_no m i h l = go (true_or_false (p i))
    where
      go : (p i ≡ true) ⊎ (p i ≡ false) → p i ≡ false
      go (inl t) = absurd (not_both (some_yes m i l t) h)
      go (inr f) = f

  pub every_all : (m : ℕ) → ((i : ℕ) → i < m → p i ≡ true) → every p m ≡ true
  unfolding every
  every_all zero h = refl
  every_all (suc m) h = rw (every_all m (λ i l. h i (omega arith)), h m (omega arith))

  pub every_one : (m i : ℕ) → every p m ≡ true → i < m → p i ≡ true
  unfolding every
  every_one zero i h l = absurd (omega arith)
  every_one (suc m) i h l = go (every_one m i) (true_or_false (every p m)) (last_or_before l)
    where
      go : (every p m ≡ true → i < m → p i ≡ true) → (every p m ≡ true) ⊎ (every p m ≡ false) → (i ≡ m) ⊎ (i < m) → p i ≡ true
      go below (inl s) (inl e) = rw e (let h' : p m ≡ true = rw s at h in h')
      go below (inl s) (inr l') = below s l'
      go below (inr s) w = absurd (not_both (rw s at h) refl)

  pub every-not : (m i : ℕ) → i < m → p i ≡ false → every p m ≡ false
  every-not m i l f = go (true_or_false (every p m))
    where
      go : (every p m ≡ true) ⊎ (every p m ≡ false) → every p m ≡ false
      go (inl t) = absurd (not_both (every_one m i t l) f)
      go (inr g) = g

  pub every-next : (m : ℕ) → every p (m + 1) ≡ (every p m && p m)
  unfolding every
  every-next m = rw add-one

pub some_same : (p q : ℕ → Bool) (m : ℕ) → ((i : ℕ) → i < m → p i ≡ q i) → some p m ≡ some q m
unfolding some
some_same p q zero h = refl
some_same p q (suc m) h = rw (h m (omega arith), some_same p q m (λ i l. h i (omega arith)))

pub every_same : (p q : ℕ → Bool) (m : ℕ) → ((i : ℕ) → i < m → p i ≡ q i) → every p m ≡ every q m
unfolding every
every_same p q zero h = refl
every_same p q (suc m) h = rw (h m (omega arith), every_same p q m (λ i l. h i (omega arith)))

-- ---- keep

length_kept : (b : Bool) (m : ℕ) → length (cond b (m ∷ []) []) ≡ bit1 b
length_kept true m = refl
length_kept false m = refl

module _ (p : ℕ → Bool) where
  pub length-keep : (m : ℕ) → length (keep p m) ≡ count p m
  unfolding keep count
  length-keep zero = refl
  length-keep (suc m) = rw (length-append, length-keep m, length_kept)

pub keep_same : (p q : ℕ → Bool) (m : ℕ) → ((i : ℕ) → i < m → p i ≡ q i) → keep p m ≡ keep q m
unfolding keep
keep_same p q zero h = refl
keep_same p q (suc m) h = rw (h m (omega arith), keep_same p q m (λ i l. h i (omega arith)))

-- the number that is kept after c others stands at place c
pub keep_at : (p : ℕ → Bool) (m i : ℕ) → i < m → p i ≡ true → get_or (keep p m) (count p i) 0 ≡ i
unfolding keep
keep_at p zero i l t = absurd (omega arith)
keep_at p (suc m) i l t = go (λ h. keep_at p m i h t) (last_or_before l)
  where
    go : (i < m → get_or (keep p m) (count p i) 0 ≡ i) → (i ≡ m) ⊎ (i < m) → get_or (keep p m ++ cond (p m) (m ∷ []) []) (count p i) 0 ≡ i
    go below (inl e) =
        let t' : p m ≡ true = rw e at t in
        rw (e, t', sym (length-keep p m), get_or-append_seam)
    go below (inr h) =
        get_or-append (keep p m) _ 0 (count p i) (rw length-keep (count_past p i m h t)) ∙ below h

-- what stands at place c of the kept numbers
pub record Kept (p : ℕ → Bool) (m c : ℕ) : Type 0 where
  pub number : ℕ
  pub below : number < m
  pub passes : p number ≡ true
  pub before : count p number ≡ c
  pub stands : get_or (keep p m) c 0 ≡ number

pub kept : (p : ℕ → Bool) (m c : ℕ) → c < length (keep p m) → Kept p m c
kept p m c h = go (count_find p m c (rw length-keep at h))
  where
    go : (i : ℕ) × (i < m) × (p i ≡ true) × (count p i ≡ c) → Kept p m c
    go r = record {
      number = r.0;
      below = r.1;
      passes = r.2;
      before = r.3;
      stands = subst (λ (x : ℕ). get_or (keep p m) x 0 ≡ r.0) r.3 (keep_at p m r.0 r.1 r.2);
    }

-- the kept numbers ascend, so each stands there once
pub keep_ascends : (p : ℕ → Bool) (m c d : ℕ) → c < d → d < length (keep p m) → get_or (keep p m) c 0 < get_or (keep p m) d 0
keep_ascends p m c d h l = go (kept p m c (omega arith)) (kept p m d l)
  where
    go : Kept p m c → Kept p m d → get_or (keep p m) c 0 < get_or (keep p m) d 0
    go r s = less (dec_lt r.number s.number)
      where
        less : Dec (r.number < s.number) → get_or (keep p m) c 0 < get_or (keep p m) d 0
        less (yes l) = rw (r.stands, s.stands) l
        less (no n) = absurd (omega (arith, count_up p s.number r.number (omega arith), r.before, s.before))

-- ---- tables and rows

module _ (f : ℕ → ℕ) where
  pub length-table : (m : ℕ) → length (table f m) ≡ m
  unfolding table
  length-table zero = refl
  length-table (suc m) = rw (length-append, length-table m) (add-one m)

  pub table-next : (m : ℕ) → table f (m + 1) ≡ table f m ++ (f m ∷ [])
  unfolding table
  table-next m = rw add-one

  pub get_or-table : (m i : ℕ) → i < m → get_or (table f m) i 0 ≡ f i
  unfolding table
  get_or-table zero i h = absurd (omega arith)
  get_or-table (suc m) i h = go (get_or-table m i) (last_or_before h)
    where
      go : (i < m → get_or (table f m) i 0 ≡ f i) → (i ≡ m) ⊎ (i < m) → get_or (table f m ++ (f m ∷ [])) i 0 ≡ f i
      go below (inl e) = rw (e, get_or_at (table f m) (f m) [] 0 m (length-table m))
      go below (inr l) = get_or-append (table f m) (f m ∷ []) 0 i (rw length-table l) ∙ below l

-- a list whose entries are those of f is its table
pub table_is : (f : ℕ → ℕ) (l : List ℕ) (m : ℕ) → length l ≡ m → ((i : ℕ) → i < m → get_or l i 0 ≡ f i) → l ≡ table f m
table_is f l m e h = ext_get_or 0 l (table f m) (e ∙ sym (length-table f m)) (λ i q. let l' : i < m = rw e at q in h i l' ∙ sym (get_or-table f m i l'))

pub table_same : (f g : ℕ → ℕ) (m : ℕ) → ((i : ℕ) → i < m → f i ≡ g i) → table f m ≡ table g m
unfolding table
table_same f g zero h = refl
table_same f g (suc m) h = rw (h m (omega arith), table_same f g m (λ i l. h i (omega arith)))

module _ (f : ℕ → ℕ → ℕ) (k : ℕ) where
  pub length-rows : (m : ℕ) → length (rows f m k) ≡ m * k
  unfolding rows
  length-rows zero = sym (native.Mathlib.Nat.zero-mul k)
  length-rows (suc m) = rw (length-append, length-rows m, length-table (f m) k, suc-mul)

  pub get_d_rows : (m i q : ℕ) → i < m → q < k → get_or (rows f m k) (i * k + q) 0 ≡ f i q
  unfolding rows
  get_d_rows zero i q h l = absurd (omega arith)
  get_d_rows (suc m) i q h l = go (λ h'. get_d_rows m i q h' l) (last_or_before h)
    where
      go : (i < m → get_or (rows f m k) (i * k + q) 0 ≡ f i q) → (i ≡ m) ⊎ (i < m) → get_or (rows f m k ++ table (f m) k) (i * k + q) 0 ≡ f i q
      go below (inl e) =
          rw (e, sym (length-rows m), get_or-append-add (rows f m k) (table (f m) k) q 0) (get_or-table (f m) k q l)
      go below (inr h') = get_or-append (rows f m k) (table (f m) k) 0 (i * k + q) (rw length-rows (digits_lt h' l)) ∙ below h'

pub rows_same : (f g : ℕ → ℕ → ℕ) (m k : ℕ) → ((i q : ℕ) → f i q ≡ g i q) → rows f m k ≡ rows g m k
unfolding rows
rows_same f g zero k h = refl
rows_same f g (suc m) k h = rw (rows_same f g m k h, table_same (f m) (g m) k (λ q l. h m q))

-- a list whose entry i * k + q is f i q is its rows
pub rows_is : (f : ℕ → ℕ → ℕ) (k m : ℕ) (l : List ℕ) → length l ≡ m * k
    → ((i q : ℕ) → i < m → q < k → get_or l (i * k + q) 0 ≡ f i q) → l ≡ rows f m k
rows_is f k m l e h = ext_get_or 0 l (rows f m k) (e ∙ sym (length-rows f k m)) at_each
  where
    at_each : (x : ℕ) → x < length l → get_or l x 0 ≡ get_or (rows f m k) x 0
    at_each x q = go (dec_lt 0 k)
      where
        go : Dec (0 < k) → get_or l x 0 ≡ get_or (rows f m k) x 0
        go (yes pos) =
            let d : x / k * k + x % k ≡ x = div-add-mod' x k in
            let r : x % k < k = mod-lt x pos in
            let i : x / k < m = (div-lt_iff_lt-mul pos).1 (rw e at q) in
            rw (sym d) (h (x / k) (x % k) i r ∙ sym (get_d_rows f k m (x / k) (x % k) i r))
        go (no z) = absurd (let k0 : k ≡ 0 = omega arith in let q' : x < m * 0 = rw (e, k0) at q in omega (arith, native.Mathlib.Nat.mul-zero m))

-- ---- what follows brings nothing

pub greatest_past : (f : ℕ → ℕ) (a m : ℕ) → a ≤ m → ((x : ℕ) → a ≤ x → x < m → f x ≡ 0) → greatest f m ≡ greatest f a
greatest_past f a m h z = le_antisymm (greatest_least f m (greatest f a) (λ x l. under x l (dec_lt x a))) (greatest_least f a (greatest f m) (λ x l. greatest_bound f m x (omega arith)))
  where
    under : (x : ℕ) → x < m → Dec (x < a) → f x ≤ greatest f a
    under x l (yes b) = greatest_bound f a x b
    under x l (no n) = omega (arith, z x (omega arith) l)

-- ---- a sum of which one term changes

pub sum_one : (f g : ℕ → ℕ) (m i b : ℕ) → i < m → g i ≡ f i + b → ((j : ℕ) → j < m → (j ≡ i → ⊥) → g j ≡ f j) → sum g m ≡ sum f m + b
unfolding sum
sum_one f g zero i b l e h = absurd (omega arith)
sum_one f g (suc m) i b l e h = go (λ w. sum_one f g m i b w e (λ j q. h j (omega arith))) (last_or_before l)
  where
    go : (i < m → sum g m ≡ sum f m + b) → (i ≡ m) ⊎ (i < m) → sum g m + g m ≡ sum f m + f m + b
    go below (inl s) =
        let r : sum g m ≡ sum f m = sum_same g f m (λ j q. h j (omega arith) (λ n. omega arith)) in
        omega (arith, ap f s, ap g s)
    go below (inr w) = omega (arith, below w, h m (omega arith) (λ n. omega arith))

-- ---- the units that pass

module _ (p : ℕ → Bool) where
  pub units_none : units_where p 0 ≡ []
  unfolding units_where keep
  units_none = refl

  pub units_next : (m : ℕ) → units_where p (m + 1) ≡ units_where p m ++ cond (p (m + 1)) ((m + 1) ∷ []) []
  unfolding units_where keep
  units_next m = rw (le-leb 1 (m + 1) (omega arith), add-one m)

  pub units_yes : (m : ℕ) → p (m + 1) ≡ true → units_where p (m + 1) ≡ units_where p m ++ ((m + 1) ∷ [])
  units_yes m h = units_next m ∙ rw h

  pub units_no : (m : ℕ) → p (m + 1) ≡ false → units_where p (m + 1) ≡ units_where p m
  units_no m h = units_next m ∙ rw h (append-nil (units_where p m))

  pub units_longer : (m : ℕ) → length (units_where p (m + 1)) ≡ length (units_where p m) + bit1 (p (m + 1))
  units_longer m = rw (units_next m, length-append, length_kept)

  pub units_up : (a b : ℕ) → a ≤ b → length (units_where p a) ≤ length (units_where p b)
  unfolding units_where
  units_up a b h =
      rw (length-keep (λ v. leb 1 v && p v) (suc a), length-keep (λ v. leb 1 v && p v) (suc b))
      (count_up (λ v. leb 1 v && p v) (suc a) (suc b) (omega arith))

  pub units_most : (m : ℕ) → length (units_where p m) ≤ m
  units_most zero = omega (arith, ap length units_none)
  units_most (suc m) =
      let l : length (units_where p (suc m)) ≡ length (units_where p m) + bit1 (p (m + 1)) = rw (sym (add-one m)) (units_longer m) in
      omega (arith, units_most m, bit1_le (p (m + 1)))

pub units_same : (p q : ℕ → Bool) (m : ℕ) → ((v : ℕ) → 1 ≤ v → v ≤ m → p v ≡ q v) → units_where p m ≡ units_where q m
unfolding units_where
units_same p q m h = keep_same (λ v. leb 1 v && p v) (λ v. leb 1 v && q v) (suc m) at_each
  where
    at_each : (v : ℕ) → v < suc m → (leb 1 v && p v) ≡ (leb 1 v && q v)
    at_each zero l = refl
    at_each (suc v) l = rw (h (suc v) (omega arith) (omega arith))

-- ---- a table that is filled from its start

module _ (f : ℕ → ℕ) (m : ℕ) where
  -- the first i entries are written, and 0 stands beyond
  abbrev pub table_to : ℕ → List ℕ
  table_to i = table (λ j. cond (ltb j i) (f j) 0) m

  pub table_to_none : replicate m 0 ≡ table_to 0
  table_to_none =
      table_is _ (replicate m 0) m (length-replicate m 0) (λ j l. get_or-replicate m j 0 0 l ∙ rw (le-ltb j 0 (omega arith)))

  pub table_to_next : (i : ℕ) → i < m → set (table_to i) i (f i) ≡ table_to (i + 1)
  table_to_next i l =
      table_is _ (set (table_to i) i (f i)) m (simp (length-set, length-table)) (λ j h. at_each j h (dec_lt j i) (dec_lt i j))
    where
      kept : (j : ℕ) → j < m → (j ≡ i → ⊥) → get_or (set (table_to i) i (f i)) j 0 ≡ cond (ltb j i) (f j) 0
      kept j h n = get_or-set_other (table_to i) i j (f i) 0 n ∙ get_or-table _ m j h

      at_each : (j : ℕ) → j < m → Dec (j < i) → Dec (i < j) → get_or (set (table_to i) i (f i)) j 0 ≡ cond (ltb j (i + 1)) (f j) 0
      at_each j h (yes b) a = kept j h (λ e. omega arith) ∙ rw (lt-ltb j i b, lt-ltb j (i + 1) (omega arith))
      at_each j h (no b) (yes a) =
          kept j h (λ e. omega arith) ∙ rw (le-ltb j i (omega arith), le-ltb j (i + 1) (omega arith))
      at_each j h (no b) (no a) =
          let e : j ≡ i = omega arith in
          rw (e, lt-ltb i (i + 1) (omega arith)) (get_or-set_same (table_to i) i (f i) 0 (rw length-table l))

-- ---- one more number

-- the count that a found number brings is the greater of what was found before and what is found there
pub some-bit : (p : ℕ → Bool) (m : ℕ) → bit1 (some p (m + 1)) ≡ max (bit1 (some p m)) (bit1 (p m))
unfolding some
some-bit p m = rw add-one (either (some p m) (p m))
  where
    either : (a b : Bool) → bit1 (a || b) ≡ max (bit1 a) (bit1 b)
    either true true = refl
    either true false = refl
    either false true = refl
    either false false = refl
