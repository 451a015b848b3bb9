-- Laws of lists of pairs that are put together: one after another, many in a row, and the pairs that pass a test.
-- Assumes nothing.
use Prim.Native.Nat.{ℕ, zero, suc, ◌+◌, ◌-◌, ◌*◌, ◌%◌, ◌≤◌, ◌<◌}
use mathlib.Core.Path.{◌≡◌, refl, sym, ap, ◌∙◌}
use mathlib.Core.Bool.{Bool, true, false, cond}
use mathlib.Core.List.{List, [], ◌∷◌, ◌++◌}
use mathlib.Core.Logic.{◌⊎◌, inl, inr}
use native.Mathlib.Omega.{arith}
use native.Mathlib.Decide.{dec_lt}
use lib.ListN.{length, length-append, get_or-append}
use lib.Seq.{get_or-append-add}
use Rattle.rules.specs.Ranges.{pairs_for, pairs_in}
use Rattle.rules.specs.Listing.{Listed, pairs, upper, lower}
use Rattle.rules.proofs.Ranges.{last_or_before}
use Rattle.rules.proofs.Needs.{Before, Ordered, listed_at}

-- ---- one list of pairs after another

-- a list of whole pairs
abbrev pub Even : List ℕ → Type 0
Even l = length l % 2 ≡ 0

module _ (a b : List ℕ) (even : Even a) where
  pub even_append : Even b → Even (a ++ b)
  even_append e = omega (arith, length-append a b)

  pub pairs-append : pairs (a ++ b) ≡ pairs a + pairs b
  pairs-append = omega (arith, length-append a b)

  pub upper-left : (i : ℕ) → i < pairs a → upper (a ++ b) i ≡ upper a i
  upper-left i q = get_or-append a b 0 (2 * i) (omega arith)

  pub lower-left : (i : ℕ) → i < pairs a → lower (a ++ b) i ≡ lower a i
  lower-left i q = get_or-append a b 0 (2 * i + 1) (omega arith)

  pub upper_right : (i : ℕ) → upper (a ++ b) (pairs a + i) ≡ upper b i
  upper_right i =
      let e : 2 * (pairs a + i) ≡ length a + 2 * i = omega arith in
      rw e (get_or-append-add a b (2 * i) 0)

  pub lower_right : (i : ℕ) → lower (a ++ b) (pairs a + i) ≡ lower b i
  lower_right i =
      let e : 2 * (pairs a + i) + 1 ≡ length a + (2 * i + 1) = omega arith in
      rw e (get_or-append-add a b (2 * i + 1) 0)

  pub listed-left : {u v : ℕ} → Listed a u v → Listed (a ++ b) u v
  listed-left h = record {
    at = h.at;
    within = omega (arith, pairs-append, h.within);
    first_is = upper-left h.at h.within ∙ h.first_is;
    second_is = lower-left h.at h.within ∙ h.second_is;
  }

  pub listed_right : {u v : ℕ} → Listed b u v → Listed (a ++ b) u v
  listed_right h = record {
    at = pairs a + h.at;
    within = omega (arith, pairs-append, h.within);
    first_is = upper_right h.at ∙ h.first_is;
    second_is = lower_right h.at ∙ h.second_is;
  }

  -- place i is one of the first list, or one of the second
  place_append : (i : ℕ) → i < pairs (a ++ b) → (i < pairs a) ⊎ ((j : ℕ) × (j < pairs b) × (i ≡ pairs a + j))
  place_append i q = go (dec_lt i (pairs a))
    where
      go : Dec (i < pairs a) → (i < pairs a) ⊎ ((j : ℕ) × (j < pairs b) × (i ≡ pairs a + j))
      go (yes l) = inl l
      go (no n) = inr (i - pairs a, omega (arith, pairs-append), omega arith)

  pub listed-append : {u v : ℕ} → Listed (a ++ b) u v → Listed a u v ⊎ Listed b u v
  listed-append {u} {v} h = go (place_append h.at h.within)
    where
      go : (h.at < pairs a) ⊎ ((j : ℕ) × (j < pairs b) × (h.at ≡ pairs a + j)) → Listed a u v ⊎ Listed b u v
      go (inl l) = inl (record {
        at = h.at;
        within = l;
        first_is = sym (upper-left h.at l) ∙ h.first_is;
        second_is = sym (lower-left h.at l) ∙ h.second_is;
      })
      go (inr (j, l, e)) = inr (record {
        at = j;
        within = l;
        first_is = sym (upper_right j) ∙ sym (ap (upper (a ++ b)) e) ∙ h.first_is;
        second_is = sym (lower_right j) ∙ sym (ap (lower (a ++ b)) e) ∙ h.second_is;
      })

  pub ordered_append : Ordered a → Ordered b
      → ((i j : ℕ) → i < pairs a → j < pairs b → Before (upper a i) (lower a i) (upper b j) (lower b j)) → Ordered (a ++ b)
  ordered_append p q across i h = go (place_append i (omega arith)) (place_append (i + 1) h)
    where
      go : (i < pairs a) ⊎ ((j : ℕ) × (j < pairs b) × (i ≡ pairs a + j))
          → (i + 1 < pairs a) ⊎ ((j : ℕ) × (j < pairs b) × (i + 1 ≡ pairs a + j))
          → Before (upper (a ++ b) i) (lower (a ++ b) i) (upper (a ++ b) (i + 1)) (lower (a ++ b) (i + 1))
      go (inl k) (inl l) = rw (upper-left i k, lower-left i k, upper-left (i + 1) l, lower-left (i + 1) l) (p i l)
      go (inl k) (inr (j, l, e)) = rw (e, upper-left i k, lower-left i k, upper_right j, lower_right j) (across i j k l)
      go (inr (j, k, e)) (inl l) = absurd (omega arith)
      go (inr (j, k, e)) (inr (j', l, e')) =
          let s : j' ≡ j + 1 = omega arith in
          rw (e', s, e, upper_right j, lower_right j, upper_right (j + 1), lower_right (j + 1)) (q j (omega arith))

-- ---- many lists, one after another

-- g m is f 0, f 1, .. f (m - 1), one after another
pub record Chain (f g : ℕ → List ℕ) : Type 0 where
  pub starts : g 0 ≡ []
  pub goes_on : (m : ℕ) → g (suc m) ≡ g m ++ f m

module _ {f g : ℕ → List ℕ} (c : Chain f g) (even : (i : ℕ) → Even (f i)) where
  pub chain_even : (m : ℕ) → Even (g m)
  chain_even zero = rw c.starts
  chain_even (suc m) = rw (c.goes_on m) (even_append (g m) (f m) (chain_even m) (even m))

  pub chain_listed : (m : ℕ) {u v : ℕ} → Listed (g m) u v → (i : ℕ) × (i < m) × Listed (f i) u v
  chain_listed zero h = absurd (let h' : Listed [] _ _ = rw c.starts at h in omega (arith, h'.within))
  chain_listed (suc m) {u} {v} h = go (chain_listed m) (listed-append (g m) (f m) (chain_even m) (rw (c.goes_on m) at h))
    where
      go : (Listed (g m) u v → (i : ℕ) × (i < m) × Listed (f i) u v) → Listed (g m) u v ⊎ Listed (f m) u v
          → (i : ℕ) × (i < suc m) × Listed (f i) u v
      go before (inl k) = let r = before k in (r.0, omega arith, r.2)
      go before (inr k) = (m, omega arith, k)

  pub listed_chain : (m i : ℕ) {u v : ℕ} → i < m → Listed (f i) u v → Listed (g m) u v
  listed_chain zero i q h = absurd (omega arith)
  listed_chain (suc m) i {u} {v} q h = rw (c.goes_on m) (go (listed_chain m i) (last_or_before q))
    where
      go : (i < m → Listed (f i) u v → Listed (g m) u v) → (i ≡ m) ⊎ (i < m) → Listed (g m ++ f m) u v
      go before (inl e) = listed_right (g m) (f m) (chain_even m) (rw e at h)
      go before (inr l) = listed-left (g m) (f m) (chain_even m) (before l h)

  -- lists in order, each wholly before the next ones
  pub chain_ordered : ((i : ℕ) → Ordered (f i))
      → ((i j u v u' v' : ℕ) → i < j → Listed (f i) u v → Listed (f j) u' v' → Before u v u' v') → (m : ℕ) → Ordered (g m)
  chain_ordered each apart zero = rw c.starts (λ i q. absurd (omega arith))
  chain_ordered each apart (suc m) =
      rw (c.goes_on m) (ordered_append (g m) (f m) (chain_even m) (chain_ordered each apart m) (each m) across)
    where
      across : (i j : ℕ) → i < pairs (g m) → j < pairs (f m)
          → Before (upper (g m) i) (lower (g m) i) (upper (f m) j) (lower (f m) j)
      across i j p q = let r = chain_listed m (listed_at (g m) i p) in apart r.0 m _ _ _ _ r.1 r.2 (listed_at (f m) j q)

-- ---- one pair, or none

abbrev pub pair_if : Bool → ℕ → ℕ → List ℕ
pair_if b u v = cond b (u ∷ v ∷ []) []

pub if_even : (b : Bool) (u v : ℕ) → Even (pair_if b u v)
if_even true u v = refl
if_even false u v = refl

pub if_listed : (b : Bool) (u v : ℕ) {u' v' : ℕ} → Listed (pair_if b u v) u' v' → (b ≡ true) × (u ≡ u') × (v ≡ v')
if_listed true u v h =
    let e : h.at ≡ 0 = omega (arith, h.within) in
    (refl, sym (ap (upper (u ∷ v ∷ [])) e) ∙ h.first_is, sym (ap (lower (u ∷ v ∷ [])) e) ∙ h.second_is)
if_listed false u v h = absurd (omega (arith, h.within))

pub listed_if : {b : Bool} (u v : ℕ) → b ≡ true → Listed (pair_if b u v) u v
listed_if u v t = rw t (listed_at (u ∷ v ∷ []) 0 (omega arith))

pub if_ordered : (b : Bool) (u v : ℕ) → Ordered (pair_if b u v)
if_ordered true u v i q = absurd (omega arith)
if_ordered false u v i q = absurd (omega arith)

-- ---- the pairs that pass

module _ (r : ℕ → ℕ → Bool) (u : ℕ) where
  for_chain : Chain (λ i. pair_if (r u (suc i)) u (suc i)) (pairs_for r u)
  unfolding pairs_for
  for_chain = record { starts = refl; goes_on = λ m. refl }

  for_each : (i : ℕ) → Even (pair_if (r u (suc i)) u (suc i))
  for_each i = if_even (r u (suc i)) u (suc i)

  pub for_even : (m : ℕ) → Even (pairs_for r u m)
  for_even = chain_even for_chain for_each

  pub for_listed : (m : ℕ) {u' v : ℕ} → Listed (pairs_for r u m) u' v → (r u' v ≡ true) × (u ≡ u') × (1 ≤ v) × (v ≤ m)
  for_listed m {u'} {v} h = go (chain_listed for_chain for_each m h)
    where
      go : (i : ℕ) × (i < m) × Listed (pair_if (r u (suc i)) u (suc i)) u' v → (r u' v ≡ true) × (u ≡ u') × (1 ≤ v) × (v ≤ m)
      go (i, q, k) =
          let (t, e, f) = if_listed (r u (suc i)) u (suc i) k in
          (rw (sym e, sym f) t, e, omega arith, omega arith)

  pub listed_for : (m v : ℕ) → 1 ≤ v → v ≤ m → r u v ≡ true → Listed (pairs_for r u m) u v
  listed_for m zero p q t = absurd (omega arith)
  listed_for m (suc v) p q t = listed_chain for_chain for_each m v q (listed_if u (suc v) t)

  pub for_ordered : (m : ℕ) → Ordered (pairs_for r u m)
  for_ordered = chain_ordered for_chain for_each (λ i. if_ordered (r u (suc i)) u (suc i)) apart
    where
      apart : (i j u₁ v₁ u₂ v₂ : ℕ) → i < j → Listed (pair_if (r u (suc i)) u (suc i)) u₁ v₁
          → Listed (pair_if (r u (suc j)) u (suc j)) u₂ v₂ → Before u₁ v₁ u₂ v₂
      apart i j u₁ v₁ u₂ v₂ q h k =
          let a = if_listed (r u (suc i)) u (suc i) h in
          let b = if_listed (r u (suc j)) u (suc j) k in
          inr (omega arith, omega arith)

-- a pair of units that passes, the first 1 to m and the second 1 to n
pub record Passes (r : ℕ → ℕ → Bool) (n m u v : ℕ) : Type 0 where
  pub passes : r u v ≡ true
  pub first_in : (1 ≤ u) × (u ≤ m)
  pub second_in : (1 ≤ v) × (v ≤ n)

module _ (r : ℕ → ℕ → Bool) (n : ℕ) where
  in_chain : Chain (λ i. pairs_for r (suc i) n) (pairs_in r n)
  unfolding pairs_in
  in_chain = record { starts = refl; goes_on = λ m. refl }

  in_each : (i : ℕ) → Even (pairs_for r (suc i) n)
  in_each i = for_even r (suc i) n

  pub in_even : (m : ℕ) → Even (pairs_in r n m)
  in_even = chain_even in_chain in_each

  pub in_listed : (m : ℕ) {u v : ℕ} → Listed (pairs_in r n m) u v → Passes r n m u v
  in_listed m {u} {v} h = go (chain_listed in_chain in_each m h)
    where
      go : (i : ℕ) × (i < m) × Listed (pairs_for r (suc i) n) u v → Passes r n m u v
      go (i, q, k) =
          let s = for_listed r (suc i) n k in
          record { passes = s.0; first_in = omega arith; second_in = omega arith }

  pub listed_passes : (m u v : ℕ) → Passes r n m u v → Listed (pairs_in r n m) u v
  listed_passes m zero v s = absurd (omega arith)
  listed_passes m (suc i) v s =
      listed_chain in_chain in_each m i (omega arith) (listed_for r (suc i) n v s.second_in.0 s.second_in.1 s.passes)

  pub in_ordered : (m : ℕ) → Ordered (pairs_in r n m)
  in_ordered = chain_ordered in_chain in_each (λ i. for_ordered r (suc i) n) apart
    where
      apart : (i j u v u' v' : ℕ) → i < j → Listed (pairs_for r (suc i) n) u v → Listed (pairs_for r (suc j) n) u' v' → Before u v u' v'
      apart i j u v u' v' q h k =
          let a = for_listed r (suc i) n h in
          let b = for_listed r (suc j) n k in
          inl (omega arith)
