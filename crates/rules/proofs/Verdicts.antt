-- Laws of Boolean tests as facts, and of checks that follow one another: which refusal stands, and what one says that refuses nothing.
-- Assumes nothing.
use Rattle.std.specs.Prelude.{Ok, Err}
use Prim.Native.Nat.{ℕ, ◌≤◌, ◌<◌}
use mathlib.Core.Path.{◌≡◌, refl, sym}
use mathlib.Core.Bool.{Bool, true, false, ◌&&◌, ◌||◌, or-true}
use mathlib.Core.Logic.{◌⊎◌, inl, inr}
use native.Mathlib.Omega.{arith}
use native.Mathlib.Decide.{dec_lt}
use lib.Dec.{leb}
use borrow.Author.Tests.{lt-ltb, le-ltb, le-leb, lt-leb, leb-true}
use Rattle.rules.specs.declared.Refusal.{Refusal}
use Rattle.rules.specs.Refusals.{unless, ◌then◌, Verdict}
use Rattle.rules.specs.Ranges.{first}
use Rattle.rules.specs.Listing.{within, refuse_first}
use Rattle.rules.proofs.Ranges.{not_both, first_none, first_is, first_before}

-- ---- tests

pub and_both : (a b : Bool) → (a && b) ≡ true → (a ≡ true) × (b ≡ true)
and_both true b h = (refl, h)
and_both false b h = absurd (not_both h refl)

pub both_and : {a b : Bool} → a ≡ true → b ≡ true → (a && b) ≡ true
both_and p q = rw (p, q)

-- one side that fails is enough
pub no_and : {a : Bool} (b : Bool) → a ≡ false → (a && b) ≡ false
no_and b p = rw p

pub and_no : (a : Bool) {b : Bool} → b ≡ false → (a && b) ≡ false
and_no true q = q
and_no false q = refl

pub or_either : (a b : Bool) → (a || b) ≡ true → (a ≡ true) ⊎ (b ≡ true)
or_either true b h = inl refl
or_either false b h = inr h

pub either_or : {a b : Bool} → (a ≡ true) ⊎ (b ≡ true) → (a || b) ≡ true
either_or (inl p) = rw p
either_or {a} (inr q) = rw q (or-true a)

-- a test that cannot pass fails
pub not_yes : (b : Bool) → (b ≡ true → ⊥) → b ≡ false
not_yes true h = absurd (h refl)
not_yes false h = refl

-- a test that cannot fail passes
pub not_no : (b : Bool) → (b ≡ false → ⊥) → b ≡ true
not_no true h = refl
not_no false h = absurd (h refl)

-- two tests that pass alike are equal
pub same_test : (a b : Bool) → (a ≡ true → b ≡ true) → (b ≡ true → a ≡ true) → a ≡ b
same_test true b to from = sym (to refl)
same_test false true to from = from refl
same_test false false to from = refl

pub within_is : (a b x : ℕ) → within a b x ≡ true → (a ≤ x) × (x ≤ b)
within_is a b x h =
    let r = and_both (leb a x) (leb x b) h in
    (leb-true a x r.0, leb-true x b r.1)

pub is_within : {a b x : ℕ} → a ≤ x → x ≤ b → within a b x ≡ true
is_within {a} {b} {x} l h = both_and (le-leb a x l) (le-leb x b h)

pub not_within : (a b x : ℕ) → (x < a) ⊎ (b < x) → within a b x ≡ false
not_within a b x (inl l) = no_and (leb x b) (lt-leb a x l)
not_within a b x (inr l) = and_no (leb a x) (lt-leb x b l)

-- ---- one check after another

pub refused_fine : {r : Refusal} → ◌≡◌ {A = Verdict} (Err r) (Ok tt) → ⊥
refused_fine h = let z : ◌≡◌ {A = ℕ} 0 1 = cc in omega arith

pub then_fine : (a b : Verdict) → (a then b) ≡ Ok tt → (a ≡ Ok tt) × (b ≡ Ok tt)
then_fine (Ok _) b h = (refl, h)
then_fine (Err r) b h = absurd (refused_fine h)

pub fine_then : {a : Verdict} (b : Verdict) → a ≡ Ok tt → (a then b) ≡ b
fine_then b h = rw h

pub refused_then : {a : Verdict} (b : Verdict) {r : Refusal} → a ≡ Err r → (a then b) ≡ Err r
refused_then b h = rw h

pub unless_fine : (b : Bool) (r : Refusal) → unless b r ≡ Ok tt → b ≡ true
unless_fine true r h = refl
unless_fine false r h = absurd (refused_fine h)

pub fine_unless : {b : Bool} (r : Refusal) → b ≡ true → unless b r ≡ Ok tt
fine_unless r h = rw h

pub refused-unless : {b : Bool} (r : Refusal) → b ≡ false → unless b r ≡ Err r
refused-unless r h = rw h

-- ---- the first bad number

module _ (bad : ℕ → Bool) (m : ℕ) (refusal : ℕ → Refusal) where
  pub refuse_none : ((i : ℕ) → i < m → bad i ≡ false) → refuse_first bad m refusal ≡ Ok tt
  unfolding refuse_first
  refuse_none h = rw (le-ltb (first bad m) m (omega (arith, first_none bad m h)))

  pub refuse_one : (i : ℕ) → i < m → ((j : ℕ) → j < i → bad j ≡ false) → bad i ≡ true
      → refuse_first bad m refusal ≡ Err (refusal i)
  unfolding refuse_first
  refuse_one i l b t = rw (first_is bad m i l b t, lt-ltb i m l)

  pub refuse_fine : refuse_first bad m refusal ≡ Ok tt → (i : ℕ) → i < m → bad i ≡ false
  unfolding refuse_first
  refuse_fine h i l = go (dec_lt (first bad m) m)
    where
      go : Dec (first bad m < m) → bad i ≡ false
      go (yes f) = absurd (refused_fine (rw (lt-ltb (first bad m) m f) at h))
      go (no n) = first_before bad m i (omega arith)

  -- the same, of a number that is known to be the first
  pub refuse_at : (i : ℕ) → i ≡ first bad m → i < m → refuse_first bad m refusal ≡ Err (refusal i)
  unfolding refuse_first
  refuse_at i e l = rw (sym e, lt-ltb i m l)

  pub refuse_end : (i : ℕ) → i ≡ first bad m → m ≤ i → refuse_first bad m refusal ≡ Ok tt
  unfolding refuse_first
  refuse_end i e l = rw (sym e, le-ltb i m l)
