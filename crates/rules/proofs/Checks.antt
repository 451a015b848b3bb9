-- Checks as equivalences: a test that fails exactly in a case, the first bad number, one check after another. Each law says both directions.
-- Assumes nothing.
use Rattle.std.specs.Prelude.{Ok, Err}
use Prim.Native.Nat.{ℕ, ◌+◌, ◌-◌, ◌≤◌, ◌<◌, zero-le}
use mathlib.Core.Path.{◌≡◌, refl, sym, ap, ◌∙◌, subst}
use mathlib.Core.Bool.{Bool, true, false, ◌&&◌}
use mathlib.Core.Logic.{◌↔◌, ◌⊎◌, inl, inr}
use native.Mathlib.Omega.{arith}
use native.Mathlib.Nat.{add-zero}
use native.Mathlib.Decide.{dec_lt}
use lib.Dec.{leb, ltb, eqb}
use borrow.Author.Tests.{ltb-false, le-ltb, leb-false, lt-leb, eqb-false, ne_eqb}
use Rattle.rules.specs.declared.Refusal.{Refusal}
use Rattle.rules.specs.Refusals.{number_of, place_of, unless, ◌then◌, Verdict}
use Rattle.rules.specs.Ranges.{first}
use Rattle.rules.specs.Listing.{within, refuse_first}
use Rattle.rules.proofs.Ranges.{true_or_false, not_both, first_met, first_before}
use Rattle.rules.proofs.Verdicts.{and_no, no_and, not_no, refused_fine, then_fine, fine_then, refused_then, unless_fine, fine_unless, refused-unless, refuse_none, refuse_one, refuse_fine, refuse_at, refuse_end}

-- ---- words

-- P holds of no number
abbrev pub None : (ℕ → Type 0) → Type 0
None P = (i : ℕ) → P i → ⊥

-- i is the smallest number of which P holds
pub record Smallest (P : ℕ → Type 0) (i : ℕ) : Type 0 where
  pub holds : P i
  pub none_below : (j : ℕ) → j < i → P j → ⊥

-- x is not 1 to m
abbrev pub Off : ℕ → ℕ → Type 0
Off m x = (x < 1) ⊎ (m < x)

-- ---- tests that fail exactly in a case

abbrev pub Fails : Bool → Type 0 → Type 0
Fails b P = (b ≡ false) ↔ P

-- such a test passes exactly where the case does not hold
pub passes : {b : Bool} {P : Type 0} → Fails b P → (b ≡ true) ↔ (P → ⊥)
passes {b} f = (λ t p. not_both t (f.1 p), λ n. not_no b (λ e. n (f.0 e)))

pub leb_fails : (a b : ℕ) → Fails (leb a b) (b < a)
leb_fails a b = (leb-false a b, lt-leb a b)

pub ltb_fails : (a b : ℕ) → Fails (ltb a b) (b ≤ a)
ltb_fails a b = (ltb-false a b, le-ltb a b)

pub eqb_fails : (a b : ℕ) → Fails (eqb a b) (a ≡ b → ⊥)
eqb_fails a b = (eqb-false a b, ne_eqb a b)

pub and_fails : {a b : Bool} {A B : Type 0} → Fails a A → Fails b B → Fails (a && b) (A ⊎ B)
and_fails {a} {b} {A} {B} f g = (to a f, from)
  where
    to : (a : Bool) → Fails a A → (a && b) ≡ false → A ⊎ B
    to true f h = inr (g.0 h)
    to false f h = inl (f.0 refl)

    from : A ⊎ B → (a && b) ≡ false
    from (inl p) = no_and b (f.1 p)
    from (inr q) = and_no a (g.1 q)

pub sum_assoc : {A B C : Type 0} → ((A ⊎ B) ⊎ C) ↔ (A ⊎ B ⊎ C)
sum_assoc {A} {B} {C} = (to, from)
  where
    to : (A ⊎ B) ⊎ C → A ⊎ B ⊎ C
    to (inl (inl a)) = inl a
    to (inl (inr b)) = inr (inl b)
    to (inr c) = inr (inr c)

    from : A ⊎ B ⊎ C → (A ⊎ B) ⊎ C
    from (inl a) = inl (inl a)
    from (inr (inl b)) = inl (inr b)
    from (inr (inr c)) = inr c

pub within_fails : (m x : ℕ) → Fails (within 1 m x) (Off m x)
within_fails m x = and_fails (leb_fails 1 x) (leb_fails x m)

-- products as a theorem states them, from those that one check after another gives
pub flat3 : {A B C : Type 0} → (A × (B × C)) ↔ (A × B × C)
flat3 = (λ h. (h.0, h.1.0, h.1.1), λ h. (h.0, (h.1, h.2)))

pub flat4 : {A B C D : Type 0} → (A × (B × (C × D))) ↔ (A × B × C × D)
flat4 = (λ h. (h.0, h.1.0, h.1.1.0, h.1.1.1), λ h. (h.0, (h.1, (h.2, h.3))))

pub flat5 : {A B C D E : Type 0} → (A × (B × (C × (D × E)))) ↔ (A × B × C × D × E)
flat5 = (λ h. (h.0, h.1.0, h.1.1.0, h.1.1.1.0, h.1.1.1.1), λ h. (h.0, (h.1, (h.2, (h.3, h.4)))))

pub flat_left : {A B C : Type 0} → ((A × B) × C) ↔ (A × B × C)
flat_left = (λ h. (h.0.0, h.0.1, h.1), λ h. ((h.0, h.1), h.2))

-- ---- one check after another

-- the first refusal stands
pub then_refused : (a b : Verdict) (r : Refusal) → ((a then b) ≡ Err r) ↔ ((a ≡ Err r) ⊎ ((a ≡ Ok tt) × (b ≡ Err r)))
then_refused a b r = (to a, from)
  where
    to : (a : Verdict) → (a then b) ≡ Err r → (a ≡ Err r) ⊎ ((a ≡ Ok tt) × (b ≡ Err r))
    to (Ok _) h = inr (refl, h)
    to (Err s) h = inl h

    from : (a ≡ Err r) ⊎ ((a ≡ Ok tt) × (b ≡ Err r)) → (a then b) ≡ Err r
    from (inl h) = refused_then b h
    from (inr h) = fine_then b h.0 ∙ h.1

pub refused_same : {r s : Refusal} → ◌≡◌ {A = Verdict} (Err r) (Err s) → r ≡ s
refused_same h = cc

-- the refusal is not one of this check's
abbrev pub Never : Verdict → Refusal → Type 0
Never v r = v ≡ Err r → ⊥

module _ {a b : Verdict} {r : Refusal} where
  pub then_never : Never a r → Never b r → Never (a then b) r
  then_never m n h = go ((then_refused a b r).0 h)
    where
      go : (a ≡ Err r) ⊎ ((a ≡ Ok tt) × (b ≡ Err r)) → ⊥
      go (inl e) = m e
      go (inr e) = n e.1

  -- it comes from the first check
  pub here : {A : Type 0} → Never b r → (a ≡ Err r) ↔ A → ((a then b) ≡ Err r) ↔ A
  here {A} n i = (λ h. go ((then_refused a b r).0 h), λ x. refused_then b (i.1 x))
    where
      go : (a ≡ Err r) ⊎ ((a ≡ Ok tt) × (b ≡ Err r)) → A
      go (inl e) = i.0 e
      go (inr e) = absurd (n e.1)

  -- it comes from the second check, where the first refuses nothing
  pub after : {A B : Type 0} → Never a r → (a ≡ Ok tt) ↔ A → (a ≡ Ok tt → (b ≡ Err r) ↔ B) → ((a then b) ≡ Err r) ↔ (A × B)
  after {A} {B} n f i = (λ h. go ((then_refused a b r).0 h), λ x. fine_then b (f.1 x.0) ∙ (i (f.1 x.0)).1 x.1)
    where
      go : (a ≡ Err r) ⊎ ((a ≡ Ok tt) × (b ≡ Err r)) → A × B
      go (inl e) = absurd (n e)
      go (inr e) = (f.0 e.0, (i e.0).0 e.1)

-- neither refuses
pub both_fine : {a b : Verdict} {A B : Type 0} → (a ≡ Ok tt) ↔ A → (a ≡ Ok tt → (b ≡ Ok tt) ↔ B) → ((a then b) ≡ Ok tt) ↔ (A × B)
both_fine {a} {b} f g = (
  (λ h. let e = then_fine a b h in (f.0 e.0, (g e.0).0 e.1)),
  (λ x. fine_then b (f.1 x.0) ∙ (g (f.1 x.0)).1 x.1),
)

-- a check by one test
module _ {b : Bool} {P : Type 0} (R : Refusal) (f : Fails b P) where
  pub unless-refused : (r : Refusal) → (unless b R ≡ Err r) ↔ ((r ≡ R) × P)
  unless-refused r = (λ h. to (true_or_false b) h, λ x. refused-unless R (f.1 x.1) ∙ ap Err (sym x.0))
    where
      to : (b ≡ true) ⊎ (b ≡ false) → unless b R ≡ Err r → (r ≡ R) × P
      to (inl t) h = absurd (refused_fine (sym h ∙ fine_unless R t))
      to (inr e) h = (refused_same (sym h ∙ refused-unless R e), f.0 e)

  pub unless_at : (unless b R ≡ Err R) ↔ P
  unless_at = (λ h. ((unless-refused R).0 h).1, λ p. (unless-refused R).1 (refl, p))

  pub unless_clear : (unless b R ≡ Ok tt) ↔ (P → ⊥)
  unless_clear = (λ h. (passes f).0 (unless_fine b R h), λ n. fine_unless R ((passes f).1 n))

pub unless_never : (b : Bool) (R : Refusal) {r : Refusal} → (number_of R ≡ number_of r → ⊥) → Never (unless b R) r
unless_never true R n h = refused_fine (sym h)
unless_never false R n h = n (ap number_of (refused_same h))

-- a check for the first bad number, counted from 0 or from 1
module _ (bad : ℕ → Bool) (m start : ℕ) {R' : ℕ → Refusal} (R : ℕ → Refusal) (same : (i : ℕ) → R' i ≡ R (i + start)) where
  pub first_never : {r : Refusal} → ((i : ℕ) → number_of (R i) ≡ number_of r → ⊥) → Never (refuse_first bad m R') r
  first_never n h = go (dec_lt (first bad m) m)
    where
      go : Dec (first bad m < m) → ⊥
      go (yes l) = n (first bad m + start) (ap number_of (sym (same (first bad m)) ∙ refused_same (sym (refuse_at bad m R' (first bad m) refl l) ∙ h)))
      go (no l) = refused_fine (sym h ∙ refuse_end bad m R' (first bad m) refl (omega arith))

  module _ (P : ℕ → Type 0) (from : (u : ℕ) → P u → start ≤ u) (tells : (i : ℕ) → ((i < m) × (bad i ≡ true)) ↔ P (i + start)) where
    -- what holds of a number is what the test tells of its place
    pub at_place : (u : ℕ) → P u → (u - start < m) × (bad (u - start) ≡ true)
    at_place u p =
        let s = from u p in
        let e : u - start + start ≡ u = omega arith in
        (tells (u - start)).1 (rw e p)

    pub first_at : ((u : ℕ) → place_of (R u) ≡ u) → (u : ℕ) → (refuse_first bad m R' ≡ Err (R u)) ↔ Smallest P u
    first_at place u = (λ h. to h (dec_lt (first bad m) m), back)
      where
        found : first bad m < m → Smallest P (first bad m + start)
        found l = record {
          holds = (tells (first bad m)).0 (l, first_met bad m l);
          none_below = λ j b p. let s = from j p in not_both (at_place j p).1 (first_before bad m (j - start) (omega arith));
        }

        to : refuse_first bad m R' ≡ Err (R u) → Dec (first bad m < m) → Smallest P u
        to h (yes l) =
            let e : R (first bad m + start) ≡ R u = sym (same (first bad m)) ∙ refused_same (sym (refuse_at bad m R' (first bad m) refl l) ∙ h) in
            subst (Smallest P) (sym (place (first bad m + start)) ∙ ap place_of e ∙ place u) (found l)
        to h (no l) = absurd (refused_fine (sym h ∙ refuse_end bad m R' (first bad m) refl (omega arith)))

        back : Smallest P u → refuse_first bad m R' ≡ Err (R u)
        back s =
            let a = at_place u s.holds in
            let f = from u s.holds in
            let e : u - start + start ≡ u = omega arith in
            refuse_one bad m R' (u - start) a.0 (λ j l. before j l (true_or_false (bad j))) a.1 ∙ ap Err (same (u - start) ∙ ap R e)
          where
            before : (j : ℕ) → j < u - start → (bad j ≡ true) ⊎ (bad j ≡ false) → bad j ≡ false
            before j l (inl t) =
                let a = at_place u s.holds in
                absurd (s.none_below (j + start) (omega arith) ((tells j).0 (omega arith, t)))
            before j l (inr t) = t

    pub first_clear : (refuse_first bad m R' ≡ Ok tt) ↔ None P
    first_clear = (
      (λ h u p. let a = at_place u p in not_both a.1 (refuse_fine bad m R' h (u - start) a.0)),
      (λ n. refuse_none bad m R' (λ i l. clear n i l (true_or_false (bad i)))),
    )
      where
        clear : None P → (i : ℕ) → i < m → (bad i ≡ true) ⊎ (bad i ≡ false) → bad i ≡ false
        clear n i l (inl t) = absurd (n (i + start) ((tells i).0 (l, t)))
        clear n i l (inr t) = t

-- the same, of numbers counted from 0
module _ (bad : ℕ → Bool) (m : ℕ) (R : ℕ → Refusal) where
  pub zero_never : {r : Refusal} → ((i : ℕ) → number_of (R i) ≡ number_of r → ⊥) → Never (refuse_first bad m R) r
  zero_never = first_never bad m 0 R (λ i. ap R (sym (add-zero i)))

  module _ (P : ℕ → Type 0) (tells : (i : ℕ) → ((i < m) × (bad i ≡ true)) ↔ P i) where
    pub zero_at : ((i : ℕ) → place_of (R i) ≡ i) → (i : ℕ) → (refuse_first bad m R ≡ Err (R i)) ↔ Smallest P i
    zero_at = first_at bad m 0 R (λ i. ap R (sym (add-zero i))) P (λ i p. zero-le) (λ i. rw (add-zero i) (tells i))

    pub zero_clear : (refuse_first bad m R ≡ Ok tt) ↔ None P
    zero_clear = first_clear bad m 0 R (λ i. ap R (sym (add-zero i))) P (λ i p. zero-le) (λ i. rw (add-zero i) (tells i))
