-- Laws of a need list: its pairs in order, needs and direct steps by computation and by their words, and listings that say the same.
-- Only that each pair goes down is used of a list, unless a law says more.
-- Assumes nothing.
use Rattle.std.specs.Prelude.{Ok}
use Prim.Native.Nat.{ℕ, zero, suc, ◌+◌, ◌-◌, ◌≤◌, ◌<◌}
use mathlib.Core.Path.{◌≡◌, refl, sym, ap, ◌∙◌}
use mathlib.Core.Bool.{Bool, true, false, not, ◌&&◌, ◌||◌}
use mathlib.Core.List.{List}
use mathlib.Core.Logic.{◌⊎◌, inl, inr}
use native.Mathlib.Omega.{arith}
use native.Mathlib.Numerals.{add-one}
use native.Mathlib.Decide.{dec_lt}
use lib.Dec.{ltb, eqb}
use borrow.Author.Tests.{ltb-true, lt-ltb, eqb-true, eq-eqb, not-true, not-false}
use Rattle.rules.specs.declared.Refusal.TheVariants.{BadPair, PairOrder}
use Rattle.rules.specs.Ranges.{some}
use Rattle.rules.specs.Paths.{Path⁺, one, more}
use Rattle.rules.specs.Listing.{Listed, pairs, upper, lower, within, refuse_first, bad_units, bad_pair, units_above, out_of_order, pairs_verdict}
use Rattle.rules.specs.Order.{Needs, DirectStep, leads, needs, step}
use Rattle.rules.proofs.Ranges.{last_or_before, true_or_false, not_both, some_yes, some_find, some_none, some_no, some_same}
use Rattle.rules.proofs.Verdicts.{and_both, both_and, and_no, or_either, either_or, not_yes, same_test, within_is, is_within, then_fine, fine_then, refuse_none, refuse_fine}
use Rattle.rules.proofs.Paths.{path_join, path_down, direct_hop, path_directs, paths_cover}

-- ---- the pairs of a list

-- the pair (u, v) comes before the pair (u', v'): by u, then by v
abbrev pub Before : ℕ → ℕ → ℕ → ℕ → Type 0
Before u v u' v' = (u < u') ⊎ ((u ≡ u') × (v < v'))

-- pair i stands below pair j
abbrev pub Below : List ℕ → ℕ → ℕ → Type 0
Below l i j = Before (upper l i) (lower l i) (upper l j) (lower l j)

-- each pair stands below the next
abbrev pub Ordered : List ℕ → Type 0
Ordered l = (i : ℕ) → i + 1 < pairs l → Below l i (i + 1)

-- each pair goes down in number
abbrev pub Descending : List ℕ → Type 0
Descending l = (i : ℕ) → i < pairs l → lower l i < upper l i

-- a need list that refusals 4 and 5 let through, over the units 1 to n
pub record Pairs (n : ℕ) (l : List ℕ) : Type 0 where
  pub first_in : (i : ℕ) → i < pairs l → (1 ≤ upper l i) × (upper l i ≤ n)
  pub second_in : (i : ℕ) → i < pairs l → (1 ≤ lower l i) × (lower l i ≤ n)
  pub goes_down : Descending l
  pub ascends : Ordered l

-- what refusal 4 asks of pair i
abbrev Good : ℕ → List ℕ → ℕ → Type 0
Good n l i = ((1 ≤ upper l i) × (upper l i ≤ n)) × ((1 ≤ lower l i) × (lower l i ≤ n)) × (lower l i < upper l i)

good_pair : (n : ℕ) (l : List ℕ) (i : ℕ) → bad_pair n l i ≡ false → Good n l i
unfolding bad_pair bad_units
good_pair n l i h =
    let r = and_both (within 1 n (upper l i) && within 1 n (lower l i)) (ltb (lower l i) (upper l i)) (not-false _ h) in
    let s = and_both (within 1 n (upper l i)) (within 1 n (lower l i)) r.0 in
    (within_is 1 n (upper l i) s.0, within_is 1 n (lower l i) s.1, ltb-true (lower l i) (upper l i) r.1)

pair_good : (n : ℕ) (l : List ℕ) (i : ℕ) → Good n l i → bad_pair n l i ≡ false
unfolding bad_pair bad_units
pair_good n l i g =
    rw (is_within g.0.0 g.0.1, is_within g.1.0 g.1.1, lt-ltb (lower l i) (upper l i) g.2)

pub above_is : (l : List ℕ) (i j : ℕ) → units_above (upper l i) (lower l i) (upper l j) (lower l j) ≡ true → Below l j i
unfolding units_above
above_is l i j h = go (or_either _ _ h)
  where
    go : (ltb (upper l j) (upper l i) ≡ true) ⊎ ((eqb (upper l j) (upper l i) && ltb (lower l j) (lower l i)) ≡ true) → Below l j i
    go (inl t) = inl (ltb-true _ _ t)
    go (inr t) = let r = and_both _ _ t in inr (eqb-true _ _ r.0, ltb-true _ _ r.1)

pub is_above : (l : List ℕ) (i j : ℕ) → Below l j i → units_above (upper l i) (lower l i) (upper l j) (lower l j) ≡ true
unfolding units_above
is_above l i j (inl t) = either_or (inl (lt-ltb _ _ t))
is_above l i j (inr t) =
    either_or {a = ltb (upper l j) (upper l i)} (inr (both_and (eq-eqb _ _ t.0) (lt-ltb _ _ t.1)))

in_order : (l : List ℕ) (i : ℕ) → out_of_order l (i + 1) ≡ false → Below l i (i + 1)
unfolding out_of_order
in_order l i h =
    let h' : not (units_above (upper l (i + 1)) (lower l (i + 1)) (upper l (i + 1 - 1)) (lower l (i + 1 - 1))) ≡ false = rw (lt-ltb 0 (i + 1) (omega arith)) at h in
    let e : i + 1 - 1 ≡ i = omega arith in
    above_is l (i + 1) i (rw e at (not-false (units_above (upper l (i + 1)) (lower l (i + 1)) (upper l (i + 1 - 1)) (lower l (i + 1 - 1))) h'))

order_in : (l : List ℕ) → Ordered l → (i : ℕ) → i < pairs l → out_of_order l i ≡ false
unfolding out_of_order
order_in l h zero q = refl
order_in l h (suc i) q =
    let e : suc i - 1 ≡ i = omega arith in
    let b : Below l i (suc i) = rw (add-one i) at (h i (omega arith)) in
    rw (e, is_above l (suc i) i b) (and_no (ltb 0 (suc i)) refl)

module _ (n : ℕ) (l : List ℕ) where
  pub pairs_fine : pairs_verdict n l ≡ Ok tt → Pairs n l
  unfolding pairs_verdict
  pairs_fine h = record {
    first_in = λ i q. (good i q).0;
    second_in = λ i q. (good i q).1;
    goes_down = λ i q. (good i q).2;
    ascends = λ i q. in_order l i (refuse_fine (out_of_order l) (pairs l) PairOrder both.1 (i + 1) q);
  }
    where
      both : (refuse_first (bad_pair n l) (pairs l) BadPair ≡ Ok tt) × (refuse_first (out_of_order l) (pairs l) PairOrder ≡ Ok tt)
      both = then_fine _ _ h

      good : (i : ℕ) → i < pairs l → Good n l i
      good i q = good_pair n l i (refuse_fine (bad_pair n l) (pairs l) BadPair both.0 i q)

  pub fine_pairs : Pairs n l → pairs_verdict n l ≡ Ok tt
  unfolding pairs_verdict
  fine_pairs c =
      fine_then _
      (refuse_none (bad_pair n l) (pairs l) BadPair
      (λ i q. pair_good n l i (c.first_in i q, c.second_in i q, c.goes_down i q)))
      ∙ refuse_none (out_of_order l) (pairs l) PairOrder (order_in l c.ascends)

-- ---- the order of the pairs

pub before_trans : {u v u' v' u'' v'' : ℕ} → Before u v u' v' → Before u' v' u'' v'' → Before u v u'' v''
before_trans (inl a) (inl b) = inl (omega arith)
before_trans (inl a) (inr b) = inl (omega arith)
before_trans (inr a) (inl b) = inl (omega arith)
before_trans (inr a) (inr b) = inr (omega arith, omega arith)

pub before_not : {u v u' v' : ℕ} → u ≡ u' → v ≡ v' → Before u v u' v' → ⊥
before_not e f (inl a) = omega arith
before_not e f (inr a) = omega arith

module _ (l : List ℕ) (ordered : Ordered l) where
  pub ascends_far : (i j : ℕ) → i < j → j < pairs l → Below l i j
  ascends_far i zero h q = absurd (omega arith)
  ascends_far i (suc j) h q = go (ascends_far i j) (last_or_before h)
    where
      next : Below l j (suc j)
      next = rw (add-one j) at (ordered j (omega arith))

      go : (i < j → j < pairs l → Below l i j) → (i ≡ j) ⊎ (i < j) → Below l i (suc j)
      go before (inl e) = rw e next
      go before (inr b) = before_trans (before b (omega arith)) next

  -- a pair that comes before another stands at a place before its place
  pub listed_order : {u v u' v' : ℕ} (a : Listed l u v) (b : Listed l u' v') → Before u v u' v' → a.at < b.at
  listed_order {u} {v} {u'} {v'} a b h = go (dec_lt a.at b.at) (dec_lt b.at a.at)
    where
      back : b.at < a.at → Before u' v' u v
      back q =
          rw (b.first_is, b.second_is, a.first_is, a.second_is) at (ascends_far b.at a.at q a.within)

      go : Dec (a.at < b.at) → Dec (b.at < a.at) → a.at < b.at
      go (yes q) d = q
      go (no n) (yes q) = absurd (before_not refl refl (before_trans h (back q)))
      go (no n) (no m) =
          let e : a.at ≡ b.at = omega arith in
          absurd
          (before_not (sym a.first_is ∙ ap (upper l) e ∙ b.first_is) (sym a.second_is ∙ ap (lower l) e ∙ b.second_is) h)

-- a list in order whose pairs are all listed in another in order has no more pairs
pub pairs_most : (l m : List ℕ) → Ordered l → Ordered m
    → ((i : ℕ) → i < pairs l → Listed m (upper l i) (lower l i)) → pairs l ≤ pairs m
pairs_most l m p q each = go (dec_lt 0 (pairs l))
  where
    far : (i : ℕ) (b : i < pairs l) → i ≤ (each i b).at
    far zero b = omega arith
    far (suc i) b =
        let a : i < pairs l = omega arith in
        let s : Below l i (suc i) = rw (add-one i) at (p i (omega arith)) in
        omega (arith, far i a, listed_order m q (each i a) (each (suc i) b) s)

    go : Dec (0 < pairs l) → pairs l ≤ pairs m
    go (yes b) =
        let last : pairs l - 1 < pairs l = omega arith in
        omega (arith, far (pairs l - 1) last, (each (pairs l - 1) last).within)
    go (no n) = omega arith

-- ---- needs, by computation and by paths

pub listed_at : (l : List ℕ) (i : ℕ) → i < pairs l → Listed l (upper l i) (lower l i)
listed_at l i q = record { at = i; within = q; first_is = refl; second_is = refl }

then_and : (a b : Bool) → elim a [ true ↦ b | false ↦ false ] ≡ (a && b)
then_and true b = refl
then_and false b = refl

-- pair i leads from u to v, at once or by so many hops more
abbrev leads_by : List ℕ → ℕ → ℕ → ℕ → ℕ → Bool
leads_by l hops u v i = eqb (upper l i) u && (eqb (lower l i) v || leads l hops (lower l i) v)

leads-suc : (l : List ℕ) (hops u v : ℕ) → leads l (suc hops) u v ≡ some (leads_by l hops u v) (pairs l)
unfolding leads
leads-suc l hops u v = some_same _ (leads_by l hops u v) (pairs l) (λ i q. then_and (eqb (upper l i) u) _)

leads_path : (l : List ℕ) (hops u v : ℕ) → leads l hops u v ≡ true → Needs l u v
unfolding leads
leads_path l zero u v h = absurd (not_both h refl)
leads_path l (suc hops) u v h =
    go (leads_path l hops) (some_find (leads_by l hops u v) (pairs l) (sym (leads-suc l hops u v) ∙ h))
  where
    go : ((u v : ℕ) → leads l hops u v ≡ true → Needs l u v) → (i : ℕ) × (i < pairs l) × (leads_by l hops u v i ≡ true) → Needs l u v
    go onward (i, q, t) = on (and_both _ _ t)
      where
        on : (eqb (upper l i) u ≡ true) × ((eqb (lower l i) v || leads l hops (lower l i) v) ≡ true) → Needs l u v
        on (a, b) = last (or_either _ _ b)
          where
            hop : Listed l u (lower l i)
            hop = record { at = i; within = q; first_is = eqb-true _ _ a; second_is = refl }

            last : (eqb (lower l i) v ≡ true) ⊎ (leads l hops (lower l i) v ≡ true) → Needs l u v
            last (inl e) = one (rw (eqb-true (lower l i) v e) at hop)
            last (inr s) = more hop (onward (lower l i) v s)

pub needs_path : {l : List ℕ} {u v : ℕ} → needs l u v ≡ true → Needs l u v
unfolding needs
needs_path {l} {u} {v} h = leads_path l u u v h

-- a direct step is a listed pair
pub steps_listed : {l : List ℕ} {u v : ℕ} → DirectStep l u v → Listed l u v
steps_listed d = direct_hop d

module _ (l : List ℕ) (down : Descending l) where
  pub listed_down : (u v : ℕ) → Listed l u v → v < u
  listed_down u v h = omega (arith, down h.at h.within, h.first_is, h.second_is)

  leads_by_lem : (hops u w v : ℕ) → Listed l u w → (w ≡ v) ⊎ (leads l hops w v ≡ true) → leads l (suc hops) u v ≡ true
  leads_by_lem hops u w v h on =
      leads-suc l hops u v
      ∙ some_yes (leads_by l hops u v) (pairs l) h.at h.within (both_and (eq-eqb _ _ h.first_is) (onward on))
    where
      onward : (w ≡ v) ⊎ (leads l hops w v ≡ true) → (eqb (lower l h.at) v || leads l hops (lower l h.at) v) ≡ true
      onward (inl e) = either_or (inl (eq-eqb _ _ (h.second_is ∙ e)))
      onward (inr t) = either_or {a = eqb (lower l h.at) v} (inr (rw h.second_is t))

  -- a path from u has at most u hops
  path_leads : (hops : ℕ) {u v : ℕ} → u ≤ hops → Needs l u v → leads l hops u v ≡ true
  path_leads zero {u} q (one {v = v} h) = absurd (omega (arith, listed_down u v h))
  path_leads zero {u} q (more {w = w} h p) = absurd (omega (arith, listed_down u w h))
  path_leads (suc hops) {u} q (one {v = v} h) = leads_by_lem hops u v v h (inl refl)
  path_leads (suc hops) {u} q (more {w = w} {v = v} h p) =
      leads_by_lem hops u w v h (inr (path_leads hops (omega (arith, listed_down u w h)) p))

  pub path_needs : {u v : ℕ} → Needs l u v → needs l u v ≡ true
  unfolding needs
  path_needs {u} {v} p = path_leads u (omega arith) p

  pub needs_dec : (u v : ℕ) → Dec (Needs l u v)
  needs_dec u v = go (true_or_false (needs l u v))
    where
      go : (needs l u v ≡ true) ⊎ (needs l u v ≡ false) → Dec (Needs l u v)
      go (inl t) = yes (needs_path t)
      go (inr f) = no (λ p. not_both (path_needs p) f)

  pub needs_down : (u v : ℕ) → needs l u v ≡ true → v < u
  needs_down u v h = path_down listed_down (needs_path h)

  pub needs_up : (u v : ℕ) → u ≤ v → needs l u v ≡ false
  needs_up u v q = not_yes (needs l u v) (λ h. omega (arith, needs_down u v h))

  pub needs_irreflexive : (u : ℕ) → needs l u u ≡ false
  needs_irreflexive u = needs_up u u (omega arith)

  pub needs_trans : (u w v : ℕ) → needs l u w ≡ true → needs l w v ≡ true → needs l u v ≡ true
  needs_trans u w v h k = path_needs (path_join (needs_path h) (needs_path k))

  -- u needs v by a listed pair of u, and exactly then
  pub needs-first : (u v : ℕ) → needs l u v ≡ true → (w : ℕ) × Listed l u w × ((w ≡ v) ⊎ (needs l w v ≡ true))
  needs-first u v h = go (needs_path h)
    where
      go : {v' : ℕ} → Needs l u v' → (w : ℕ) × Listed l u w × ((w ≡ v') ⊎ (needs l w v' ≡ true))
      go (one {v = w} h) = (w, h, inl refl)
      go (more {w = w} h p) = (w, h, inr (path_needs p))

  pub needs_more : (u w v : ℕ) → Listed l u w → (w ≡ v) ⊎ (needs l w v ≡ true) → needs l u v ≡ true
  needs_more u w v h (inl e) = path_needs (one (rw e at h))
  needs_more u w v h (inr t) = path_needs (more h (needs_path t))

  -- ---- direct steps, by computation and by their words

  pub step_direct : {u v : ℕ} → step l u v ≡ true → DirectStep l u v
  unfolding step
  step_direct {u} {v} h = record { path = needs_path r.0; alone = alone }
    where
      between : ℕ → Bool
      between w = needs l u w && needs l w v

      r : (needs l u v ≡ true) × (not (some between u) ≡ true)
      r = and_both _ _ h

      alone : (w : ℕ) → Needs l u w → Needs l w v → ⊥
      alone w p q =
          not_both
          (both_and (path_needs p) (path_needs q))
          (some_no between u w (not-true _ r.1) (path_down listed_down p))

  pub direct_step : {u v : ℕ} → DirectStep l u v → step l u v ≡ true
  unfolding step
  direct_step {u} {v} d =
      let none : some (λ w. needs l u w && needs l w v) u ≡ false = some_none (λ w. needs l u w && needs l w v) u lone in
      rw (path_needs d.path, none)
    where
      lone : (w : ℕ) → w < u → (needs l u w && needs l w v) ≡ false
      lone w q =
          not_yes (needs l u w && needs l w v)
          (λ t. let r = and_both _ _ t in d.alone w (needs_path r.0) (needs_path r.1))

  -- every need is a path of direct steps
  pub needs_steps : {u v : ℕ} → Needs l u v → Path⁺ (DirectStep l) u v
  needs_steps p = path_directs listed_down needs_dec p

-- both units are 1 to n
module _ {n : ℕ} {l : List ℕ} (c : Pairs n l) where
  pub listed_in : {u v : ℕ} → Listed l u v → (1 ≤ v) × (v < u) × (u ≤ n)
  listed_in h =
      let a = c.first_in h.at h.within in
      let b = c.second_in h.at h.within in
      omega (arith, c.goes_down h.at h.within, h.first_is, h.second_is)

  pub needs_in : {u v : ℕ} → Needs l u v → (1 ≤ v) × (v < u) × (u ≤ n)
  needs_in (one h) = listed_in h
  needs_in (more h p) = omega (arith, listed_in h, needs_in p)

-- ---- two lists

-- the same needs give the same direct steps
pub steps_same : (l m : List ℕ) → ((u v : ℕ) → needs l u v ≡ needs m u v) → (u v : ℕ) → step l u v ≡ step m u v
unfolding step
steps_same l m h u v =
    rw (h u v, some_same (λ w. needs l u w && needs l w v) (λ w. needs m u w && needs m w v) u (λ w q. rw (h u w, h w v)))

module _ (l m : List ℕ) (down-l : Descending l) (down-m : Descending m) where
  -- a list with all direct steps of another has all its needs
  needs_cover : ((u v : ℕ) → step l u v ≡ true → step m u v ≡ true) → (u v : ℕ) → needs l u v ≡ true → needs m u v ≡ true
  needs_cover h u v t =
      path_needs m down-m (paths_cover (listed_down l down-l) (needs_dec l down-l) each (needs_path t))
    where
      each : (u v : ℕ) → DirectStep l u v → Needs m u v
      each u v d = (step_direct m down-m (h u v (direct_step l down-l d))).path

-- the same direct steps give the same needs
pub needs_same : (l m : List ℕ) → Descending l → Descending m
    → ((u v : ℕ) → step l u v ≡ step m u v) → (u v : ℕ) → needs l u v ≡ needs m u v
needs_same l m down-l down-m h u v =
    same_test (needs l u v) (needs m u v)
    (needs_cover l m down-l down-m (λ u v t. sym (h u v) ∙ t) u v)
    (needs_cover m l down-m down-l (λ u v t. h u v ∙ t) u v)

-- over more units the same pairs are let through
pub pairs_wider : {n m : ℕ} {l : List ℕ} → n ≤ m → Pairs n l → Pairs m l
pairs_wider h c = record {
  first_in = λ i q. omega (arith, c.first_in i q);
  second_in = λ i q. omega (arith, c.second_in i q);
  goes_down = c.goes_down;
  ascends = c.ascends;
}
