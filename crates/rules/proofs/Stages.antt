-- Laws of the stage, by whatever tells the direct steps: the highest step has a smaller number, so u turns are as good as more, and the
-- stage is one above that of the highest step: document 01's stage. Tests that agree on the units give them the same stages. Assumes nothing.
use Prim.Native.Nat.{ℕ, zero, suc, ◌+◌, ◌-◌, ◌≤◌, ◌<◌, zero-le}
use mathlib.Core.Path.{◌≡◌, refl, sym, ap, ◌∙◌, subst}
use mathlib.Core.Bool.{Bool, true, false, cond}
use mathlib.Core.Logic.{◌↔◌, ◌⊎◌, inl, inr}
use native.Mathlib.Omega.{arith}
use native.Mathlib.Numerals.{add-one}
use native.Mathlib.Decide.{dec_lt}
use Rattle.rules.specs.Order.{above, highest_step, stage_in, stage, HighestStep, Stage, lowest, higher}
use Rattle.rules.proofs.Ranges.{true_or_false, greatest_least, greatest_bound, greatest_met, greatest_is, greatest_zero, greatest_same}

pub above_unit : (f : ℕ → ℕ) (v : ℕ) → 1 ≤ v → above f v ≡ suc (f v)
above_unit f zero h = absurd (omega arith)
above_unit f (suc v) h = refl

pub above_same : (f g : ℕ → ℕ) (v : ℕ) → (1 ≤ v → f v ≡ g v) → above f v ≡ above g v
above_same f g zero e = refl
above_same f g (suc v) e = ap suc (e (omega arith))

module _ (r : ℕ → ℕ → Bool) where
  pub highest_most : (u : ℕ) → highest_step r u ≤ u - 1
  unfolding highest_step
  highest_most u = greatest_least (λ v. cond (r u v) v 0) u (u - 1) (λ v l. at_most v l (r u v))
    where
      at_most : (v : ℕ) → v < u → (b : Bool) → cond b v 0 ≤ u - 1
      at_most v l true = omega arith
      at_most v l false = zero-le

  pub highest_under : (u : ℕ) → 1 ≤ u → highest_step r u < u
  highest_under u h = omega (arith, highest_most u)

  -- more turns than u change nothing
  stage_enough : (a b u : ℕ) → u ≤ a → u ≤ b → stage_in r a u ≡ stage_in r b u
  unfolding stage_in
  stage_enough zero zero u l m = refl
  stage_enough zero (suc b) u l m = let e : highest_step r u ≡ 0 = omega (arith, highest_most u) in rw e
  stage_enough (suc a) zero u l m = let e : highest_step r u ≡ 0 = omega (arith, highest_most u) in rw e
  stage_enough (suc a) (suc b) u l m =
      above_same (stage_in r a) (stage_in r b) (highest_step r u)
      (λ p. stage_enough a b (highest_step r u) (omega (arith, highest_most u)) (omega (arith, highest_most u)))

  -- 1 where there is no step, else one more than the stage of the highest
  pub stage-next : (u : ℕ) → stage r u ≡ above (stage r) (highest_step r u)
  unfolding stage stage_in
  stage-next u =
      stage_enough u (suc u) u (omega arith) (omega arith)
      ∙ above_same (stage_in r u) (stage r) (highest_step r u)
      (λ p. stage_enough u (highest_step r u) (highest_step r u) (omega (arith, highest_most u)) (omega arith))

-- ---- two tests of a direct step

none_either : (b : Bool) → cond b zero zero ≡ zero
none_either true = refl
none_either false = refl

-- tests that agree on the units 1 to n give them the same stages
module _ (n : ℕ) (r s : ℕ → ℕ → Bool) (agree : (u v : ℕ) → 1 ≤ u → u ≤ n → 1 ≤ v → v ≤ n → r u v ≡ s u v) where
  highest_agrees : (u : ℕ) → u ≤ n → highest_step r u ≡ highest_step s u
  unfolding highest_step
  highest_agrees u h = greatest_same _ _ u at_unit
    where
      at_unit : (v : ℕ) → v < u → cond (r u v) v 0 ≡ cond (s u v) v 0
      at_unit zero l = none_either (r u zero) ∙ sym (none_either (s u zero))
      at_unit (suc v) l = rw (agree u (suc v) (omega arith) h (omega arith) (omega arith))

  in_agrees : (turns u : ℕ) → u ≤ n → stage_in r turns u ≡ stage_in s turns u
  unfolding stage_in
  in_agrees zero u h = refl
  in_agrees (suc turns) u h =
      rw (highest_agrees u h)
      (above_same (stage_in r turns) (stage_in s turns) (highest_step s u) (λ p. in_agrees turns (highest_step s u) (omega (arith, highest_most s u))))

  pub stage_agrees : (u : ℕ) → u ≤ n → stage r u ≡ stage s u
  unfolding stage
  stage_agrees u h = in_agrees u u h

-- ---- document 01's stage, of a relation that the test tells

module _ (r : ℕ → ℕ → Bool) (Step : ℕ → ℕ → Type 0) (tells : (u v : ℕ) → (r u v ≡ true) ↔ Step u v) (unit : (u v : ℕ) → Step u v → 1 ≤ v) where
  -- a step stands among the numbers of which the highest is taken
  step_most : (u v : ℕ) → v < u → Step u v → v ≤ highest_step r u
  unfolding highest_step
  step_most u v l d =
      let e : cond (r u v) v 0 ≡ v = rw ((tells u v).1 d) in
      omega (arith, greatest_bound (λ w. cond (r u w) w 0) u v l)

  highest_none : (u : ℕ) → ((v : ℕ) → v < u → Step u v → ⊥) → highest_step r u ≡ 0
  unfolding highest_step
  highest_none u n = greatest_zero (λ v. cond (r u v) v 0) u (λ v l. at_test v l (true_or_false (r u v)))
    where
      at_test : (v : ℕ) → v < u → (r u v ≡ true) ⊎ (r u v ≡ false) → cond (r u v) v 0 ≡ 0
      at_test v l (inl t) = absurd (n v l ((tells u v).0 t))
      at_test v l (inr t) = rw t

  highest_is : (u v : ℕ) → HighestStep Step u v → highest_step r u ≡ v
  unfolding highest_step
  highest_is u v h = greatest_is (λ w. cond (r u w) w 0) u v v h.smaller (rw ((tells u v).1 h.direct)) (λ w l. at_test w l (true_or_false (r u w)))
    where
      at_test : (w : ℕ) → w < u → (r u w ≡ true) ⊎ (r u w ≡ false) → cond (r u w) w 0 ≤ v
      at_test w l (inl t) = rw t (h.none_higher w l ((tells u w).0 t))
      at_test w l (inr t) = rw t zero-le

  is_highest : (u : ℕ) → 0 < highest_step r u → HighestStep Step u (highest_step r u)
  unfolding highest_step
  is_highest u h = go (greatest_met (λ v. cond (r u v) v 0) u h)
    where
      go : (v : ℕ) × (v < u) × (cond (r u v) v 0 ≡ highest_step r u) → HighestStep Step u (highest_step r u)
      go m = at_test (true_or_false (r u m.0))
        where
          at_test : (r u m.0 ≡ true) ⊎ (r u m.0 ≡ false) → HighestStep Step u (highest_step r u)
          at_test (inl t) =
              let e : m.0 ≡ highest_step r u = rw t at m.2 in
              record {
                direct = subst (Step u) e ((tells u m.0).0 t);
                smaller = omega (arith, m.1);
                none_higher = step_most u;
              }
          at_test (inr t) = absurd (let z : 0 ≡ highest_step r u = rw t at m.2 in omega arith)

  stage_turns : (turns u : ℕ) → u ≤ turns → Stage Step u (stage r u)
  stage_turns zero u l = subst (Stage Step u) (sym (stage-next r u ∙ ap (above (stage r)) z)) (lowest (λ v m d. omega arith))
    where
      z : highest_step r u ≡ 0
      z = omega (arith, highest_most r u)
  stage_turns (suc turns) u l = go (dec_lt 0 (highest_step r u)) (stage_turns turns (highest_step r u) (omega (arith, highest_most r u)))
    where
      go : Dec (0 < highest_step r u) → Stage Step (highest_step r u) (stage r (highest_step r u)) → Stage Step u (stage r u)
      go (yes h) below =
          let e : stage r u ≡ stage r (highest_step r u) + 1 = stage-next r u ∙ above_unit (stage r) (highest_step r u) h ∙ sym (add-one _) in
          subst (Stage Step u) (sym e) (higher (is_highest u h) below)
      go (no n) below =
          let z : highest_step r u ≡ 0 = omega arith in
          subst (Stage Step u) (sym (stage-next r u ∙ ap (above (stage r)) z)) (lowest (λ v m d. omega (arith, step_most u v m d, unit u v d)))

  is_stage : {u s : ℕ} → Stage Step u s → stage r u ≡ s
  is_stage {u} (lowest none) = stage-next r u ∙ ap (above (stage r)) (highest_none u none)
  is_stage {u} (higher {v = v} h below) =
      stage-next r u ∙ ap (above (stage r)) (highest_is u v h) ∙ above_unit (stage r) v (unit u v h.direct) ∙ sym (add-one _) ∙ ap (λ (m : ℕ). m + 1) (is_stage below)

  pub stage_exactly : (u s : ℕ) → (stage r u ≡ s) ↔ Stage Step u s
  stage_exactly u s = (λ e. subst (Stage Step u) e (stage_turns u u (omega arith)), is_stage)
