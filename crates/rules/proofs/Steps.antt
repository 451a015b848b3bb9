-- Laws of the list of direct steps: it lists just them, passes refusals 4 and 5, has no more pairs than the list it came from, and says what that list says.
-- Assumes nothing.
use Prim.Native.Nat.{ℕ, ◌≤◌, ◌<◌}
use mathlib.Core.Path.{◌≡◌}
use mathlib.Core.Bool.{true}
use mathlib.Core.List.{List}
use native.Mathlib.Omega.{arith}
use Rattle.rules.specs.Ranges.{pairs_in}
use Rattle.rules.specs.Listing.{Listed, pairs, upper, lower}
use Rattle.rules.specs.Order.{DirectStep, needs, step, direct_steps}
use Rattle.rules.proofs.Verdicts.{same_test}
use Rattle.rules.proofs.Paths.{path_flat, path_map}
use Rattle.rules.proofs.Needs.{Pairs, pairs_most, listed_at, needs_path, path_needs, step_direct, direct_step, steps_listed, needs_steps, needs_in}
use Rattle.rules.proofs.Chains.{Even, Passes, in_even, in_listed, listed_passes, in_ordered}

pub steps_even : (l : List ℕ) (n : ℕ) → Even (direct_steps l n)
unfolding direct_steps
steps_even l n = in_even (step l) n n

module _ {n : ℕ} {l : List ℕ} (c : Pairs n l) where
  pub listed_steps : {u v : ℕ} → Listed (direct_steps l n) u v → DirectStep l u v
  unfolding direct_steps
  listed_steps h = step_direct l c.goes_down (in_listed (step l) n n h).passes

  pub steps_in : {u v : ℕ} → DirectStep l u v → Listed (direct_steps l n) u v
  unfolding direct_steps
  steps_in {u} {v} d =
      let b = needs_in c d.path in
      listed_passes (step l) n n u v
      (record { passes = direct_step l c.goes_down d; first_in = omega arith; second_in = omega arith })

  -- refusals 4 and 5 pass
  pub steps_pairs : Pairs n (direct_steps l n)
  unfolding direct_steps
  steps_pairs = record {
    first_in = λ i q. (passed i q).first_in;
    second_in = λ i q. (passed i q).second_in;
    goes_down = λ i q. omega (arith, needs_in c (step_direct l c.goes_down (passed i q).passes).path);
    ascends = in_ordered (step l) n n;
  }
    where
      passed : (i : ℕ) → i < pairs (pairs_in (step l) n n) → Passes (step l) n n (upper (pairs_in (step l) n n) i) (lower (pairs_in (step l) n n) i)
      passed i q = in_listed (step l) n n (listed_at (pairs_in (step l) n n) i q)

  pub steps_needs : (u v : ℕ) → needs (direct_steps l n) u v ≡ needs l u v
  steps_needs u v = same_test (needs (direct_steps l n) u v) (needs l u v) to from
    where
      to : needs (direct_steps l n) u v ≡ true → needs l u v ≡ true
      to t = path_needs l c.goes_down (path_flat (λ u v h. (listed_steps h).path) (needs_path t))

      from : needs l u v ≡ true → needs (direct_steps l n) u v ≡ true
      from t =
          path_needs (direct_steps l n) steps_pairs.goes_down
          (path_map (λ u v d. steps_in d) (needs_steps l c.goes_down (needs_path t)))

  -- no more pairs than the list itself
  pub steps_few : pairs (direct_steps l n) ≤ pairs l
  steps_few =
      pairs_most (direct_steps l n) l steps_pairs.ascends c.ascends
      (λ i q. steps_listed (listed_steps (listed_at (direct_steps l n) i q)))
