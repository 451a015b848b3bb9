-- The stages of a need list in order, pair by pair. The last pair of a unit names its greatest listed need, and that is its highest direct
-- step: were w between them, a path from the unit to w would begin with a listed need as great as w. Assumes nothing.
use Rattle.std.specs.Prelude.{Ok}
use Prim.Native.Nat.{ℕ, zero, suc, ◌+◌, ◌-◌, ◌≤◌, ◌<◌, max}
use mathlib.Core.Path.{◌≡◌, refl, sym, ap, ◌∙◌}
use mathlib.Core.Bool.{true, false, cond}
use mathlib.Core.List.{List}
use mathlib.Core.Logic.{◌⊎◌, inl, inr}
use native.Mathlib.Omega.{arith}
use native.Mathlib.Decide.{dec_lt, ℕ_discrete}
use native.Mathlib.Numerals.{add-one}
use lib.ListN.{length, get_or, set, length-set}
use lib.Seq.{get_or-set_same, get_or-set_other}
use lib.Dec.{eqb}
use borrow.Author.Tests.{eq-eqb, ne_eqb}
use Rattle.rules.specs.Ranges.{greatest, table}
use Rattle.rules.specs.Paths.{one, more}
use Rattle.rules.specs.Listing.{Listing, Listed, pairs, upper, lower}
use Rattle.rules.specs.Order.{Needs, DirectStep, step, above, highest_step, stage, sound_verdict}
use Rattle.rules.specs.Index.{built_index}
use Rattle.rules.specs.Questions.{kind11, kind16}
use Rattle.rules.proofs.Ranges.{last_or_before, true_or_false, greatest_is, greatest_zero, length-table, get_or-table, table_is, table_same}
use Rattle.rules.proofs.Paths.{path_down}
use Rattle.rules.proofs.Needs.{Pairs, Below, ascends_far, listed_down, steps_listed, step_direct, direct_step}
use Rattle.rules.proofs.Accepted.{Accepted}
use Rattle.rules.proofs.Builts.{kind11_built}
use Rattle.rules.proofs.Stages.{above_unit, above_same, highest_most, stage-next, stage_agrees}
use Rattle.stages.specs.Stages.{stage_table}

-- the stages of a built index are those of its listing
stage_built : (c : Listing) → Accepted c → sound_verdict c ≡ Ok tt → (u : ℕ) → u ≤ c.n → kind16 (built_index c) u ≡ stage (step c.needs) u
stage_built c a sound = stage_agrees c.n (kind11 (built_index c)) (step c.needs) (kind11_built c a sound)

-- ---- by the first m pairs

-- the need that the last pair of u names, 0 where none begins with u
unfoldable last_need : List ℕ → ℕ → ℕ → ℕ
last_need l zero u = 0
last_need l (suc m) u = cond (eqb (upper l m) u) (lower l m) (last_need l m u)

-- the stage of u so far
unfoldable pub stage_by : List ℕ → ℕ → ℕ → ℕ
stage_by l zero u = 1
stage_by l (suc m) u = cond (eqb (upper l m) u) (suc (stage_by l m (lower l m))) (stage_by l m u)

stage_by_here : (l : List ℕ) (m u : ℕ) → upper l m ≡ u → stage_by l (suc m) u ≡ suc (stage_by l m (lower l m))
unfolding stage_by
stage_by_here l m u e = rw (eq-eqb (upper l m) u e)

stage_by_else : (l : List ℕ) (m u : ℕ) → (upper l m ≡ u → ⊥) → stage_by l (suc m) u ≡ stage_by l m u
unfolding stage_by
stage_by_else l m u n = rw (ne_eqb (upper l m) u n)

last_here : (l : List ℕ) (m u : ℕ) → upper l m ≡ u → last_need l (suc m) u ≡ lower l m
unfolding last_need
last_here l m u e = rw (eq-eqb (upper l m) u e)

last_else : (l : List ℕ) (m u : ℕ) → (upper l m ≡ u → ⊥) → last_need l (suc m) u ≡ last_need l m u
unfolding last_need
last_else l m u n = rw (ne_eqb (upper l m) u n)

-- a pair of u before pair m with this need
record LastAt (l : List ℕ) (m u v : ℕ) : Type 0 where
  at : ℕ
  before : at < m
  begins : upper l at ≡ u
  names : lower l at ≡ v

module _ {n : ℕ} {l : List ℕ} (p : Pairs n l) where
  last_at : (m u : ℕ) → 1 ≤ last_need l m u → LastAt l m u (last_need l m u)
  unfolding last_need
  last_at zero u h = absurd (omega arith)
  last_at (suc m) u h = go (ℕ_discrete (upper l m) u) (last_at m u)
    where
      go : Dec (upper l m ≡ u) → (1 ≤ last_need l m u → LastAt l m u (last_need l m u)) → LastAt l (suc m) u (last_need l (suc m) u)
      go (yes e) on = record { at = m; before = omega arith; begins = e; names = sym (last_here l m u e) }
      go (no d) on =
          let r = on (omega (arith, last_else l m u d)) in
          record { at = r.at; before = omega (arith, r.before); begins = r.begins; names = r.names ∙ sym (last_else l m u d) }

  last_most : (m u : ℕ) → m ≤ pairs l → (i : ℕ) → i < m → upper l i ≡ u → lower l i ≤ last_need l m u
  last_most zero u q i h b = absurd (omega arith)
  last_most (suc m) u q i h b = go (ℕ_discrete (upper l m) u) (last_or_before h) (last_most m u (omega arith) i)
    where
      later : upper l m ≡ u → Below l i m → lower l i ≤ last_need l (suc m) u
      later e (inl a) = absurd (omega arith)
      later e (inr a) = omega (arith, last_here l m u e)

      go : Dec (upper l m ≡ u) → (i ≡ m) ⊎ (i < m) → (i < m → upper l i ≡ u → lower l i ≤ last_need l m u) → lower l i ≤ last_need l (suc m) u
      go (yes e) (inl s) on = omega (arith, last_here l m u e, ap (lower l) s)
      go (yes e) (inr s) on = later e (ascends_far l p.ascends i m s (omega arith))
      go (no d) (inl s) on = absurd (d (sym (ap (upper l) s) ∙ b))
      go (no d) (inr s) on = omega (arith, on s b, last_else l m u d)

  -- the last need is a unit below every unit whose pairs come no sooner
  last_under : (m u : ℕ) → m < pairs l → 1 ≤ last_need l m u → last_need l m u < upper l m
  last_under m u q h = go (last_at m u h)
    where
      go : LastAt l m u (last_need l m u) → last_need l m u < upper l m
      go r = on (ascends_far l p.ascends r.at m r.before q)
        where
          on : Below l r.at m → last_need l m u < upper l m
          on (inl a) = omega (arith, r.names, p.goes_down r.at (omega (arith, r.before)))
          on (inr a) = omega (arith, r.names, p.goes_down r.at (omega (arith, r.before)))

  -- so far, too, each unit stands one above its last need
  stage_by_above : (m u : ℕ) → m ≤ pairs l → stage_by l m u ≡ above (stage_by l m) (last_need l m u)
  unfolding stage_by last_need
  stage_by_above zero u q = refl
  stage_by_above (suc m) u q = go (ℕ_discrete (upper l m) u) (stage_by_above m u (omega arith))
    where
      go : Dec (upper l m ≡ u) → stage_by l m u ≡ above (stage_by l m) (last_need l m u) → stage_by l (suc m) u ≡ above (stage_by l (suc m)) (last_need l (suc m) u)
      go (yes e) on =
          rw (eq-eqb (upper l m) u e)
          (sym (above_unit (stage_by l (suc m)) (lower l m) (p.second_in m (omega arith)).0 ∙ ap suc (stage_by_else l m (lower l m) (λ f. omega (arith, p.goes_down m (omega arith))))))
      go (no d) on =
          rw (ne_eqb (upper l m) u d)
          (on ∙ above_same (stage_by l m) (stage_by l (suc m)) (last_need l m u) (λ h. sym (stage_by_else l m (last_need l m u) (λ f. omega (arith, last_under m u (omega arith) h)))))

  -- a stage is at most its unit's number
  stage_by_most : (m u : ℕ) → m ≤ pairs l → stage_by l m u ≤ max 1 u
  unfolding stage_by
  stage_by_most zero u q = omega arith
  stage_by_most (suc m) u q = go (ℕ_discrete (upper l m) u) (stage_by_most m u (omega arith)) (stage_by_most m (lower l m) (omega arith))
    where
      go : Dec (upper l m ≡ u) → stage_by l m u ≤ max 1 u → stage_by l m (lower l m) ≤ max 1 (lower l m) → stage_by l (suc m) u ≤ max 1 u
      go (yes e) on low = omega (arith, stage_by_here l m u e, p.goes_down m (omega arith), p.second_in m (omega arith))
      go (no d) on low = omega (arith, stage_by_else l m u d)

  -- ---- by all pairs

  -- the last need is the highest direct step
  highest_last : (u : ℕ) → highest_step (step l) u ≡ last_need l (pairs l) u
  unfolding highest_step
  highest_last u = go (dec_lt 0 (last_need l (pairs l) u))
    where
      most : (v : ℕ) → Listed l u v → v ≤ last_need l (pairs l) u
      most v h = omega (arith, last_most (pairs l) u (omega arith) h.at h.within h.first_is, h.second_is)

      none_above : (v : ℕ) → cond (step l u v) v 0 ≤ last_need l (pairs l) u
      none_above v = tested (true_or_false (step l u v))
        where
          tested : (step l u v ≡ true) ⊎ (step l u v ≡ false) → cond (step l u v) v 0 ≤ last_need l (pairs l) u
          tested (inl t) = rw t (most v (steps_listed (step_direct l p.goes_down t)))
          tested (inr t) = rw t (omega arith)

      reaches : (w : ℕ) → Needs l u w → w ≤ last_need l (pairs l) u
      reaches w (one h) = most w h
      reaches w (more {w = x} h path) = omega (arith, most x h, path_down (listed_down l p.goes_down) path)

      is_direct : LastAt l (pairs l) u (last_need l (pairs l) u) → DirectStep l u (last_need l (pairs l) u)
      is_direct r =
          record {
            path = one (record { at = r.at; within = r.before; first_is = r.begins; second_is = r.names });
            alone = λ w to from. omega (arith, reaches w to, path_down (listed_down l p.goes_down) from);
          }

      go : Dec (0 < last_need l (pairs l) u) → greatest (λ v. cond (step l u v) v 0) u ≡ last_need l (pairs l) u
      go (yes h) =
          let d = is_direct (last_at (pairs l) u h) in
          greatest_is _ u (last_need l (pairs l) u) (last_need l (pairs l) u) (path_down (listed_down l p.goes_down) d.path) (rw (direct_step l p.goes_down d)) (λ v q. none_above v)
      go (no n) =
          let e : last_need l (pairs l) u ≡ 0 = omega arith in
          rw e (greatest_zero _ u (λ v q. omega (arith, none_above v)))

  stage_by_turns : (turns u : ℕ) → u ≤ turns → 1 ≤ u → stage_by l (pairs l) u ≡ stage (step l) u
  stage_by_turns zero u h q = absurd (omega arith)
  stage_by_turns (suc turns) u h q =
      stage_by_above (pairs l) u (omega arith)
      ∙ above_same (stage_by l (pairs l)) (stage (step l)) (last_need l (pairs l) u) (λ f. stage_by_turns turns (last_need l (pairs l) u) (omega (arith, highest_last u, highest_most (step l) u)) f)
      ∙ sym (stage-next (step l) u ∙ ap (above (stage (step l))) (highest_last u))

  stage_by_all : (u : ℕ) → 1 ≤ u → stage_by l (pairs l) u ≡ stage (step l) u
  stage_by_all u h = stage_by_turns u u (omega arith) h

-- ---- the table

abbrev pub stages_by : List ℕ → ℕ → ℕ → List ℕ
stages_by l m n = table (λ i. stage_by l m (i + 1)) n

pub stages_none : (l : List ℕ) (n : ℕ) {xs : List ℕ} → xs ≡ table (λ i. 1) n → xs ≡ stages_by l 0 (length xs)
unfolding stage_by
stages_none l n e = e ∙ rw (e, length-table (λ i. 1) n)

module _ {n : ℕ} {l : List ℕ} (p : Pairs n l) where
  -- no stage is above the count of units
  pub stages_few : (m : ℕ) → m ≤ pairs l → {xs : List ℕ} → xs ≡ stages_by l m n → (u : ℕ) → 1 ≤ u → u ≤ n → get_or xs (u - 1) 0 ≤ n
  stages_few m q e u from to =
      let f : u - 1 + 1 ≡ u = omega arith in
      rw e (omega (arith, get_or-table (λ i. stage_by l m (i + 1)) n (u - 1) (omega arith), ap (stage_by l m) f, stage_by_most p m u q))

  -- one pair more
  pub stages_next : (m : ℕ) → m < pairs l
      → {xs : List ℕ} {o : ℕ} → xs ≡ stages_by l m n → o ≡ n → set xs (upper l m - 1) (get_or xs (lower l m - 1) 0 + 1) ≡ stages_by l (m + 1) o
  stages_next m q e f = rw (e, f, add-one m) (table_is _ _ n (simp (length-set, length-table)) (λ i h. go i h (ℕ_discrete (upper l m) (i + 1))))
    where
      up : (1 ≤ upper l m) × (upper l m ≤ n)
      up = p.first_in m q

      new : ℕ
      new = get_or (stages_by l m n) (lower l m - 1) 0 + 1

      -- the entry of the pair's need
      read : get_or (stages_by l m n) (lower l m - 1) 0 ≡ stage_by l m (lower l m)
      read =
          let low = p.second_in m q in
          let e : lower l m - 1 + 1 ≡ lower l m = omega arith in
          get_or-table (λ i. stage_by l m (i + 1)) n (lower l m - 1) (omega arith) ∙ ap (stage_by l m) e

      made : (i : ℕ) → upper l m ≡ i + 1 → new ≡ stage_by l (suc m) (i + 1)
      made i e = omega (arith, read, stage_by_here l m (i + 1) e)

      go : (i : ℕ) → i < n → Dec (upper l m ≡ i + 1) → get_or (set (stages_by l m n) (upper l m - 1) new) i 0 ≡ stage_by l (suc m) (i + 1)
      go i h (yes e) =
          let f : upper l m - 1 ≡ i = omega arith in
          rw f (get_or-set_same (stages_by l m n) i new 0 (rw length-table h) ∙ made i e)
      go i h (no d) =
          get_or-set_other (stages_by l m n) (upper l m - 1) i new 0 (λ e. d (omega (arith, up)))
          ∙ get_or-table (λ i. stage_by l m (i + 1)) n i h
          ∙ sym (stage_by_else l m (i + 1) d)

  pub stages_all : {m : ℕ} {xs : List ℕ} → xs ≡ stages_by l m n → m ≡ pairs l → xs ≡ stage_table l n
  unfolding stage_table
  stages_all e f = e ∙ rw f (table_same _ _ n (λ i h. stage_by_all p (i + 1) (omega arith)))

pub length_stages : (l : List ℕ) (n : ℕ) → length (stage_table l n) ≡ n
unfolding stage_table
length_stages l n = length-table _ n

-- the stages of a built index are the table of its listing
pub stages_built : (c : Listing) → Accepted c → sound_verdict c ≡ Ok tt → table (λ i. kind16 (built_index c) (i + 1)) c.n ≡ stage_table c.needs c.n
unfolding stage_table
stages_built c a sound = table_same _ _ c.n (λ i h. stage_built c a sound (i + 1) (omega arith))
