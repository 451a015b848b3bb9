-- What a listing says: needs, direct steps, the unit before, soundness, low, high and stage.
-- `Needs`, `DirectStep` and `Stage` are the words of document 01; `needs`, `step` and `stage` are the same as they compute.
use Rattle.rules.specs.Refusals.{Verdict}
use Rattle.std.specs.Prelude.{ℕ, zero, suc, ◌+◌, ◌-◌, ◌≤◌, ◌<◌, Bool, true, false, cond, not, ◌&&◌, ◌||◌, List, get_or, ltb, eqb}
use Rattle.rules.specs.declared.Refusal.TheVariants.{UnsoundTrack}
use Rattle.rules.specs.Ranges.{some, greatest, smallest, pairs_in}
use Rattle.rules.specs.Paths.{Path⁺, Direct}
use Rattle.rules.specs.Listing.{Listing, Listed, pairs, upper, lower, track, size, position, refuse_first}

-- u needs v: a path of one or more listed needs leads from u to v
abbrev pub Needs : List ℕ → ℕ → ℕ → Type 0
Needs l = Path⁺ (Listed l)

-- v is a direct step of u: u needs v, and no w exists with u needs w and w needs v
abbrev pub DirectStep : List ℕ → ℕ → ℕ → Type 0
DirectStep l = Direct (Listed l)

-- the same by computation. A need goes down in number, so a path from u has fewer than u hops
unfoldable pub leads : List ℕ → ℕ → ℕ → ℕ → Bool
leads l zero u v = false
leads l (suc hops) u v =
    some (λ i. elim (eqb (upper l i) u) [ true ↦ eqb (lower l i) v || leads l hops (lower l i) v | false ↦ false ]) (pairs l)

unfoldable pub needs : List ℕ → ℕ → ℕ → Bool
needs l u v = leads l u u v

unfoldable pub step : List ℕ → ℕ → ℕ → Bool
step l u v = needs l u v && not (some (λ w. needs l u w && needs l w v) u)

-- the direct steps alone, as a need list of the units 1 to n
unfoldable pub direct_steps : List ℕ → ℕ → List ℕ
direct_steps l n = pairs_in (step l) n n

-- the unit before u in its track, 0 where u is the first
unfoldable pub unit_before : List ℕ → ℕ → ℕ
unit_before ts u = greatest (λ i. cond (eqb (get_or ts i 0) (track ts u)) (suc i) 0) (u - 1)

-- unit i + 1 is not the first of its track and does not need the one before it
unfoldable pub unsound : Listing → ℕ → Bool
unsound c i = ltb 0 (unit_before c.tracks (i + 1)) && not (needs c.needs (i + 1) (unit_before c.tracks (i + 1)))

-- 7: the smallest unit that does not need the unit before it in its track
unfoldable pub sound_verdict : Listing → Verdict
sound_verdict c = refuse_first (unsound c) c.n (λ i. UnsoundTrack (i + 1))

-- the largest position in track q that u needs, 0 if none
unfoldable pub low : Listing → ℕ → ℕ → ℕ
low c u q = greatest (λ v. cond (eqb (track c.tracks v) q && needs c.needs u v) (position c.tracks v) 0) u

-- the smallest position in track q that needs u, the track's length plus 1 if none
unfoldable pub high : Listing → ℕ → ℕ → ℕ
high c u q =
    smallest (size c.tracks q + 1)
    (λ i. cond (eqb (get_or c.tracks i 0) q && needs c.needs (i + 1) u) (position c.tracks (i + 1)) (size c.tracks q + 1))
    c.n

-- one more than the stage of the unit, 1 where there is none (unit 0)
abbrev pub above : (ℕ → ℕ) → ℕ → ℕ
above stageOf zero = 1
above stageOf (suc v) = suc (stageOf (suc v))

-- the highest-numbered v below u that is a direct step of u, 0 if none
unfoldable pub highest_step : (ℕ → ℕ → Bool) → ℕ → ℕ
highest_step isStep u = greatest (λ v. cond (isStep u v) v 0) u

-- stage, by whatever tells the direct steps; it goes down in number, so u turns are enough
unfoldable pub stage_in : (ℕ → ℕ → Bool) → ℕ → ℕ → ℕ
stage_in isStep zero u = 1
stage_in isStep (suc turns) u = above (stage_in isStep turns) (highest_step isStep u)

unfoldable pub stage : (ℕ → ℕ → Bool) → ℕ → ℕ
stage isStep u = stage_in isStep u u

-- v is the highest-numbered direct step of u with a smaller number
pub record HighestStep (Step : ℕ → ℕ → Type 0) (u v : ℕ) : Type 0 where
  pub direct : Step u v
  pub smaller : v < u
  pub none_higher : (w : ℕ) → w < u → Step u w → w ≤ v

-- the stage of a unit is 1 if it has no direct step with a smaller number; otherwise one more than the stage of its highest-numbered such step
pub data Stage (Step : ℕ → ℕ → Type 0) : ℕ → ℕ → Type 0 where
  lowest : {u : ℕ} → ((v : ℕ) → v < u → Step u v → ⊥) → Stage Step u 1
  higher : {u v s : ℕ} → HighestStep Step u v → Stage Step v s → Stage Step u (s + 1)
