-- Laws of paths along a relation: joined, carried to another relation, and cut into direct steps where hops go down and paths can be decided.
-- Assumes nothing.
use Prim.Native.Nat.{ℕ, zero, suc, ◌+◌, ◌≤◌, ◌<◌}
use mathlib.Core.Path.{◌≡◌, subst}
use mathlib.Core.Logic.{◌⊎◌, inl, inr}
use native.Mathlib.Omega.{arith}
use Rattle.rules.specs.Paths.{Path⁺, one, more, Direct}
use Rattle.rules.proofs.Ranges.{last_or_before}

-- ---- search below a bound

-- a number below m at which P holds, or none
pub search_below : (P : ℕ → Type 0) → ((i : ℕ) → Dec (P i)) → (m : ℕ) → Dec ((i : ℕ) × (i < m) × P i)
search_below P dec zero = no (λ r. omega (arith, r.1))
search_below P dec (suc m) = go (search_below P dec m) (dec m)
  where
    go : Dec ((i : ℕ) × (i < m) × P i) → Dec (P m) → Dec ((i : ℕ) × (i < suc m) × P i)
    go (yes r) d = yes (r.0, omega arith, r.2)
    go (no none) (yes p) = yes (m, omega arith, p)
    go (no none) (no n) = no (λ r. old_or_new r (last_or_before r.1))
      where
        old_or_new : (r : (i : ℕ) × (i < suc m) × P i) → (r.0 ≡ m) ⊎ (r.0 < m) → ⊥
        old_or_new r (inl e) = n (subst P e r.2)
        old_or_new r (inr l) = none (r.0, l, r.2)

-- ---- one relation

module _ {R : ℕ → ℕ → Type 0} where
  pub path_join : {u w v : ℕ} → Path⁺ R u w → Path⁺ R w v → Path⁺ R u v
  path_join (one h) q = more h q
  path_join (more h p) q = more h (path_join p q)

  -- a direct step is a hop: a longer path has a number between
  pub direct_hop : {u v : ℕ} → Direct R u v → R u v
  direct_hop {u} {v} d = go d.path d.alone
    where
      go : {v' : ℕ} → Path⁺ R u v' → ((w : ℕ) → Path⁺ R u w → Path⁺ R w v' → ⊥) → R u v'
      go (one h) alone = h
      go (more {w = w} h p) alone = absurd (alone w (one h) p)

-- ---- two relations

module _ {R S : ℕ → ℕ → Type 0} where
  -- each hop is replaced by a path
  pub path_flat : ((u v : ℕ) → R u v → Path⁺ S u v) → {u v : ℕ} → Path⁺ R u v → Path⁺ S u v
  path_flat f (one {u} {v} h) = f u v h
  path_flat f (more {u} {w} h p) = path_join (f u w h) (path_flat f p)

  pub path_map : ((u v : ℕ) → R u v → S u v) → {u v : ℕ} → Path⁺ R u v → Path⁺ S u v
  path_map f = path_flat (λ u v h. one (f u v h))

-- ---- hops that go down

module _ {R : ℕ → ℕ → Type 0} (down : (u v : ℕ) → R u v → v < u) where
  pub path_down : {u v : ℕ} → Path⁺ R u v → v < u
  path_down (one {u} {v} h) = down u v h
  path_down (more {u} {w} h p) = omega (arith, down u w h, path_down p)

  module _ (dec : (u v : ℕ) → Dec (Path⁺ R u v)) where
    -- by the distance from u to v: a number between cuts the path into two shorter ones
    directs_far : (far u v : ℕ) → u ≤ v + far → Path⁺ R u v → Path⁺ (Direct R) u v
    directs_far zero u v h p = absurd (omega (arith, path_down p))
    directs_far (suc far) u v h p = go (directs_far far) (search_below Between between u)
      where
        Between : ℕ → Type 0
        Between w = Path⁺ R u w × Path⁺ R w v

        between : (w : ℕ) → Dec (Between w)
        between w = both (dec u w) (dec w v)
          where
            both : Dec (Path⁺ R u w) → Dec (Path⁺ R w v) → Dec (Path⁺ R u w × Path⁺ R w v)
            both (yes p) (yes q) = yes (p, q)
            both (yes p) (no n) = no (λ r. n r.1)
            both (no n) d = no (λ r. n r.0)

        go : ((u v : ℕ) → u ≤ v + far → Path⁺ R u v → Path⁺ (Direct R) u v) → Dec ((w : ℕ) × (w < u) × Between w)
            → Path⁺ (Direct R) u v
        go nearer (yes r) =
            path_join
            (nearer u r.0 (omega (arith, path_down r.2.1)) r.2.0)
            (nearer r.0 v (omega arith) r.2.1)
        go nearer (no none) =
            one (record { path = p; alone = λ w q r. none (w, path_down q, (q, r)) })

    -- every path is a path of direct steps
    pub path_directs : {u v : ℕ} → Path⁺ R u v → Path⁺ (Direct R) u v
    path_directs {u} {v} p = directs_far u u v (omega arith) p

    -- a relation with a path for each direct step has one for each path
    pub paths_cover : {S : ℕ → ℕ → Type 0} → ((u v : ℕ) → Direct R u v → Path⁺ S u v) → {u v : ℕ} → Path⁺ R u v → Path⁺ S u v
    paths_cover f p = path_flat f (path_directs p)
