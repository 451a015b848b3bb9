-- The part of a need list that begins with a unit u: as its pairs ascend, it stands in one piece, from the first pair with u or more up to
-- the first pair with more than u.
-- Assumes nothing.
use Rattle.std.specs.Prelude.{Ok, Err}
use Prim.Native.Nat.{ℕ, zero, suc, ◌+◌, ◌-◌, ◌*◌, ◌≤◌, ◌<◌, min}
use mathlib.Core.Path.{◌≡◌, refl, sym, ap, ◌∙◌}
use mathlib.Core.List.{List, [], ◌∷◌, ◌++◌, append-nil}
use mathlib.Core.Logic.{inl, inr}
use native.Mathlib.Omega.{arith}
use native.Mathlib.Numerals.{add-one}
use native.Mathlib.Decide.{dec_lt}
use lib.ListN.{take, drop}
use lib.Seq.{drop-cons, drop-drop, take-add}
use lib.Dec.{leb}
use borrow.Author.Tests.{eq-eqb, ne_eqb, leb-true, leb-false}
use Rattle.rules.specs.Ranges.{first}
use Rattle.rules.specs.Listing.{pairs, upper, lower, within, counted_needs}
use Rattle.rules.specs.declared.Refusal.{Refusal}
use Rattle.rules.specs.declared.Refusal.TheVariants.{OutOfLimits, BadArgument}
use Rattle.rules.specs.Limits.{max_units}
use Rattle.rules.specs.Refusals.{unless, Verdict}
use Rattle.rules.specs.Outcomes.{part_verdict, pairs_from, part_outcome}
use Rattle.rules.proofs.Ranges.{first_le, first_before, first_met}
use Rattle.rules.proofs.Verdicts.{within_is, then_fine, unless_fine}
use Rattle.rules.proofs.Needs.{Below, Pairs, ascends_far, pairs_fine}
use Rattle.listing.specs.Spans.{pair_from, part_span}

-- ---- the first units ascend

abbrev pub Rising : List ℕ → Type 0
Rising l = (i j : ℕ) → i ≤ j → j < pairs l → upper l i ≤ upper l j

below_rises : (l : List ℕ) (i j : ℕ) → Below l i j → upper l i ≤ upper l j
below_rises l i j (inl h) = omega arith
below_rises l i j (inr h) = omega arith

pub pairs_rise : {n : ℕ} {l : List ℕ} → Pairs n l → Rising l
pairs_rise {n} {l} c i j h q = go (dec_lt i j)
  where
    go : Dec (i < j) → upper l i ≤ upper l j
    go (yes b) = below_rises l i j (ascends_far l c.ascends i j b q)
    go (no b) = let e : i ≡ j = omega arith in rw e (omega arith)

-- ---- a piece of the list

pair_piece : (l : List ℕ) (i : ℕ) → i < pairs l → take 2 (drop (2 * i) l) ≡ upper l i ∷ lower l i ∷ []
pair_piece l i h =
    rw (drop-cons l (2 * i) 0 (omega arith), drop-cons l (suc (2 * i)) 0 (omega arith), add-one (2 * i))

module _ (l : List ℕ) (u a e : ℕ) (before : (i : ℕ) → i < a → upper l i < u)
    (among : (i : ℕ) → a ≤ i → i < e → upper l i ≡ u) (after : (i : ℕ) → e ≤ i → i < pairs l → u < upper l i) where
  -- the first x entries from pair a on
  abbrev piece : ℕ → List ℕ
  piece x = take x (drop (2 * a) l)

  pair_next : (i : ℕ) → a ≤ i → i < pairs l → piece (2 * i - 2 * a) ++ (upper l i ∷ lower l i ∷ []) ≡ piece (2 * i - 2 * a + 2)
  pair_next i b h =
      let x : 2 * a + (2 * i - 2 * a) ≡ 2 * i = omega arith in
      sym (take-add (2 * i - 2 * a) 2 (drop (2 * a) l) ∙ rw (drop-drop, x, pair_piece l i h))

  -- the pairs that begin with u, as far as m
  piece_from : (m : ℕ) → m ≤ pairs l → pairs_from l u m ≡ piece (2 * min m e - 2 * a)
  unfolding pairs_from
  piece_from zero h = let x : 2 * min 0 e - 2 * a ≡ 0 = omega arith in rw x
  piece_from (suc m) h = go (piece_from m (omega arith)) (dec_lt m a) (dec_lt m e)
    where
      skip : pairs_from l u m ≡ piece (2 * min m e - 2 * a) → (upper l m ≡ u → ⊥) → 2 * min m e - 2 * a ≡ 2 * min (suc m) e - 2 * a
          → pairs_from l u (suc m) ≡ piece (2 * min (suc m) e - 2 * a)
      skip r n x = rw (ne_eqb (upper l m) u n) (append-nil _ ∙ r ∙ ap piece x)

      go : pairs_from l u m ≡ piece (2 * min m e - 2 * a) → Dec (m < a) → Dec (m < e)
          → pairs_from l u (suc m) ≡ piece (2 * min (suc m) e - 2 * a)
      go r (yes b) d = skip r (λ t. omega (arith, before m b)) (omega arith)
      go r (no b) (yes d) =
          let x : min m e ≡ m = omega arith in
          let y : 2 * m - 2 * a + 2 ≡ 2 * min (suc m) e - 2 * a = omega arith in
          let r' : pairs_from l u m ≡ piece (2 * m - 2 * a) = rw x at r in
          rw (eq-eqb (upper l m) u (among m (omega arith) d), r') (pair_next m (omega arith) h ∙ ap piece y)
      go r (no b) (no d) = skip r (λ t. omega (arith, after m (omega arith) h)) (omega arith)

-- ---- the part

module _ (l : List ℕ) (rising : Rising l) where
  -- the first pair with v or more
  abbrev pub from : ℕ → ℕ
  from v = first (λ i. leb v (upper l i)) (pairs l)

  pub from_le : (v : ℕ) → from v ≤ pairs l
  from_le v = first_le (λ i. leb v (upper l i)) (pairs l)

  from_before : (v i : ℕ) → i < from v → upper l i < v
  from_before v i h = leb-false v (upper l i) (first_before (λ i. leb v (upper l i)) (pairs l) i h)

  from_on : (v i : ℕ) → from v ≤ i → i < pairs l → v ≤ upper l i
  from_on v i h q =
      omega (arith, leb-true v _ (first_met (λ i. leb v (upper l i)) (pairs l) (omega arith)), rising (from v) i h q)

  pub from_up : (u : ℕ) → from u ≤ from (u + 1)
  from_up u = go (dec_lt (from (u + 1)) (from u))
    where
      go : Dec (from (u + 1) < from u) → from u ≤ from (u + 1)
      go (yes h) = absurd (omega (arith, from_before u (from (u + 1)) h, from_on (u + 1) (from (u + 1)) (omega arith) (omega (arith, from_le u))))
      go (no h) = omega arith

  pub part_piece : (u : ℕ) → pairs_from l u (pairs l) ≡ take (2 * from (u + 1) - 2 * from u) (drop (2 * from u) l)
  part_piece u =
      let x : min (pairs l) (from (u + 1)) ≡ from (u + 1) = omega (arith, from_le (u + 1)) in
      piece_from l u (from u) (from (u + 1)) (from_before u) among after (pairs l) (omega arith) ∙ rw x
    where
      among : (i : ℕ) → from u ≤ i → i < from (u + 1) → upper l i ≡ u
      among i h d = omega (arith, from_before (u + 1) i d, from_on u i h (omega (arith, from_le (u + 1))))

      after : (i : ℕ) → from (u + 1) ≤ i → i < pairs l → u < upper l i
      after i h q = omega (arith, from_on (u + 1) i h q)

-- ---- by the verdict

-- the unit is one, and the pairs are in order
pub parted : (l : List ℕ) (u : ℕ) → part_verdict l u ≡ Ok tt → (u ≤ 1024) × Pairs 1024 l
unfolding part_verdict
parted l u h =
    let a = then_fine (unless (within 1 max_units u) (BadArgument 1)) _ h in
    let b = then_fine (unless (counted_needs l) OutOfLimits) _ a.1 in
    ((within_is 1 max_units u (unless_fine _ (BadArgument 1) a.0)).1, pairs_fine 1024 l b.1)

-- a refused part stands at the start and holds nothing
pub span_refused : (l : List ℕ) (u : ℕ) (r : Refusal) → part_verdict l u ≡ Err r → record { start = 0; count = 0 } ≡ part_span l u
unfolding part_span
span_refused l u r h = rw h

pub span_fine : (l : List ℕ) (u : ℕ) → part_verdict l u ≡ Ok tt
    → record { start = 2 * pair_from l u; count = 2 * pair_from l (u + 1) - 2 * pair_from l u } ≡ part_span l u
unfolding part_span
span_fine l u h = rw h

-- what stands there is the part
pub span_part : (l : List ℕ) (u : ℕ) → take (part_span l u).count (drop (part_span l u).start l) ≡ part_outcome l u
unfolding part_span part_outcome pair_from
span_part l u = go (part_verdict l u) refl
  where
    go : (v : Verdict) → part_verdict l u ≡ v → take (part_span l u).count (drop (part_span l u).start l) ≡ part_outcome l u
    go (Ok _) h = rw h (sym (part_piece l (pairs_rise (parted l u h).1) u))
    go (Err r) h = rw h
