-- `tracks::track_lengths`: what the check leaves open; why it holds is said with the invariant. Assumes nothing.
use Prim.Native.Nat.{ℕ, ◌+◌, ◌<◌}
use mathlib.Core.Path.{◌≡◌, refl, sym, ◌∙◌}
use mathlib.Core.List.{List}
use native.Mathlib.Decide.{ℕ_discrete}
use native.Mathlib.Omega.{arith}
use lib.ListN.{length, get_or, set, length-set, get_or-replicate}
use lib.Seq.{get_or-set_same, get_or-set_other}
use lib.Dec.{eqb}
use borrow.Author.Tests.{eq-eqb, ne_eqb}
use Rattle.rules.specs.Ranges.{bit1}
use Rattle.rules.specs.Listing.{in_track, size}
use Rattle.rules.proofs.Ranges.{table_is}
use Rattle.rules.proofs.Tracks.{in_none, in_next, in_le}
use Rattle.tracks.proofs.track_lengths.Goals as goal

-- one more in the entry of its track
counted_next : (ts lens : List ℕ) (i t : ℕ) → length lens ≡ 32 → t ≡ get_or ts i 0 → t < 32
    → ((q : ℕ) → q < 32 → get_or lens q 0 ≡ in_track ts q i)
    → (q : ℕ) → q < 32 → get_or (set lens t (get_or lens t 0 + 1)) q 0 ≡ in_track ts q (i + 1)
counted_next ts lens i t e s l h q m = go (ℕ_discrete q t)
  where
    go : Dec (q ≡ t) → get_or (set lens t (get_or lens t 0 + 1)) q 0 ≡ in_track ts q (i + 1)
    go (yes p) =
        let here : bit1 (eqb (get_or ts i 0) t) ≡ 1 = rw (eq-eqb (get_or ts i 0) t (sym s)) in
        rw p (get_or-set_same lens t (get_or lens t 0 + 1) 0 (omega arith) ∙ omega (arith, h t l, in_next ts t i))
    go (no n) =
        let other : bit1 (eqb (get_or ts i 0) q) ≡ 0 = rw (ne_eqb (get_or ts i 0) q (λ p. n (sym p ∙ sym s))) in
        get_or-set_other lens t q (get_or lens t 0 + 1) 0 n ∙ omega (arith, h q m, in_next ts q i)

pub loop-q-init : goal.loop-q-init
loop-q-init c = (refl, λ q l. get_or-replicate 32 q 0 0 l ∙ sym (in_none c.args.tracks.now q))

pub overflow_add-lens : goal.overflow_add-lens
overflow_add-lens c =
    let q = c.from.result in
    let below : q < 32 = omega (arith, c.from.ensures, c.requires.by_index c.loop-q.q-index (omega arith)) in
    omega (arith, c.loop-q.invariant.1 q below, in_le c.args.tracks.now q c.loop-q.q-index, c.requires.tracks_len_bound)

pub loop-q-preserved : goal.loop-q-preserved
loop-q-preserved c =
    let i = c.loop-q.q-index in
    let inv = c.loop-q.invariant in
    (length-set c.loop-q.lens _ _ ∙ inv.0, counted_next c.args.tracks.now c.loop-q.lens i c.from.result inv.0 c.from.ensures (omega (arith, c.requires.by_index i (omega arith))) inv.1)

pub returns : goal.returns
returns c =
    let e : c.loop-q.q-index ≡ length c.args.tracks.now = omega arith in
    table_is (size c.args.tracks.now) c.loop-q.lens 32 c.loop-q.invariant.0 (rw e at c.loop-q.invariant.1)
