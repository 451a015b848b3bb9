-- A unit of the track is one more seen, any other none; where the one more makes i, it stands at position i, and no later one does.
use Prim.Native.Nat.{ℕ, zero, suc, ◌+◌, ◌<◌}
use mathlib.Core.Path.{◌≡◌, refl, sym, ◌∙◌}
use mathlib.Core.Logic.{◌⊎◌, inl, inr}
use native.Mathlib.Omega.{arith}
use lib.ListN.{length, get_or}
use Rattle.rules.specs.Listing.{track, size, position}
use Rattle.rules.proofs.Tracks.{in_none, in_own, in_other, in_le, track-next, unit_is, unit_none}
use Rattle.lists.proofs.unit_at.Goals as goal
use Rattle.lists.proofs.unit_at.Goals.{then-track-q+else-seen-i, else-track-q}

zero_or_more : (i : ℕ) → (i ≡ 0) ⊎ (0 < i)
zero_or_more zero = inl refl
zero_or_more (suc i) = inr (omega arith)

-- a count that grows past no place but i stays below it
not_yet : {i seen : ℕ} → (i ≡ 0) ⊎ (seen < i) → (seen + 1 ≡ i → ⊥) → (i ≡ 0) ⊎ (seen + 1 < i)
not_yet (inl z) n = inl z
not_yet {i} {seen} (inr l) n = inr (omega arith)

pub loop-j-init : goal.loop-j-init
loop-j-init c = (sym (in_none _ _), zero_or_more c.args.i)

pub overflow_add-seen : goal.overflow_add-seen
overflow_add-seen c = omega (arith, in_le c.args.tracks.now c.args.q c.loop-j.j)

pub returns-then-seen-i : goal.returns-then-seen-i
returns-then-seen-i c =
    let ts = c.args.tracks.now in
    let q = c.args.q in
    let j = c.loop-j.j in
    let e : get_or ts j 0 ≡ q = c.if-track-q.true in
    let t : track ts (j + 1) ≡ q = track-next ts j ∙ e in
    let p : position ts (j + 1) ≡ c.args.i = rw t (omega (arith, in_own ts q j e, c.if-seen-i.true)) in
    sym (unit_is ts q c.args.i (j + 1) (omega arith) (omega arith) t p)

pub loop-j-preserved : goal.loop-j-preserved
loop-j-preserved c =
    let ts = c.args.tracks.now in
    let q = c.args.q in
    let i = c.loop-j.invariant in
    elim c.if-track-q.branch [
      | then-track-q+else-seen-i w ↦ (omega (arith, in_own ts q c.loop-j.j w.if-track-q.true, w.seen-is), rw w.seen-is (not_yet i.1 w.if-seen-i.false))
      | else-track-q w ↦ (omega (arith, in_other ts q c.loop-j.j w.if-track-q.false, w.seen-is), rw w.seen-is i.1)
    ]

pub returns : goal.returns
returns c =
    let a = c.args in
    let i = c.loop-j.invariant in
    let e : c.loop-j.j ≡ length a.tracks.now = omega arith in
    let s : c.loop-j.seen ≡ size a.tracks.now a.q = rw (sym e) i.0 in
    sym (unit_none a.tracks.now a.q a.i (rw s at i.1))
