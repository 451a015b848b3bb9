-- Each place lies in its vector, so within the words; the vector p,p is not there. Assumes nothing.
use Prim.Native.Nat.{◌+◌, ◌*◌, ◌≤◌, ◌<◌}
use mathlib.Core.Path.{◌≡◌}
use mathlib.Core.Logic.{◌≢◌}
use native.Mathlib.Omega.{arith}
use lib.ListN.{length, get_or}
use Rattle.rules.specs.Index.{lens_of}
use Rattle.rules.proofs.Layouts.{offset-next, offset-within, words_hold}
use Rattle.build.proofs.Ones.{ones_none, ones_own, ones-next, one_within}
use Rattle.build.proofs.set_ones.Goals as goal
use Rattle.build.proofs.set_ones.Goals.{In-loop-q, then-q-p, else-q-p}

-- the vector starts within the words
starts_in : (c : In-loop-q) → c.loop-q.off ≤ 65536
starts_in c =
    let s = lens_of c.args.lens.now in
    omega (arith, c.loop-q.invariant.1, c.requires.words_len, offset-within s c.args.k c.args.p c.loop-q.q c.requires.p_lt_k.0 (omega arith), words_hold s c.args.k)

-- and so lies the 1
one_in : (c : In-loop-q) → c.loop-q.q ≢ c.args.p
    → c.loop-q.off + get_or c.args.work.now (c.args.i * c.args.k + c.args.p) 0 + get_or c.args.work.now (c.args.i * c.args.k + c.loop-q.q) 0
    < 64 * length c.loop-q.words
one_in c ne =
    let inside =
    one_within (lens_of c.args.lens.now) c.args.k c.args.p c.loop-q.q _ _ c.requires.p_lt_k.0 (omega arith) ne
    c.requires.p_bound (c.requires.by_index c.loop-q.q (omega arith)) in
    omega (arith, inside, c.loop-q.invariant.1, c.loop-q.invariant.2.same_length, c.requires.words_len)

pub loop-q-init : goal.loop-q-init
loop-q-init c = (omega arith, c.requires.start_value, ones_none _ _ _ _ _ _)

pub overflow_add-off : goal.overflow_add-off
overflow_add-off c = omega (arith, one_in (goal.at.overflow_add-off c).In-loop-q (λ e. omega arith), c.requires.words_len)

pub overflow_add-off-then-q-p : goal.overflow_add-off-then-q-p
overflow_add-off-then-q-p c =
    omega (arith, one_in (goal.at.overflow_add-off-then-q-p c).In-loop-q (λ e. omega arith), c.requires.words_len)

pub set_bit-requires : goal.set_bit-requires
set_bit-requires c = omega (arith, one_in (goal.at.set_bit-requires c).In-loop-q (λ e. omega arith))

pub overflow_add-off-in-loop-q : goal.overflow_add-off-in-loop-q
overflow_add-off-in-loop-q c = omega (arith, starts_in (goal.at.overflow_add-off-in-loop-q c).In-loop-q)

pub loop-q-preserved : goal.loop-q-preserved
loop-q-preserved c =
    let inv = c.loop-q.invariant in (
      omega arith,
      omega (arith, c.vector_room-off.ensures.value, offset-next (lens_of c.args.lens.now) c.args.k c.args.p c.loop-q.q),
      elim c.if-q-p.branch [
        | then-q-p w ↦
            rw (w.words-is, w.set_bit.ensures)
            (ones-next _ _ _ _ _ _ _ _ _ w.if-q-p.true (omega arith) (omega (arith, one_in (goal.at.loop-q-preserved c).In-loop-q w.if-q-p.true)) inv.2)
        | else-q-p w ↦ rw w.words-is (ones_own _ _ _ _ _ _ _ _ w.if-q-p.false inv.2)
      ],
    )

pub returns : goal.returns
returns c =
    let e : c.loop-q.q ≡ c.args.k = omega arith in
    rw e at c.loop-q.invariant.2
