-- What each answer adds: the end of p,q by `ended`, so that nothing overflows, and by `vector_test` what its rank says of p,q.
use Prim.Native.Nat.{ℕ, ◌+◌, ◌-◌}
use mathlib.Core.Path.{◌≡◌, sym, ap, ◌∙◌}
use native.Mathlib.Omega.{arith}
use borrow.Author.Tests.{eq-eqb, ne_eqb}
use borrow.Author.Count.{below_more}
use Rattle.rules.specs.Layout.{offset}
use Rattle.rules.specs.Bits.{rank}
use Rattle.rules.specs.Index.{lens_of}
use Rattle.rules.proofs.Ranges.{every_all, every-not}
use Rattle.rules.proofs.Bits.{rank_le}
use Rattle.rules.proofs.Layouts.{offset_own, words_hold, room_most}
use Rattle.whole.proofs.Vectors.{vector_true, Ended, ended, vector_test, own_true}
use Rattle.whole.proofs.row_true.Goals as goal
use Rattle.whole.proofs.row_true.Goals.{After-vector_room-end, then-q-p+else-ones_through-ones, else-q-p}

-- where vector p,q ends
there : (c : After-vector_room-end) → Ended (lens_of c.args.lens.now) c.args.k c.args.p c.loop-q.q (c.loop-q.end + c.vector_room-end.result)
there c =
    ended _ _ c.requires.lengths c.args.p c.loop-q.q (omega arith) (omega arith) c.if-q-p.true _ _ c.loop-q.invariant.0 c.vector_room-end.ensures.value

pub overflow_add-end : goal.overflow_add-end
overflow_add-end c =
    let known = c.requires.lengths in
    omega (arith, there (goal.at.overflow_add-end c).After-vector_room-end, room_most _ _ known.few_units known.few_tracks)

pub overflow_add-ones : goal.overflow_add-ones
overflow_add-ones c =
    let known = c.requires.lengths in
    omega (
      arith,
      there (goal.at.overflow_add-ones c).After-vector_room-end,
      room_most _ _ known.few_units known.few_tracks,
      rank_le c.args.words.now c.loop-q.end,
    )

pub overflow_sub-end : goal.overflow_sub-end
overflow_sub-end c = omega (arith, there (goal.at.overflow_sub-end c).After-vector_room-end)

pub ones_through-requires : goal.ones_through-requires
ones_through-requires c =
    let e = there (goal.at.ones_through-requires c).After-vector_room-end in
    c.requires.true_to _ (omega (arith, words_hold (lens_of c.args.lens.now) c.args.k))

pub returns-then-ones_through-ones : goal.returns-then-ones_through-ones
returns-then-ones_through-ones c =
    let at = c.loop-q in
    let e = there (goal.at.returns-then-ones_through-ones c).After-vector_room-end in
    let test = vector_test _ _ c.args.words.now _ _ _ _ _ e c.if-q-p.true at.invariant.0 at.invariant.1 in
    sym (every-not (vector_true (lens_of c.args.lens.now) c.args.k c.args.words.now c.args.p) c.args.k at.q (omega arith)
    (test ∙ ne_eqb _ _ (λ e. c.if-ones_through-ones.true (c.ones_through.ensures ∙ e ∙ ap (λ (x : ℕ). at.ones + x) (sym c.from-units.ensures)))))

pub loop-q-preserved : goal.loop-q-preserved
loop-q-preserved c =
    let at = c.loop-q in
    let l = lens_of c.args.lens.now in
    let k = c.args.k in
    let ws = c.args.words.now in
    let p = c.args.p in
    elim c.if-q-p.branch [
      | then-q-p+else-ones_through-ones w ↦
          let e = ended l k c.requires.lengths p at.q (omega arith) (omega arith) w.if-q-p.true _ _ at.invariant.0 w.vector_room-end.ensures.value in
          let test = vector_test l k ws p at.q _ at.end at.ones e w.if-q-p.true at.invariant.0 at.invariant.1 in
          let same = sym w.ones_through.ensures ∙ w.if-ones_through-ones.false in
          let h : at.end + w.vector_room-end.result - 1 + 1 ≡ c.if-q-p.end = omega (arith, w.end-is, e.some_bits) in
          (w.end-is ∙ e.at_end, w.ones-is ∙ sym same ∙ ap (rank ws) h, below_more _ at.q at.invariant.2 (test ∙ eq-eqb _ _ (same ∙ ap (λ (x : ℕ). at.ones + x) c.from-units.ensures)))
      | else-q-p w ↦
          let e = w.if-q-p.false in
          let stays : offset l k p (at.q + 1) ≡ offset l k p at.q =
          ap (λ (q : ℕ). offset l k p (q + 1)) e ∙ offset_own l k p ∙ sym (ap (offset l k p) e) in (
            w.end-is ∙ at.invariant.0 ∙ sym stays,
            w.ones-is ∙ at.invariant.1 ∙ sym (ap (rank ws) w.end-is),
            below_more _ at.q at.invariant.2 (ap (vector_true l k ws p) e ∙ own_true l k ws p),
          )
    ]

pub returns : goal.returns
returns c =
    let a = c.args in
    sym (every_all (vector_true (lens_of a.lens.now) a.k a.words.now a.p) a.k (λ q l. c.loop-q.invariant.2 q (omega arith)))
