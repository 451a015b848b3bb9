-- What each answer adds: `row` has where each row starts, and the rank at the end of a true row is that at its start and its ones.
use Prim.Native.Nat.{ℕ}
use mathlib.Core.Path.{◌≡◌, sym, ap, ◌∙◌}
use mathlib.Core.Bool.{true}
use mathlib.Core.List.{List}
use native.Mathlib.Omega.{arith}
use borrow.Author.Tests.{eqb-true}
use borrow.Author.Count.{below_more}
use lib.ListN.{get_or}
use Rattle.rules.specs.Ranges.{every}
use Rattle.rules.specs.Layout.{offset}
use Rattle.rules.specs.Bits.{rank}
use Rattle.rules.specs.Index.{lens_of, vectors_true}
use Rattle.rules.proofs.Ranges.{every_all, every_one, every-not}
use Rattle.rules.proofs.Bits.{rank_le}
use Rattle.rules.proofs.Layouts.{offset-start, room_most}
use Rattle.rules.proofs.Vectors.{rank_row}
use Rattle.layout.proofs.Rows.{starts_at}
use Rattle.whole.proofs.Vectors.{vector_true, row_within, row_most}
use Rattle.whole.proofs.vectors_true.Goals as goal
use Rattle.whole.proofs.vectors_true.Goals.{In-loop-p}

pub loop-p-init : goal.loop-p-init
loop-p-init c =
    let a = c.args in
    let none = ap (rank a.words.now) (offset-start (lens_of a.lens.now) a.k) in
    (omega (arith, none, rank_le a.words.now 0), λ p l. absurd (omega arith))

pub row_true-requires-clause-p_lt_k : goal.row_true-requires-clause-p_lt_k
row_true-requires-clause-p_lt_k c =
    let a = c.args in
    let starts : get_or a.row.now c.loop-p.p 0 ≡ offset (lens_of a.lens.now) a.k c.loop-p.p 0 =
    ap (λ (row : List ℕ). get_or row c.loop-p.p 0) c.requires.row_value ∙ starts_at _ _ c.loop-p.p (omega arith) c.requires.lengths.few_tracks in
    (omega arith, starts, c.loop-p.invariant.0 ∙ ap (rank a.words.now) (sym starts))

pub returns-then-not-row_true : goal.returns-then-not-row_true
unfolding vectors_true
returns-then-not-row_true c =
    let a = c.args in
    sym (every-not (λ p. every (vector_true (lens_of a.lens.now) a.k a.words.now p) a.k) a.k c.loop-p.p (omega arith)
    (sym c.row_true.ensures ∙ c.if-not-row_true.true))

pub overflow_add-before : goal.overflow_add-before
overflow_add-before c =
    let l = lens_of c.args.lens.now in
    let p = c.loop-p.p in
    let known = c.requires.lengths in
    let few = row_most l c.args.k known p (omega arith) in
    omega (
      arith,
      rw (sym c.from.ensures) at few,
      row_within l c.args.k known p (omega arith),
      room_most l c.args.k known.few_units known.few_tracks,
      rank_le c.args.words.now (offset l c.args.k p 0),
    )

pub loop-p-preserved : goal.loop-p-preserved
loop-p-preserved c =
    let a = c.args in
    let at = c.loop-p in
    let l = lens_of a.lens.now in
    let right : every (vector_true l a.k a.words.now at.p) a.k ≡ true = sym c.row_true.ensures ∙ c.if-not-row_true.false in
    let ones = rank_row l a.k a.words.now at.p (omega arith) (λ q h. eqb-true _ _ (every_one (vector_true l a.k a.words.now at.p) a.k q right h)) in
    (omega (arith, rw (sym c.from.ensures) at ones), below_more _ at.p at.invariant.1 right)

pub returns : goal.returns
unfolding vectors_true
returns c =
    let a = c.args in
    sym (every_all (λ p. every (vector_true (lens_of a.lens.now) a.k a.words.now p) a.k) a.k (λ p l. c.loop-p.invariant.1 p (omega arith)))
