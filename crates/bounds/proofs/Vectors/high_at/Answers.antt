-- `bounds::Vectors::high_at`: high is read off the place of a 0 of vector q,p, and in its own track it is the position behind. Assumes nothing.
use mathlib.Core.Path.{sym, ap, ◌∙◌}
use native.Mathlib.Omega.{arith}
use Rattle.rules.specs.Bits.{rank}
use Rattle.rules.specs.Index.{lens_of, vector_of}
use Rattle.rules.proofs.Vectors.{Vector, high_at_own, high_at_other, rank_before, in_zeros, zero_low}
use Rattle.bounds.proofs.Covering.{ones_true, length_few, vector_covers}
use Rattle.bounds.proofs.Vectors.high_at.Goals as goal
use Rattle.bounds.proofs.Vectors.high_at.Goals.{After-from-2}

vector : (c : After-from-2) → Vector c.args.self.now.k c.args.q c.args.a.track
vector c = record { here = c.requires.q_lt_k; there = c.requires.standing.in_track; other = λ e. c.if-a-q.false (sym e) }

pub overflow_add-result : goal.overflow_add-result
overflow_add-result c =
    omega (arith, length_few c.args.self.now.known c.args.a.track c.requires.standing.in_track)

pub returns-then-a-q : goal.returns-then-a-q
returns-then-a-q c =
    let a = c.args in
    sym (high_at_own (lens_of a.self.now.lens.now) a.self.now.k a.self.now.words.now a.a.track a.q a.a.at c.if-a-q.true)

pub place_of_zero-requires : goal.place_of_zero-requires
unfolding vector_of
place_of_zero-requires c =
    let v = vector (goal.at.place_of_zero-requires c).After-from-2 in record {
      covers = rw (c.from-2.ensures, c.from.ensures, c.vector_start-off.ensures) (vector_covers c.args.self.now.known v);
      before_value = c.vector_ones-before.ensures ∙ sym (ap (rank c.args.self.now.words.now) c.vector_start-off.ensures ∙ rank_before (ones_true c.args.self.now.known) v);
      le_i = (c.requires.standing.from, rw (c.from-2.ensures, c.from.ensures, c.vector_start-off.ensures) (in_zeros (ones_true c.args.self.now.known) v c.requires.standing.to));
    }

pub overflow_sub-result : goal.overflow_sub-result
unfolding vector_of
overflow_sub-result c =
    rw (c.place_of_zero.ensures, c.from-2.ensures, c.from.ensures, c.vector_start-off.ensures)
    (zero_low (ones_true c.args.self.now.known) (vector (goal.at.overflow_sub-result c).After-from-2) c.args.a.at c.requires.standing.from c.requires.standing.to).0

pub returns : goal.returns
unfolding vector_of
returns c =
    let a = c.args in
    rw (c.place_of_zero.ensures, c.from-2.ensures, c.from.ensures, c.vector_start-off.ensures)
    (sym (high_at_other (lens_of a.self.now.lens.now) a.self.now.k a.self.now.words.now a.q a.a.track a.a.at c.if-a-q.false))
