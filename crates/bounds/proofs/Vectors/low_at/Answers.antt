-- `bounds::Vectors::low_at`: low is read off the place of a 1 of vector p,q, and in its own track it is the position before. Assumes nothing.
use mathlib.Core.Path.{sym, ap, ◌∙◌}
use Rattle.rules.specs.Bits.{rank}
use Rattle.rules.specs.Index.{lens_of, vector_of}
use Rattle.rules.proofs.Vectors.{Vector, low_at_own, low_at_other, rank_before, in_ones, one_low}
use Rattle.bounds.proofs.Covering.{ones_true, vector_covers}
use Rattle.bounds.proofs.Vectors.low_at.Goals as goal
use Rattle.bounds.proofs.Vectors.low_at.Goals.{After-from-2}

vector : (c : After-from-2) → Vector c.args.self.now.k c.args.a.track c.args.q
vector c = record { here = c.requires.standing.in_track; there = c.requires.q_lt_k; other = c.if-a-q.false }

pub returns-then-a-q : goal.returns-then-a-q
returns-then-a-q c =
    let a = c.args in
    sym (low_at_own (lens_of a.self.now.lens.now) a.self.now.k a.self.now.words.now a.a.track a.q a.a.at c.if-a-q.true)

pub place_of_one-requires : goal.place_of_one-requires
unfolding vector_of
place_of_one-requires c =
    let v = vector (goal.at.place_of_one-requires c).After-from-2 in record {
      covers = rw (c.from-2.ensures, c.from.ensures, c.vector_start-off.ensures) (vector_covers c.args.self.now.known v);
      before_value = c.vector_ones-before.ensures ∙ sym (ap (rank c.args.self.now.words.now) c.vector_start-off.ensures ∙ rank_before (ones_true c.args.self.now.known) v);
      le_i = (c.requires.standing.from, rw (c.from-2.ensures, c.from.ensures, c.vector_start-off.ensures) (in_ones (ones_true c.args.self.now.known) v c.requires.standing.to));
    }

pub overflow_sub-result-2 : goal.overflow_sub-result-2
unfolding vector_of
overflow_sub-result-2 c =
    rw (c.place_of_one.ensures, c.from-2.ensures, c.from.ensures, c.vector_start-off.ensures)
    (one_low (ones_true c.args.self.now.known) (vector (goal.at.overflow_sub-result-2 c).After-from-2) c.args.a.at c.requires.standing.from c.requires.standing.to).0

pub returns : goal.returns
unfolding vector_of
returns c =
    let a = c.args in
    rw (c.place_of_one.ensures, c.from-2.ensures, c.from.ensures, c.vector_start-off.ensures)
    (sym (low_at_other (lens_of a.self.now.lens.now) a.self.now.k a.self.now.words.now a.a.track a.q a.a.at c.if-a-q.false))
