-- `bounds::Vectors::reaches`: in its own track a unit reaches all before it, and in another track one rank tells, beside the ones before the vector. Assumes nothing.
use Prim.Native.Nat.{◌+◌, ◌-◌, ◌*◌, ◌≤◌}
use mathlib.Core.Path.{◌≡◌, sym, ap, ◌∙◌}
use native.Mathlib.Omega.{arith}
use lib.Dec.{ltb}
use Rattle.rules.specs.Layout.{offset, word_count}
use Rattle.rules.specs.Bits.{rank}
use Rattle.rules.specs.Index.{lens_of}
use Rattle.rules.proofs.Bits.{rank_le}
use Rattle.rules.proofs.Layouts.{vector-within}
use Rattle.rules.proofs.Vectors.{Vector, low_by_order, rank_before, low_by_rank}
use Rattle.bounds.proofs.Covering.{ones_true, words_few}
use Rattle.bounds.proofs.Vectors.reaches.Goals as goal
use Rattle.bounds.proofs.Vectors.reaches.Goals.{After-vector_ones-before, After-vector_start-off}

vector : (c : After-vector_start-off) → Vector c.args.self.now.k c.args.a.track c.args.b.track
vector c = record { here = c.requires.standing.in_track; there = c.requires.standing_2.in_track; other = c.if-a-b.false }

vector_2 : (c : After-vector_ones-before) → Vector c.args.self.now.k c.args.a.track c.args.b.track
vector_2 c = record { here = c.requires.standing.in_track; there = c.requires.standing_2.in_track; other = c.if-a-b.false }

-- the bits that are counted stand in these words, which are few
within : (c : After-vector_start-off) → (c.vector_start-off.result + (c.args.a.at + c.args.b.at) ≤ 64 * (word_count (lens_of c.args.self.now.lens.now) c.args.self.now.k)) × ((word_count (lens_of c.args.self.now.lens.now) c.args.self.now.k) ≤ 992)
within c =
    let v = vector c in
    omega (arith, c.vector_start-off.ensures, vector-within (lens_of c.args.self.now.lens.now) c.args.self.now.k c.args.a.track c.args.b.track v.here v.there v.other, words_few c.args.self.now.known, c.requires.standing.to, c.requires.standing_2.to)

-- the ones before the vector, as the words have them
before : (c : After-vector_ones-before) → c.vector_ones-before.result ≡ rank c.args.self.now.words.now c.vector_start-off.result
before c =
    c.vector_ones-before.ensures ∙ sym (ap (rank c.args.self.now.words.now) c.vector_start-off.ensures ∙ rank_before (ones_true c.args.self.now.known) (vector_2 c))

pub returns-then-a-b : goal.returns-then-a-b
returns-then-a-b c =
    let a = c.args in
    sym (low_by_order (lens_of a.self.now.lens.now) a.self.now.k a.self.now.words.now a.a.track a.b.track a.a.at a.b.at c.requires.standing.from c.if-a-b.true)

pub overflow_add-off : goal.overflow_add-off
overflow_add-off c = omega (arith, within (goal.at.overflow_add-off c).After-vector_start-off)

pub overflow_add-off-2 : goal.overflow_add-off-2
overflow_add-off-2 c = omega (arith, within (goal.at.overflow_add-off-2 c).After-vector_start-off)

pub ones_before-requires : goal.ones_before-requires
ones_before-requires c = c.args.self.now.known.directory_true _ (omega (arith, within (goal.at.ones_before-requires c).After-vector_start-off))

pub overflow_add-result : goal.overflow_add-result
overflow_add-result c =
    omega (arith, within (goal.at.overflow_add-result c).After-vector_start-off, before (goal.at.overflow_add-result c).After-vector_ones-before, rank_le c.args.self.now.words.now c.vector_start-off.result)

pub returns : goal.returns
returns c =
    let a = c.args in
    let off = offset (lens_of a.self.now.lens.now) a.self.now.k a.a.track a.b.track in
    let at : c.ones_before.result ≡ rank a.self.now.words.now (off + a.a.at + a.b.at - 1) =
    c.ones_before.ensures ∙ ap (λ x. rank a.self.now.words.now (x + a.a.at + a.b.at - 1)) c.vector_start-off.ensures in
    let start : c.vector_ones-before.result ≡ rank a.self.now.words.now off =
    c.vector_ones-before.ensures ∙ sym (rank_before (ones_true c.args.self.now.known) (vector (goal.at.returns c).After-vector_start-off)) in
    ap (λ x. ltb x (c.vector_ones-before.result + a.a.at)) at ∙ ap (λ x. ltb (rank a.self.now.words.now (off + a.a.at + a.b.at - 1)) (x + a.a.at)) start
    ∙ sym (low_by_rank (ones_true c.args.self.now.known) (vector (goal.at.returns c).After-vector_start-off) a.a.at a.b.at c.requires.standing.from c.requires.standing.to)
