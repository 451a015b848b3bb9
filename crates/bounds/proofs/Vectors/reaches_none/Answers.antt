-- A turn that answers no found a unit that is reached; one that goes on found none. Assumes nothing.
use mathlib.Core.Path.{◌≡◌, refl, sym}
use mathlib.Core.Logic.{inl, inr}
use native.Mathlib.Omega.{arith}
use lib.ListN.{get_or}
use borrow.Author.Tests.{le-leb, lt-leb}
use Rattle.rules.specs.Ranges.{every}
use Rattle.rules.specs.Index.{lens_of}
use Rattle.bounds.specs.Known.{reaches_none}
use Rattle.bounds.proofs.Reaching.{never_next, never_not, inside, reached}
use Rattle.bounds.proofs.Vectors.reaches_none.Goals as goal
use Rattle.bounds.proofs.Vectors.reaches_none.Goals.{else-j-from-via-then-j-from+else-reaches, else-j-from-via-else-j-from}

pub loop-q-init : goal.loop-q-init
unfolding every
loop-q-init c = refl

pub returns-then-reaches : goal.returns-then-reaches
unfolding reaches_none
returns-then-reaches c =
    sym
    (never_not (inside (lens_of c.args.self.now.lens.now) c.args.at.now) (reached (lens_of c.args.self.now.lens.now) c.args.self.now.k c.args.self.now.words.now c.args.a.track c.args.a.at c.args.at.now) c.args.self.now.k c.loop-q.q (omega arith)
    (le-leb (get_or c.args.at.now c.loop-q.q 0) (get_or c.args.self.now.lens.now c.loop-q.q 0) (omega arith))
    (rw (c.reaches.ensures, c.from-j.ensures) at c.if-reaches.true))

pub loop-q-preserved : goal.loop-q-preserved
loop-q-preserved c =
    never_next (inside (lens_of c.args.self.now.lens.now) c.args.at.now) (reached (lens_of c.args.self.now.lens.now) c.args.self.now.k c.args.self.now.words.now c.args.a.track c.args.a.at c.args.at.now) c.loop-q.q c.loop-q.invariant
    (elim c.else-j-from.branch [
      | else-j-from-via-then-j-from+else-reaches w ↦ inr (rw (w.reaches.ensures, c.from-j.ensures) at w.if-reaches.false)
      | else-j-from-via-else-j-from w ↦ inl (lt-leb (get_or c.args.at.now c.loop-q.q 0) (get_or c.args.self.now.lens.now c.loop-q.q 0) (omega arith))
    ])

pub returns : goal.returns
unfolding reaches_none
returns c =
    let e : c.loop-q.q ≡ c.args.self.now.k = omega arith in
    sym (rw e at c.loop-q.invariant)
