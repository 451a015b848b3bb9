-- A turn that answers no found a unit that reaches the one at b; one that goes on found none. Assumes nothing.
use mathlib.Core.Path.{◌≡◌, refl, sym}
use mathlib.Core.Logic.{inl, inr}
use native.Mathlib.Omega.{arith}
use lib.ListN.{get_or}
use borrow.Author.Tests.{le-leb, lt-leb}
use Rattle.rules.specs.Ranges.{every}
use Rattle.rules.specs.Index.{lens_of}
use Rattle.bounds.specs.Known.{none_reaches}
use Rattle.bounds.proofs.Reaching.{never_next, never_not, present, reaching}
use Rattle.bounds.proofs.Vectors.none_of.Goals as goal
use Rattle.bounds.proofs.Vectors.none_of.Goals.{else-i-ne0-via-then-i-ne0+else-reaches, else-i-ne0-via-else-i-ne0}

pub loop-p-init : goal.loop-p-init
unfolding every
loop-p-init g c = λ list is. refl

pub returns-then-reaches : goal.returns-then-reaches
unfolding none_reaches
returns-then-reaches g c = λ list is.
    let v = c.args.self.now in
    let p = c.loop-p.p in
    let here : c.at-i.result ≡ get_or list p 0 = is p _ (omega arith) c.at-i.ensures in
    sym
    (never_not (present list) (reaching (lens_of v.lens.now) v.k v.words.now list c.args.b.track c.args.b.at) v.k p (omega arith)
    (le-leb 1 (get_or list p 0) (omega arith))
    (rw (c.reaches.ensures, here) at c.if-reaches.true))

pub loop-p-preserved : goal.loop-p-preserved
loop-p-preserved g c = λ list is.
    let v = c.args.self.now in
    let p = c.loop-p.p in
    let here : c.at-i.result ≡ get_or list p 0 = is p _ (omega arith) c.at-i.ensures in
    never_next (present list) (reaching (lens_of v.lens.now) v.k v.words.now list c.args.b.track c.args.b.at) p (c.loop-p.invariant list is)
    (elim c.else-i-ne0.branch [
      | else-i-ne0-via-then-i-ne0+else-reaches w ↦ inr (rw (w.reaches.ensures, here) at w.if-reaches.false)
      | else-i-ne0-via-else-i-ne0 w ↦ inl (lt-leb 1 (get_or list p 0) (omega arith))
    ])

pub returns : goal.returns
unfolding none_reaches
returns g c = λ list is.
    let e : c.loop-p.p ≡ c.args.self.now.k = omega arith in
    sym (rw e at c.loop-p.invariant list is)
