-- `bounds::Vectors::reaches_none`: after q turns the unit at a reaches none in a track below q. Assumes nothing.
use mathlib.Core.Path.{◌≡◌}
use mathlib.Core.Bool.{true}
use Rattle.rules.specs.Index.{lens_of}
use Rattle.bounds.proofs.Reaching.{never, inside, reached}
use Rattle.bounds.proofs.Vectors.reaches_none.Given as goal

abbrev pub invariant-loop-q : goal.invariant-loop-q
invariant-loop-q l = never (inside (lens_of l.self.lens.now) l.at) (reached (lens_of l.self.lens.now) l.self.k l.self.words.now l.a.track l.a.at l.at) l.q ≡ true
