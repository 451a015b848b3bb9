-- `bounds::Vectors::none_of`: after p turns no unit in a track below p reaches the unit at b. Assumes nothing.
use Prim.Native.Nat.{ℕ, ◌<◌}
use mathlib.Core.Path.{◌≡◌}
use mathlib.Core.Bool.{true}
use mathlib.Core.List.{List}
use lib.ListN.{get_or}
use Rattle.rules.specs.Index.{lens_of}
use Rattle.bounds.proofs.Reaching.{never, present, reaching}
use Rattle.bounds.proofs.Vectors.none_of.Given as goal

abbrev pub invariant-loop-p : goal.invariant-loop-p
invariant-loop-p g l = (list : List ℕ) → ((p i : ℕ) → p < l.self.k → goal.F-post g l.at p i → i ≡ get_or list p 0)
    → never (present list) (reaching (lens_of l.self.lens.now) l.self.k l.self.words.now list l.b.track l.b.at) l.p ≡ true
