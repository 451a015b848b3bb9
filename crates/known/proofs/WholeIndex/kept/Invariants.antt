-- `known::WholeIndex::kept`: after q turns the spans of the tracks below q stand, of one position where the place passes and of none
-- elsewhere. Assumes nothing.
use Prim.Native.Nat.{ℕ, ◌<◌}
use mathlib.Core.Path.{◌≡◌}
use mathlib.Core.Bool.{Bool}
use lib.ListN.{get_or}
use Rattle.known.proofs.StepSpans.{filled}
use Rattle.known.proofs.WholeIndex.kept.Given as goal

abbrev pub invariant-loop-q : goal.invariant-loop-q
invariant-loop-q g l = (p : ℕ → Bool) → ((q : ℕ) (b : Bool) → q < l.self.vectors.k → goal.F-post g l.passes (record { track = q; at = get_or l.at q 0 }) b → b ≡ p q)
    → (l.spans.from ≡ filled p l.at 1 l.q) × (l.spans.to ≡ filled p l.at 0 l.q)
