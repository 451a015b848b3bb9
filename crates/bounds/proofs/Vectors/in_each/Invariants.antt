-- `bounds::Vectors::in_each`: after q turns the bound stands for the tracks below q. Assumes nothing.
use Prim.Native.Nat.{ℕ, ◌<◌}
use mathlib.Core.Path.{◌≡◌}
use Rattle.rules.proofs.Ranges.{table_to}
use Rattle.bounds.proofs.Vectors.in_each.Given as goal

abbrev pub invariant-loop-q : goal.invariant-loop-q
invariant-loop-q g l = (f : ℕ → ℕ) → ((q i : ℕ) → q < l.self.k → goal.F-post g l.bound q i → i ≡ f q) → l.at ≡ table_to f 32 l.q
