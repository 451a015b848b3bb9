-- The low that the closure looks up is that of the table. Assumes nothing.
use Prim.Native.Nat.{◌≤◌, ◌<◌}
use mathlib.Core.Path.{◌≡◌, sym, ◌∙◌}
use mathlib.Core.Bool.{cond}
use native.Mathlib.Omega.{arith}
use lib.Dec.{ltb}
use borrow.Author.Tests.{lt-ltb}
use Rattle.std.proofs.Common.{rules}
use Rattle.rules.specs.Ranges.{table}
use Rattle.rules.proofs.Ranges.{get_or-table}
use Rattle.rules.proofs.Vectors.{low_at_most}
use Rattle.bounds.specs.Places.{low}
use Rattle.bounds.proofs.Covering.{ones_true}
use Rattle.bounds.proofs.Vectors.none_between.Goals as goal

pub none_of-requires-clause-within : goal.none_of-requires-clause-within
none_of-requires-clause-within c = λ t i l e.
    let v = c.args.self.now in
    let at = c.requires.standing in
    let is : i ≡ low v c.args.a t = search rules in
    omega (arith, low_at_most (ones_true v.known) c.args.a.track t at.in_track l c.args.a.at at.from at.to)

pub returns : goal.returns
returns c =
    let v = c.args.self.now in
    c.none_of.ensures (table (λ t. cond (ltb t v.k) (low v c.args.a t) 0) 32) (λ t i l e.
    let is : i ≡ low v c.args.a t = search rules in
    let few : v.k ≤ 32 = v.known.lengths.few_tracks in
    let short : t < 32 = omega arith in
    is ∙ sym (get_or-table _ 32 t short ∙ rw (lt-ltb t v.k l)))
