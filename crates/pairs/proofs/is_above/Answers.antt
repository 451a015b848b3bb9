-- `pairs::is_above`: tuples are ordered by their first parts, then by their second. Assumes nothing.
use Rattle.std.proofs.Common.{◌≡◌, ◌∙◌, Bool, true, false, ◌&&◌, ◌||◌, cond, refl, Some, ltb, eqb}
use Rattle.std.specs.declared.cmp.Ordering.TheVariants.{Less, Equal, Greater}
use Rattle.std.specs.Ordering.{is_lt, is_some_and, partial_ordering_then}
use Rattle.rules.specs.Listing.{units_above}
use Rattle.pairs.proofs.is_above.Goals as goal

-- by the four tests that the two comparisons make
by_tests : (less same less_2 same_2 : Bool)
    → is_some_and is_lt (partial_ordering_then (Some (cond less Less (cond same Equal Greater))) (Some (cond less_2 Less (cond same_2 Equal Greater)))) ≡ (less || (same && less_2))
by_tests true same less_2 same_2 = refl
by_tests false false less_2 same_2 = refl
by_tests false true true same_2 = refl
by_tests false true false true = refl
by_tests false true false false = refl

pub returns : goal.returns
unfolding units_above
returns c = let s = c.args in c.lt.ensures ∙ by_tests (ltb s.a s.u) (eqb s.a s.u) (ltb s.b s.v) (eqb s.b s.v)
