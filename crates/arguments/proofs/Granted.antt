-- From what was judged of an index to what its questions require. Assumes nothing.
use Rattle.std.specs.Prelude.{Ok}
use Prim.Native.Nat.{ℕ}
use mathlib.Core.Path.{◌≡◌, sym, ap}
use mathlib.Core.Bool.{true}
use mathlib.Core.List.{List}
use native.Mathlib.Omega.{arith}
use Rattle.rules.specs.declared.Refusal.TheVariants.{BadArgument}
use Rattle.rules.specs.Listing.{within}
use Rattle.rules.specs.Refusals.{unless}
use Rattle.rules.specs.Index.{Index, index, whole}
use Rattle.rules.proofs.Verdicts.{unless_fine, within_is}
use Rattle.rules.proofs.Wholes.{whole_is}
use Rattle.whole.specs.Judged.{judged}
use Rattle.whole.proofs.Judging.{judged-whole}
use Rattle.known.specs.Asked.{parts, Sure, UnitOf}

-- an index as its parts are lent
abbrev pub parts_of : Index → Index
parts_of x = parts x.head.lens x.head.k x.tracks x.words x.directory

module _ (x : Index) where
  -- a whole index is its parts: its count of units is the length of its track list
  pub parts_are : whole x ≡ true → parts_of x ≡ x
  parts_are good =
      ap (λ (n : ℕ). index (record { lens = x.head.lens; n = n; k = x.head.k }) x.tracks x.words x.directory)
      (whole_is x good).tracks_long

  -- an index that is judged whole is whole, and its vectors start where the table says
  pub judged_sure : (row : List ℕ) → Ok row ≡ judged x → Sure (parts_of x) row
  judged_sure row e =
      let known = judged-whole x row e in
      record { is_whole = rw (parts_are known.0) known.0; starts = known.1 }

  pub judged_parts : (row : List ℕ) → Ok row ≡ judged x → parts_of x ≡ x
  judged_parts row e = parts_are (judged-whole x row e).0

  -- an argument that is found to be a unit is one of its track list
  pub unit_of : (row : List ℕ) → Ok row ≡ judged x → (u which : ℕ) → Ok tt ≡ unless (within 1 x.head.n u) (BadArgument which) → UnitOf x.tracks u
  unit_of row e u which f =
      let unit = within_is 1 x.head.n u (unless_fine (within 1 x.head.n u) (BadArgument which) (sym f)) in
      let long = (whole_is x (judged-whole x row e).0).tracks_long in
      record { from = unit.0; to = omega (arith, unit.1, long) }
