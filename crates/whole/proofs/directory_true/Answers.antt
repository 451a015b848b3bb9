-- What each answer adds: the first entry, the entry after a true one, and a turn that finds it right or wrong.
use Prim.Native.Nat.{ℕ, ◌+◌, ◌-◌, ◌≤◌}
use mathlib.Core.Path.{◌≡◌, sym, ap}
use mathlib.Core.Bool.{Bool, true, false, ◌&&◌}
use mathlib.Core.List.{List}
use mathlib.Core.Logic.{◌⊎◌, inl, inr}
use native.Mathlib.Omega.{arith}
use lib.ListN.{get_or}
use lib.Dec.{eqb}
use lib.Count.{ones}
use Rattle.std.proofs.lemmas.Bool.Decides.{nat_tests}
use borrow.Author.Tests.{eqb-true}
use Rattle.rules.specs.Ranges.{every}
use Rattle.rules.specs.Bits.{ones_before}
use Rattle.rules.proofs.Ranges.{true_or_false, every_all, every_one, every-next}
use Rattle.rules.proofs.Bits.{ones_before_none, ones_before-next}
use Rattle.whole.proofs.directory_true.Goals as goal

-- the directory's entry j is true
abbrev entry_true : List ℕ → List ℕ → ℕ → Bool
entry_true words directory j = eqb (get_or directory j 0) (ones_before words j)

module _ (words directory : List ℕ) where
  -- the first entry
  entry_first : eqb (get_or directory 0 0) 0 ≡ every (entry_true words directory) 1
  entry_first =
      let none : every (entry_true words directory) 0 ≡ true = every_all (entry_true words directory) 0 (λ i l. absurd (omega arith)) in
      rw (every-next (entry_true words directory) 0, none, ones_before_none words)

  -- after a true entry the next is known
  entry_next : (j : ℕ) → 1 ≤ j → every (entry_true words directory) j ≡ true → get_or directory (j - 1) 0 + ones (get_or words (j - 1) 0) ≡ ones_before words j
  entry_next j h t =
      let f : j - 1 + 1 ≡ j = omega arith in
      let e = eqb-true (get_or directory (j - 1) 0) (ones_before words (j - 1)) (every_one (entry_true words directory) j (j - 1) t (omega arith)) in
      omega (arith, e, ones_before-next words (j - 1), ap (ones_before words) f)

  -- so entry j is tested by the one before it
  entry_test : (j : ℕ) → 1 ≤ j → every (entry_true words directory) (j + 1)
      ≡ (every (entry_true words directory) j && eqb (get_or directory j 0) (get_or directory (j - 1) 0 + ones (get_or words (j - 1) 0)))
  entry_test j h = rw (every-next (entry_true words directory) j) (go (true_or_false (every (entry_true words directory) j)))
    where
      go : (every (entry_true words directory) j ≡ true) ⊎ (every (entry_true words directory) j ≡ false)
          → (every (entry_true words directory) j && entry_true words directory j)
          ≡ (every (entry_true words directory) j && eqb (get_or directory j 0) (get_or directory (j - 1) 0 + ones (get_or words (j - 1) 0)))
      go (inl t) = rw (entry_next j h t)
      go (inr f) = rw f

pub returns-then-count-eq0 : goal.returns-then-count-eq0
returns-then-count-eq0 c = sym (every_all (entry_true c.args.words.now c.args.directory.now) c.args.count (λ j l. absurd (omega arith)))

pub loop-j-init : goal.loop-j-init
loop-j-init c = entry_first c.args.words.now c.args.directory.now

pub loop-j-preserved : goal.loop-j-preserved
loop-j-preserved c =
    let test = entry_test c.args.words.now c.args.directory.now c.loop-j.j (omega arith) in
    grind (arith, test, nat_tests, c.loop-j.invariant)
