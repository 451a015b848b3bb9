-- The ones of a unit among the words, what the filling of an index is given, and the outcome of a build from its parts.
use Rattle.std.specs.Prelude.{ℕ, ◌+◌, ◌*◌, max, ◌≡◌, Bool, not, ◌&&◌, List, length, get_or, eqb, Result, Ok, Err}
use Rattle.rules.specs.declared.Built.{Built}
use Rattle.rules.specs.declared.Refusal.{Refusal}
use Rattle.rules.specs.Ranges.{bit1, some, table}
use Rattle.rules.specs.Listing.{Listing, size}
use Rattle.rules.specs.Order.{sound_verdict}
use Rattle.rules.specs.Layout.{offset}
use Rattle.rules.specs.Bits.{bit}
use Rattle.rules.specs.Index.{built_work}
use Rattle.rules.specs.Outcomes.{empty_head, BuildAnswer, BuildOutcome}
use Rattle.rules.proofs.Accepted.{Accepted}

-- bit x is the 1 of unit i + 1, of track p, in vector p,q, by its row: own low plus low in q
unfoldable pub one_of : (ℕ → ℕ) → ℕ → List ℕ → ℕ → ℕ → ℕ → ℕ → Bool
one_of s k work p i x q = not (eqb q p) && eqb (offset s k p q + get_or work (i * k + p) 0 + get_or work (i * k + q) 0) x

-- the words with the ones of that unit set in the first m of the vectors p,q
pub record OnesSet (s : ℕ → ℕ) (k : ℕ) (work : List ℕ) (p i m : ℕ) (words now-words : List ℕ) : Type 0 where
  pub same_length : length now-words ≡ length words
  pub each_bit : (x : ℕ) → bit now-words x ≡ max (bit words x) (bit1 (some (one_of s k work p i x) m))

-- what the filling of an index is given: an accepted listing with sound tracks, the lengths of its tracks and its rows
pub record Given (c : Listing) (lens work : List ℕ) : Type 0 where
  pub accepted : Accepted c
  pub sound : sound_verdict c ≡ Ok tt
  pub lens_are : lens ≡ table (size c.tracks) 32
  pub work_is : work ≡ built_work c

-- the answer of a build: where it is refused, an empty head and no bits
abbrev pub answered : Result Built Refusal → BuildAnswer
answered (Ok b) = record { head = b.head; bits = b.bits; verdict = Ok tt }
answered (Err r) = record { head = empty_head; bits = 0; verdict = Err r }

-- the same with the areas that it leaves
abbrev pub outcome : Result Built Refusal → List ℕ → List ℕ → List ℕ → BuildOutcome
outcome answer words directory work = record { answer = answered answer; words = words; directory = directory; work = work }
