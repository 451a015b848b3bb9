-- What judging an index answers.
use Rattle.std.specs.Prelude.{ℕ, cond, List, [], ◌∷◌, eqb, Result, Ok, Err}
use Rattle.rules.specs.Index.{Index, sizes, areas_reach, spare_clear, directory_true, vectors_true, first_failing, fault}
use Rattle.layout.specs.Starts.{row_starts}
use Rattle.whole.specs.declared.Fault.{Fault}
use Rattle.whole.specs.declared.Fault.TheVariants.{OutOfRange, BadTracks, BadLengths, ShortArea, SpareBit, BadDirectory, BadVector}

-- the fault that the failing of each condition is, by the number of the condition, from 1
abbrev pub fault_of : ℕ → Fault
fault_of number =
    cond (eqb number 1) OutOfRange
    (cond (eqb number 2) BadTracks
    (cond (eqb number 3) BadLengths
    (cond (eqb number 4) ShortArea (cond (eqb number 5) SpareBit (cond (eqb number 6) BadDirectory BadVector)))))

-- the fault of the first condition that fails, and where there is none the first bit of the vectors of each track
unfoldable pub judged_by : (ℕ → ℕ) → ℕ → ℕ → Result (List ℕ) Fault
judged_by s k number = cond (eqb number 0) (Ok (row_starts s k)) (Err (fault_of number))

unfoldable pub judged : Index → Result (List ℕ) Fault
judged x = judged_by (sizes x) x.head.k (fault x)

-- the number of the first of the conditions 4 to 7 that fails
unfoldable pub areas_fault : (ℕ → ℕ) → ℕ → List ℕ → List ℕ → ℕ
areas_fault s k words directory =
    first_failing 4
    (areas_reach s k words directory ∷ spare_clear s k words ∷ directory_true s k words directory ∷ vectors_true s k words ∷ [])
