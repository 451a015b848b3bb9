-- What the course program prints for a file, as a function of the file's bytes.
use Rattle.std.specs.Prelude.{ℕ, zero, suc, ◌+◌, ◌*◌, ◌/◌, ◌≡◌, Bool, cond, not, ◌&&◌, List, [], ◌∷◌, ◌++◌, length, take, drop, leb, eqb}
use Rattle.rules.specs.Ranges.{first, over}
use Rattle.reading.specs.Card.{Reading, Next, read_line, reads, at_end, start}
use Rattle.reading.specs.Held.{Areas, reading_of, Fit}
use Rattle.card.specs.declared.Progress.{Progress}

-- the first line of the bytes, its line feed included where it has one
unfoldable pub first_line : List ℕ → List ℕ
first_line [] = []
first_line (b ∷ bs) = b ∷ cond (eqb b 10) [] (first_line bs)

-- the one where there are no bytes, else the other
abbrev pub if_none : List ℕ → List ℕ → List ℕ → List ℕ
if_none [] none some = none
if_none (b ∷ bs) none some = some

-- what is printed from a reading on; each line takes a byte at least, so as many turns as bytes are enough
unfoldable pub printed_from : ℕ → Reading → List ℕ → List ℕ
printed_from zero r bytes = at_end r
printed_from (suc turns) r bytes =
    let line = first_line bytes in
    let next = read_line r line in
    if_none bytes (at_end r) (next.printed ++ printed_from turns next.reading (drop (length line) bytes))

unfoldable pub course_prints : List ℕ → List ℕ
course_prints file = printed_from (length file) start file

-- ---- the same by pieces of eleven bytes, as the program takes a file

-- a reading after m pieces, and all that was printed on the way
unfoldable pub fed : Reading → List ℕ → ℕ → Next
fed r bytes zero = record { reading = r; printed = [] }
fed r bytes (suc m) =
    let before = fed r bytes m in
    let next = read_line before.reading (take 11 (drop (11 * m) bytes)) in
    record { reading = next.reading; printed = before.printed ++ next.printed }

-- whether another piece is read after m of them: eleven bytes are left, so much room holds any answer more, and the reading goes on
abbrev pub reads_on : Reading → List ℕ → ℕ → ℕ → Bool
reads_on r bytes room m =
    leb (11 * m + 11) (length bytes) && leb (length (fed r bytes m).printed + 5125) room && reads (fed r bytes m).reading.phase

-- how many pieces are read: all up to the first that is not
unfoldable pub pieces_read : Reading → List ℕ → ℕ → ℕ
pieces_read r bytes room = first (λ m. not (reads_on r bytes room m)) (length bytes / 11)

-- what is printed for the fewer than eleven bytes that are left at the end: they are no frame
unfoldable pub rest_printed : Reading → List ℕ → List ℕ
rest_printed r [] = at_end r
rest_printed r (b ∷ bs) = (read_line r (b ∷ bs)).printed

-- ---- what a run of lines leaves

-- after m pieces: the reading, the bytes taken and printed, what stands in the line area, and a card that is fit
pub record RanTo (m : ℕ) (r : Reading) (bytes out : List ℕ) (progress : Progress) (a : Areas) (out' : List ℕ) : Type 0 where
  pub reading_is : reading_of progress.card a ≡ (fed r bytes m).reading
  pub used_is : progress.used ≡ 11 * m
  pub wrote_is : progress.wrote ≡ length (fed r bytes m).printed
  pub out_is : out' ≡ over out (fed r bytes m).printed
  pub fit : Fit progress.card a

abbrev pub Ran : Reading → List ℕ → List ℕ → Progress → Areas → List ℕ → Type 0
Ran r bytes out = RanTo (pieces_read r bytes (length out)) r bytes out
