-- A file taken by pieces of eleven bytes prints the same as one taken line by line: a frame is a line of eleven bytes, and any other line
-- stops the reading in both.
-- Assumes nothing.
use Prim.Native.Nat.{ℕ, zero, suc, ◌+◌, ◌-◌, ◌*◌, ◌≤◌, ◌<◌, min}
use mathlib.Core.Path.{◌≡◌, refl, sym, ap, ◌∙◌}
use mathlib.Core.Bool.{true, false, cond}
use mathlib.Core.List.{List, [], ◌∷◌, ◌++◌, append_assoc, append-nil}
use mathlib.Core.Logic.{◌⊎◌, inl, inr}
use native.Mathlib.Omega.{arith}
use native.Mathlib.Nat.{add-suc, add-zero}
use lib.ListN.{length, get_or, take, drop, length-take, length-drop}
use lib.Seq.{take_all, drop-drop, get_or-take, get_or-drop, ext_get_or}
use lib.Dec.{eqb}
use borrow.Author.Tests.{ne_eqb}
use Rattle.rules.proofs.Ranges.{true_or_false}
use Rattle.rules.specs.declared.Refusal.TheVariants as refusal
use Rattle.frames.specs.declared.Frame.{Frame}
use Rattle.std.specs.Prelude.{Option, Some, None}
use Rattle.frames.specs.Lines.{line_of}
use Rattle.answers.specs.Printed.{refused_line}
use Rattle.frames.proofs.Frames.{line_short, line_long, line_feed_last}
use Rattle.reading.specs.declared.Phase.{Phase}
use Rattle.reading.specs.declared.Phase.TheVariants.{Head, Tracks, Needs, Asking, Stopped}
use Rattle.reading.specs.Card.{Reading, Next, reads, refuse, read_line, unfinished, at_end, start}
use Rattle.order.proofs.Turns.{stopped_line, no_frame_line}
use Rattle.card.specs.Files.{first_line, printed_from, course_prints, fed, rest_printed}
use Rattle.reading.specs.Held.{next}

-- ---- the first line

pub first_line_longest : (bytes : List ℕ) → length (first_line bytes) ≤ length bytes
unfolding first_line
first_line_longest [] = omega arith
first_line_longest (b ∷ bs) = go (true_or_false (eqb b 10)) (first_line_longest bs)
  where
    go : (eqb b 10 ≡ true) ⊎ (eqb b 10 ≡ false) → length (first_line bs) ≤ length bs
        → length (b ∷ cond (eqb b 10) [] (first_line bs)) ≤ length (b ∷ bs)
    go (inl t) h = rw t (omega arith)
    go (inr f) h = rw f (omega arith)

-- it takes a byte at least
pub first_line-some : (b : ℕ) (bs : List ℕ) → 1 ≤ length (first_line (b ∷ bs))
unfolding first_line
first_line-some b bs = omega arith

pub first_line_taken : (bytes : List ℕ) → first_line bytes ≡ take (length (first_line bytes)) bytes
unfolding first_line
first_line_taken [] = refl
first_line_taken (b ∷ bs) = go (true_or_false (eqb b 10)) (first_line_taken bs)
  where
    go : (eqb b 10 ≡ true) ⊎ (eqb b 10 ≡ false) → first_line bs ≡ take (length (first_line bs)) bs
        → b ∷ cond (eqb b 10) [] (first_line bs) ≡ take (length (b ∷ cond (eqb b 10) [] (first_line bs))) (b ∷ bs)
    go (inl t) h = rw t
    go (inr f) h = rw f (ap (λ (l : List ℕ). b ∷ l) h)

-- it ends at the first line feed
pub first_line_ends : (bytes : List ℕ) (i : ℕ) → i < length bytes → get_or bytes i 0 ≡ 10 → ((j : ℕ) → j < i → get_or bytes j 0 ≡ 10 → ⊥)
    → first_line bytes ≡ take (suc i) bytes
unfolding first_line
first_line_ends [] i l e before = absurd (omega arith)
first_line_ends (b ∷ bs) zero l e before = rw e
first_line_ends (b ∷ bs) (suc i) l e before =
    rw (ne_eqb b 10 (before 0 (omega arith)))
    (ap (λ (l : List ℕ). b ∷ l) (first_line_ends bs i (omega arith) e (λ j k. before (suc j) (omega arith))))

-- ---- the first line and the first eleven bytes

-- eleven bytes that are a frame are the first line
pub piece_frame : (bytes : List ℕ) {f : Frame} → line_of (take 11 bytes) ≡ Some f → first_line bytes ≡ take 11 bytes
piece_frame bytes h =
    let long = line_long (take 11 bytes) h in
    let feed = line_feed_last (take 11 bytes) h in
    first_line_ends bytes 10 (omega (arith, length-take 11 bytes)) (sym (get_or-take 11 bytes 10 0 (omega arith)) ∙ feed.0)
    (λ j k e. feed.1 j k (get_or-take 11 bytes j 0 (omega arith) ∙ e))

-- a first line that is a frame is eleven bytes
pub line_frame : (bytes : List ℕ) {f : Frame} → line_of (first_line bytes) ≡ Some f → first_line bytes ≡ take 11 bytes
line_frame bytes h = first_line_taken bytes ∙ rw (line_long (first_line bytes) h)

pub piece_says : (bytes : List ℕ) → line_of (take 11 bytes) ≡ line_of (first_line bytes)
piece_says bytes = go (line_of (take 11 bytes)) (line_of (first_line bytes)) refl refl
  where
    go : (a b : Option Frame) → line_of (take 11 bytes) ≡ a → line_of (first_line bytes) ≡ b → line_of (take 11 bytes) ≡ line_of (first_line bytes)
    go (Some f) b p q = rw (piece_frame bytes p)
    go None (Some f) p q = rw (line_frame bytes q)
    go None None p q = p ∙ sym q

pub piece_line : (r : Reading) (bytes : List ℕ) → read_line r (take 11 bytes) ≡ read_line r (first_line bytes)
unfolding read_line
piece_line r bytes = rw (piece_says bytes)

-- fewer than eleven bytes hold no frame
pub short_line : (bytes : List ℕ) → length bytes < 11 → line_of (first_line bytes) ≡ None
short_line bytes h = line_short (first_line bytes) (λ e. omega (arith, first_line_longest bytes))

-- ---- a reading that has stopped

-- a line that is no frame stops the reading
pub no_frame_stops : (r : Reading) (line : List ℕ) → line_of line ≡ None → reads (read_line r line).reading.phase ≡ false
unfolding refuse
no_frame_stops r line h = go (true_or_false (reads r.phase))
  where
    go : (reads r.phase ≡ true) ⊎ (reads r.phase ≡ false) → reads (read_line r line).reading.phase ≡ false
    go (inl t) = rw (no_frame_line r line t h)
    go (inr f) = rw (stopped_line r line f) f

pub stopped_end : (phase : Phase) → reads phase ≡ false → unfinished phase ≡ false
stopped_end Head h = h
stopped_end Tracks h = h
stopped_end Needs h = h
stopped_end Asking h = refl
stopped_end Stopped h = refl

pub stopped_prints : (turns : ℕ) (r : Reading) (bytes : List ℕ) → reads r.phase ≡ false → printed_from turns r bytes ≡ []
unfolding printed_from read_line
stopped_prints zero r bytes h = rw (stopped_end r.phase h)
stopped_prints (suc turns) r [] h = rw (stopped_end r.phase h)
stopped_prints (suc turns) r (b ∷ bs) h = rw h (stopped_prints turns r (drop (length (first_line (b ∷ bs))) (b ∷ bs)) h)

-- ---- what is printed from a reading on

-- past the first line fewer bytes are left
pub rest_shorter : (b : ℕ) (bs : List ℕ) → length (drop (length (first_line (b ∷ bs))) (b ∷ bs)) ≤ length bs
rest_shorter b bs = omega (arith, first_line-some b bs, length-drop (length (first_line (b ∷ bs))) (b ∷ bs))

-- as many turns as bytes are enough
pub turns_enough : (turns turns' : ℕ) (r : Reading) (bytes : List ℕ) → length bytes ≤ turns → length bytes ≤ turns'
    → printed_from turns r bytes ≡ printed_from turns' r bytes
unfolding printed_from
turns_enough zero zero r bytes h l = refl
turns_enough zero (suc turns') r [] h l = refl
turns_enough zero (suc turns') r (b ∷ bs) h l = absurd (omega arith)
turns_enough (suc turns) zero r [] h l = refl
turns_enough (suc turns) zero r (b ∷ bs) h l = absurd (omega arith)
turns_enough (suc turns) (suc turns') r [] h l = refl
turns_enough (suc turns) (suc turns') r (b ∷ bs) h l =
    let line = first_line (b ∷ bs) in
    rw
    (turns_enough
    turns
    turns'
    (read_line r line).reading
    (drop (length line) (b ∷ bs))
    (omega (arith, rest_shorter b bs))
    (omega (arith, rest_shorter b bs)))

abbrev pub prints : Reading → List ℕ → List ℕ
prints r bytes = printed_from (length bytes) r bytes

pub line_prints : (r : Reading) (b : ℕ) (bs : List ℕ) → let line = first_line (b ∷ bs) in
    prints r (b ∷ bs) ≡ (read_line r line).printed ++ prints (read_line r line).reading (drop (length line) (b ∷ bs))
unfolding printed_from
line_prints r b bs =
    let line = first_line (b ∷ bs) in
    rw (turns_enough (length bs) (length (drop (length line) (b ∷ bs))) (read_line r line).reading (drop (length line) (b ∷ bs)) (rest_shorter b bs) (omega arith))

-- of a line that is no frame only its own bytes are printed
pub no_frame_prints : (r : Reading) (b : ℕ) (bs : List ℕ) → line_of (first_line (b ∷ bs)) ≡ None
    → prints r (b ∷ bs) ≡ (read_line r (first_line (b ∷ bs))).printed
no_frame_prints r b bs h =
    let line = first_line (b ∷ bs) in
    let rest = drop (length line) (b ∷ bs) in
    line_prints r b bs ∙ rw (stopped_prints (length rest) (read_line r line).reading rest (no_frame_stops r line h), append-nil)

-- ---- pieces

-- the first eleven bytes are read, and the rest from there
pub piece_prints : (r : Reading) (bytes : List ℕ) → 11 ≤ length bytes
    → prints r bytes ≡ (read_line r (take 11 bytes)).printed ++ prints (read_line r (take 11 bytes)).reading (drop 11 bytes)
piece_prints r [] h = absurd (omega arith)
piece_prints r (b ∷ bs) h = go (line_of (first_line (b ∷ bs))) refl
  where
    go : (line : Option Frame) → line_of (first_line (b ∷ bs)) ≡ line
        → prints r (b ∷ bs) ≡ (read_line r (take 11 (b ∷ bs))).printed ++ prints (read_line r (take 11 (b ∷ bs))).reading (drop 11 (b ∷ bs))
    go (Some f) e =
        line_prints r b bs
        ∙ rw (line_long (first_line (b ∷ bs)) e, line_frame (b ∷ bs) e)
    go None e =
        no_frame_prints r b bs e
        ∙ rw (
          piece_line r (b ∷ bs),
          stopped_prints (length (drop 11 (b ∷ bs))) (read_line r (first_line (b ∷ bs))).reading (drop 11 (b ∷ bs)) (no_frame_stops r (first_line (b ∷ bs)) e),
          append-nil,
        )

-- m pieces are read, and the rest from there
pub fed_prints : (r : Reading) (bytes : List ℕ) (m : ℕ) → 11 * m ≤ length bytes
    → prints r bytes ≡ (fed r bytes m).printed ++ prints (fed r bytes m).reading (drop (11 * m) bytes)
unfolding fed
fed_prints r bytes zero h = refl
fed_prints r bytes (suc m) h =
    let e : 11 * suc m ≡ 11 * m + 11 = omega arith in
    fed_prints r bytes m (omega arith)
    ∙ rw (e, ← drop-drop 11 (11 * m) bytes, append_assoc)
    (ap (λ (l : List ℕ). (fed r bytes m).printed ++ l) (piece_prints (fed r bytes m).reading (drop (11 * m) bytes) (omega (arith, length-drop (11 * m) bytes))))

-- a piece of a part from the front is that piece of the whole
piece_part : (l : List ℕ) (n a : ℕ) → a + 11 ≤ n → take 11 (drop a (take n l)) ≡ take 11 (drop a l)
piece_part l n a h =
    ext_get_or 0 (take 11 (drop a (take n l))) (take 11 (drop a l)) (simp (length-take, length-drop) (omega arith))
    (λ i q. at_each i (let b : i < min 11 (min n (length l) - a) = simp (length-take, length-drop) at q in omega arith))
  where
    at_each : (i : ℕ) → i < 11 → get_or (take 11 (drop a (take n l))) i 0 ≡ get_or (take 11 (drop a l)) i 0
    at_each i b =
        get_or-take 11 (drop a (take n l)) i 0 b
        ∙ get_or-drop a (take n l) i 0
        ∙ get_or-take n l (a + i) 0 (omega arith)
        ∙ sym (get_or-take 11 (drop a l) i 0 b ∙ get_or-drop a l i 0)

-- so what a file brings does not depend on the blocks in which it is read
pub fed-part : (r : Reading) (bytes : List ℕ) (n m : ℕ) → 11 * m ≤ n → fed r (take n bytes) m ≡ fed r bytes m
unfolding fed
fed-part r bytes n zero h = refl
fed-part r bytes n (suc m) h =
    rw (fed-part r bytes n m (omega arith), piece_part bytes n (11 * m) (omega arith))

-- m pieces and then m' from the rest
pub fed_add : (r : Reading) (bytes : List ℕ) (m m' : ℕ) →
    let first = fed r bytes m in
    let more = fed first.reading (drop (11 * m) bytes) m' in
    fed r bytes (m + m') ≡ next more.reading (first.printed ++ more.printed)
unfolding fed
fed_add r bytes m zero = rw (add-zero, append-nil)
fed_add r bytes m (suc m') =
    let e : 11 * (m + m') ≡ 11 * m + 11 * m' = omega arith in
    rw (add-suc, fed_add r bytes m m', e, ← drop-drop (11 * m') (11 * m) bytes, append_assoc)

-- ---- the bytes at the end

pub rest_none : (r : Reading) (bytes : List ℕ) → length bytes ≤ 0 → rest_printed r bytes ≡ at_end r
unfolding rest_printed
rest_none r [] h = refl
rest_none r (b ∷ bs) h = absurd (omega arith)

pub rest_stopped : (r : Reading) (bytes : List ℕ) → reads r.phase ≡ false → rest_printed r bytes ≡ []
unfolding rest_printed
rest_stopped r [] h = rw (stopped_end r.phase h)
rest_stopped r (b ∷ bs) h = ap (λ (x : Next). x.printed) (stopped_line r (b ∷ bs) h)

pub rest_refused : (r : Reading) (bytes : List ℕ) → reads r.phase ≡ true → 0 < length bytes → length bytes < 11
    → rest_printed r bytes ≡ refused_line (refusal.NoFrame (r.lines + 1))
unfolding rest_printed refuse
rest_refused r [] h some few = absurd (omega arith)
rest_refused r (b ∷ bs) h some few =
    ap (λ (x : Next). x.printed) (no_frame_line r (b ∷ bs) h (line_short (b ∷ bs) (λ e. omega arith)))

-- the fewer than eleven bytes at the end
pub rest_prints : (r : Reading) (bytes : List ℕ) → length bytes < 11 → prints r bytes ≡ rest_printed r bytes
unfolding rest_printed printed_from
rest_prints r [] h = refl
rest_prints r (b ∷ bs) h =
    no_frame_prints r b bs (short_line (b ∷ bs) h)
    ∙ rw (← piece_line r (b ∷ bs), take_all 11 (b ∷ bs) (omega arith))

-- a file fed by pieces prints the same: no more once the reading has stopped, and with the rest once fewer than eleven bytes are left
module _ (file : List ℕ) (m : ℕ) (h : 11 * m ≤ length file) where
  prints_fed : course_prints file ≡ (fed start file m).printed ++ prints (fed start file m).reading (drop (11 * m) file)
  unfolding course_prints
  prints_fed = fed_prints start file m h

  pub prints_by_pieces : (reads (fed start file m).reading.phase ≡ false → course_prints file ≡ (fed start file m).printed)
      × (length file < 11 * m + 11
      → course_prints file ≡ (fed start file m).printed ++ rest_printed (fed start file m).reading (drop (11 * m) file))
  prints_by_pieces = (
    λ s. prints_fed ∙ rw (stopped_prints (length (drop (11 * m) file)) (fed start file m).reading (drop (11 * m) file) s, append-nil),
    λ s. prints_fed ∙ rw (rest_prints (fed start file m).reading (drop (11 * m) file) (omega (arith, length-drop (11 * m) file))),
  )
