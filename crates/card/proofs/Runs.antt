-- Line after line: the pieces of eleven bytes that were read, what was printed for them, and why no further piece is read.
-- Assumes nothing.
use Prim.Native.Nat.{ℕ, suc, ◌+◌, ◌-◌, ◌*◌, ◌/◌, ◌≤◌, ◌<◌}
use mathlib.Core.Path.{◌≡◌, refl, sym, ap, ◌∙◌}
use mathlib.Core.Bool.{Bool, true, false, not, ◌&&◌}
use mathlib.Core.List.{List}
use native.Mathlib.Omega.{arith}
use native.Mathlib.Decide.{dec_lt}
use lib.ListN.{length, take, drop, length-append}
use lib.Dec.{leb}
use borrow.Author.Tests.{leb-true, le-leb, lt-leb}
use borrow.Rule.Slice.PartMut.{mid_of, put_mid}
use Rattle.rules.specs.Ranges.{first, over}
use Rattle.rules.proofs.Ranges.{first_at}
use Rattle.rules.proofs.Verdicts.{and_both}
use Rattle.rules.proofs.Overs.{part_back}
use Rattle.reading.specs.declared.Card.{Card}
use Rattle.reading.specs.declared.Step.{Step}
use Rattle.reading.specs.Card.{Reading, Next, reads, read_line}
use Rattle.reading.specs.Held.{Areas, reading_of, Fit, Took}
use Rattle.card.specs.Files.{fed, reads_on, pieces_read, RanTo, Ran}

-- a card that has read m pieces from a first reading on, each of which was to be read
pub record Running (r : Reading) (bytes out₀ : List ℕ) (card : Card) (a : Areas) (out : List ℕ) (used wrote : ℕ) : Type 0 where
  pub pieces : ℕ
  pub ran : RanTo pieces r bytes out₀ (record { card = card; used = used; wrote = wrote }) a out
  pub used_in : used ≤ length bytes
  pub wrote_in : wrote ≤ length out₀
  pub on_before : (m : ℕ) → m < pieces → reads_on r bytes (length out₀) m ≡ true

pub running_start : {card : Card} {a : Areas} (bytes out : List ℕ) → Fit card a → Running (reading_of card a) bytes out card a out 0 0
unfolding fed over
running_start bytes out fit =
    record {
      pieces = 0;
      ran = record { reading_is = refl; used_is = refl; wrote_is = refl; out_is = refl; fit = fit };
      used_in = omega arith;
      wrote_in = omega arith;
      on_before = λ m l. absurd (omega arith);
    }

-- ---- whether another line is read

pub goes_yes : (left room : ℕ) (reading : Bool) → (leb 11 left && leb 5125 room && reading) ≡ true → (11 ≤ left) × (5125 ≤ room) × (reading ≡ true)
goes_yes left room reading h =
    let all = and_both (leb 11 left && leb 5125 room) reading h in
    let both = and_both (leb 11 left) (leb 5125 room) all.0 in
    (leb-true 11 left both.0, leb-true 5125 room both.1, all.1)

-- a test of what is left is the same test of how far it reaches
leb-left : (a long used : ℕ) → 1 ≤ a → leb a (long - used) ≡ leb (used + a) long
leb-left a long used p = go (dec_lt (long - used) a)
  where
    go : Dec (long - used < a) → leb a (long - used) ≡ leb (used + a) long
    go (yes l) = rw (lt-leb a (long - used) l, lt-leb (used + a) long (omega arith))
    go (no n) = rw (le-leb a (long - used) (omega arith), le-leb (used + a) long (omega arith))

module _ {r : Reading} {bytes out₀ : List ℕ} {card : Card} {a : Areas} {out : List ℕ} {used wrote : ℕ}
    (run : Running r bytes out₀ card a out used wrote) where
  -- the loop's test is the definition's
  test_is : (leb 11 (length bytes - used) && leb 5125 (length out₀ - wrote) && reads card.phase) ≡ reads_on r bytes (length out₀) run.pieces
  test_is =
      rw (
        leb-left 11 (length bytes) used (omega arith),
        leb-left 5125 (length out₀) wrote (omega arith),
        run.ran.used_is,
        run.ran.wrote_is,
        ← run.ran.reading_is,
      )

  pub running_ends : length out ≡ length out₀ → (leb 11 (length bytes - used) && leb 5125 (length out - wrote) && reads card.phase) ≡ false
      → Ran r bytes out₀ (record { card = card; used = used; wrote = wrote }) a out
  unfolding pieces_read
  running_ends long h =
      let stops : reads_on r bytes (length out₀) run.pieces ≡ false = sym test_is ∙ rw long at h in
      let at : first (λ m. not (reads_on r bytes (length out₀) m)) (length bytes / 11) ≡ run.pieces =
      first_at (λ m. not (reads_on r bytes (length out₀) m)) (length bytes / 11) run.pieces (omega (arith, run.ran.used_is, run.used_in))
      (λ m l. rw (run.on_before m l)) (λ l. rw stops)
      in
      rw at run.ran

  -- ---- one line more

  pub running_next : {step : Step} {a' : Areas} {line part : List ℕ} → length out ≡ length out₀
      → (leb 11 (length bytes - used) && leb 5125 (length out - wrote) && reads card.phase) ≡ true
      → line ≡ take 11 (drop used bytes)
      → Took (read_line (reading_of card a) line) (mid_of wrote (length out - wrote) out) step a' part
      → Running r bytes out₀ step.card a' (put_mid wrote (length out - wrote) out part) (used + 11) (wrote + step.wrote)
  unfolding fed
  running_next {step} {a'} {line} {part} long h is took =
      let goes = goes_yes (length bytes - used) (length out - wrote) (reads card.phase) h in
      let on : reads_on r bytes (length out₀) run.pieces ≡ true = sym test_is ∙ rw long at h in
      let before = fed r bytes run.pieces in
      let read : read_line (reading_of card a) line ≡ read_line before.reading (take 11 (drop (11 * run.pieces) bytes)) =
      rw (is, run.ran.reading_is, run.ran.used_is)
      in
      let said = (read_line (reading_of card a) line).printed in
      record {
        pieces = suc run.pieces;
        ran = record {
          reading_is = took.reading_is ∙ ap (λ (x : Next). x.reading) read;
          used_is = omega (arith, run.ran.used_is);
          wrote_is = rw (length-append, ← read) (omega (arith, run.ran.wrote_is, took.wrote_is));
          out_is = rw (← read) (part_back out₀ before.printed said out part wrote run.ran.out_is (sym run.ran.wrote_is) took.out_is);
          fit = took.fit;
        };
        used_in = omega (arith, goes.0);
        wrote_in = omega (arith, goes.1, took.few, run.wrote_in);
        on_before = λ m l. up m (dec_lt m run.pieces) l;
      }
    where
      up : (m : ℕ) → Dec (m < run.pieces) → m < suc run.pieces → reads_on r bytes (length out₀) m ≡ true
      up m (yes b) l = run.on_before m b
      up m (no n) l = let e : m ≡ run.pieces = omega arith in rw e (sym test_is ∙ rw long at h)
