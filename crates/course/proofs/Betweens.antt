-- What a turn leaves: what was read and fed is the outcome of feeding, and a turn after which more is read has read a byte or taken a line.
-- So turns come to an end.
-- Assumes nothing.
use Prim.Native.Nat.{ℕ, suc, ◌+◌, ◌-◌, ◌*◌, ◌≤◌, ◌<◌, zero-le}
use mathlib.Core.Path.{◌≡◌, refl, sym, ap, subst, ◌∙◌}
use mathlib.Core.Bool.{Bool, true, false, cond, not, ◌&&◌}
use mathlib.Core.List.{List, [], ◌++◌}
use mathlib.Core.Logic.{◌⊎◌, inl, inr}
use native.Mathlib.Omega.{arith}
use lib.ListN.{length, take, drop, length-append, length-drop}
use lib.Seq.{take_at}
use Rattle.rules.specs.Ranges.{over}
use borrow.Author.Tests.{lt-ltb, not-true}
use Rattle.rules.proofs.Ranges.{true_or_false, not_both}
use Rattle.rules.proofs.Verdicts.{and_both}
use Rattle.reading.specs.Card.{Reading, reads}
use Rattle.reading.specs.Held.{Areas, reading_of, Room, Fit}
use Rattle.card.specs.Files.{fed, pieces_read}
use Rattle.feeding.specs.declared.Fed.{Fed}
use Rattle.feeding.specs.Feeding.{is_last, FeedOutcome, feed_outcome, FedTo}
use Rattle.feeding.proofs.Feeds.{pieces_in}
use Rattle.feeding.proofs.Lines.{fed_lines, feed_takes_line}
use Rattle.course.specs.declared.Feeding.{Feeding}
use Rattle.blocks.specs.declared.Waiting.{Waiting}
use Rattle.blocks.specs.Blocks.{part, behind, Refilled, NotRefilled}
use Rattle.course.specs.Turns.{Between, between, reading_in, waiting_in, fed_with, FedOn, ReadFailed, Turned, Moved, fresh, LedTo, no_turn, turned, came_in, printed_in, ended_in}
use Rattle.std.specs.Prelude.{Option}
use Rattle.std.specs.Io.KnownBytes.{Consumes, IsAtEnd, Appends}
use Rattle.std.proofs.KnownBytes.{Consumes-nil, Consumes-trans, Appends-nil, Appends-trans}
use Rattle.blocks.proofs.Refills.{part_long, part_rest, came_behind}

-- ---- the bytes that the card takes

pub used_in : (r : Reading) (bytes : List ℕ) (from room : ℕ) {end used : ℕ} → end ≤ length bytes → used ≡ 11 * pieces_read r (part bytes from end) room
    → used ≤ end - from
used_in r bytes from room {end} in_block e = omega (arith, pieces_in r (part bytes from end) room, part_long bytes from end in_block)

-- ---- a turn

not-not : (b : Bool) → not (not b) ≡ b
not-not true = refl
not-not false = refl

module _ (feeding : Feeding) (a : Areas) {bytes bytes' out out' : List ℕ} {a' : Areas} {waiting : Waiting} {given : Fed}
    (filled : Refilled bytes feeding.from feeding.end waiting bytes')
    (took : FedTo (reading_of feeding.card a) (part bytes' waiting.from waiting.end) waiting.ended out given a' out') where
  abbrev waits : List ℕ
  waits = part bytes' waiting.from waiting.end

  abbrev outcome : List ℕ → FeedOutcome
  outcome bytes = feed_outcome (reading_of feeding.card a) bytes waiting.ended (length out)

  rest_left : part bytes' (waiting.from + given.used) waiting.end ≡ (outcome waits).rest
  unfolding feed_outcome
  rest_left =
      sym (part_rest bytes' waiting.from waiting.end given.used) ∙ ap (λ (n : ℕ). drop n waits) took.used_is

  pub turned_fed : length out' ≡ length out → (written more : Bool) → more ≡ (given.more && written)
      → Turned (between feeding bytes a out)
      (between (record { card = given.card; from = waiting.from + given.used; end = waiting.end; more = more; failed = not written }) bytes' a' out')
  turned_fed out_long written more is =
      record {
        fed = inl (record {
          came = filled.came;
          ended = waiting.ended;
          came_so = filled.came_so;
          reading_is = rw (sym filled.waits) took.reading_is;
          rest_is = rw (sym filled.waits) rest_left;
          out_is = rw (sym filled.waits) took.out_is;
          more_is = rw (sym filled.waits, not-not written) (is ∙ ap (λ (b : Bool). b && written) took.more_is);
        });
        fit = took.fit;
        start_in = omega (arith, used_in _ bytes' waiting.from _ filled.end_in took.used_is, filled.start_in);
        end_in = filled.end_in;
        out_long = out_long;
      }

  -- and what the input gave and the output holds, where their bytes are known
  printed_front : length out' ≡ length out → take given.wrote out' ≡ (outcome waits).printed
  unfolding over
  printed_front out_long =
      let printed = (outcome waits).printed in
      ap (take given.wrote) took.out_is ∙ take_at printed (drop (length printed) out) given.wrote (sym took.wrote_is)

  pub moved_fed : (out_long : length out' ≡ length out) (written more : Bool) (is : more ≡ (given.more && written))
      → feeding.end ≤ length bytes → {i i' o o' : Option (List ℕ)} → Consumes i i' (behind (feeding.end - feeding.from) waiting bytes')
      → (waiting.ended ≡ true → IsAtEnd i') → (written ≡ true → Appends o o' (take given.wrote out'))
      → Moved (between feeding bytes a out)
      (between (record { card = given.card; from = waiting.from + given.used; end = waiting.end; more = more; failed = not written }) bytes' a' out') i i' o o'
  unfolding turned_fed
  moved_fed out_long written more is end_in {i} {i'} {o} {o'} taken at_end gives =
      record {
        turn = turned_fed out_long written more is;
        taken = subst (Consumes i i') (came_behind filled end_in) taken;
        at_end = at_end;
        given = λ h. subst (Appends o o') (printed_front out_long ∙ ap (λ (l : List ℕ). (outcome l).printed) filled.waits) (gives (sym (not-not written) ∙ ap not h));
      }

-- the read failed: the input gave nothing, and nothing is written
module _ (feeding : Feeding) (a : Areas) {bytes bytes' : List ℕ} (out : List ℕ) (failed : NotRefilled bytes feeding.from feeding.end bytes') (fit : Fit feeding.card a) where
  abbrev failed_after : Between
  failed_after = between (record { card = feeding.card; from = 0; end = feeding.end - feeding.from; more = false; failed = true }) bytes' a out

  pub turned_failed : Turned (between feeding bytes a out) failed_after
  turned_failed =
      record {
        fed = inr (record { few = failed.few; reading_is = refl; out_is = refl; fails = refl; ends = refl });
        fit = fit;
        start_in = zero-le;
        end_in = failed.end_in;
        out_long = refl;
      }

  pub moved_failed : {i i' o o' : Option (List ℕ)} → Consumes i i' [] → Moved (between feeding bytes a out) failed_after i i' o o'
  unfolding turned_failed
  moved_failed taken =
      record {
        turn = turned_failed;
        taken = taken;
        at_end = λ h. absurd (not_both h refl);
        given = λ h. absurd (not_both refl h);
      }

-- ---- turns come to an end

-- at the end of the file fewer bytes than a line has are the last
last_short : (rest : List ℕ) (ended : Bool) → length rest < 11 → ended ≡ true → is_last rest ended ≡ true
unfolding is_last
last_short rest ended few e = rw (lt-ltb (length rest) 11 few, e)

-- how far a card is: the lines that it has read, and the bytes that wait
abbrev pub reach : Between → ℕ
reach s = 12 * s.feeding.card.lines + (s.feeding.end - s.feeding.from)

module _ {s s' : Between} (turn : Turned s s') (end_in : s.feeding.end ≤ length s.bytes) (more : s'.feeding.more ≡ true) where
  module _ (f : FedOn s s') where
    abbrev before : List ℕ
    before = waiting_in s ++ f.came

    abbrev pieces : ℕ
    pieces = pieces_read (reading_in s) before (length s.out - 20)

    abbrev rest : List ℕ
    rest = drop (11 * pieces) before

    abbrev reached : Reading
    reached = (fed (reading_in s) before pieces).reading

    reading_is : reading_in s' ≡ reached
    unfolding feed_outcome
    reading_is = f.reading_is

    rest_is : waiting_in s' ≡ rest
    unfolding feed_outcome
    rest_is = f.rest_is

    wants : (not (is_last rest f.ended) ≡ true) × (reads reached.phase ≡ true)
    unfolding feed_outcome
    wants =
        let both = and_both (fed_with s f.came f.ended).more (not s'.feeding.failed) (sym f.more_is ∙ more) in
        and_both (not (is_last rest f.ended)) (reads reached.phase) both.0

    lines_are : s'.feeding.card.lines ≡ s.feeding.card.lines + pieces
    lines_are = ap (λ (r : Reading). r.lines) reading_is ∙ fed_lines (reading_in s) before pieces wants.1

    rest_long : (length rest ≡ s'.feeding.end - s'.feeding.from) × (length rest + 11 * pieces ≡ s.feeding.end - s.feeding.from + length f.came)
    rest_long =
        let new = part_long s'.bytes s'.feeding.from s'.feeding.end turn.end_in in
        let old = part_long s.bytes s.feeding.from s.feeding.end end_in in
        let left = length-drop (11 * pieces) before in
        let whole = length-append (waiting_in s) f.came in
        (sym (ap length rest_is) ∙ new, omega (arith, pieces_in (reading_in s) before (length s.out - 20)))

    -- the file has not ended: fewer than eleven bytes would be its last
    pub goes_on : f.ended ≡ false
    goes_on = go (true_or_false f.ended)
      where
        go : (f.ended ≡ true) ⊎ (f.ended ≡ false) → f.ended ≡ false
        go (inr e) = e
        go (inl e) =
            let c = f.came_so.ended_is e in
            let few : length rest < 11 = omega (arith, rest_long, ap length c.1) in
            absurd (not_both (last_short rest f.ended few e) (not-true (is_last rest f.ended) wants.0))

    moved : reads s.feeding.card.phase ≡ true → 5145 ≤ length s.out → reach s < reach s'
    moved on room = go (f.came_so.brought goes_on)
      where
        go : ((11 ≤ s.feeding.end - s.feeding.from) × (f.came ≡ [])) ⊎ (1 ≤ length f.came) → reach s < reach s'
        go (inr c) = omega (arith, lines_are, rest_long)
        go (inl c) =
            let old = part_long s.bytes s.feeding.from s.feeding.end end_in in
            let one = feed_takes_line (reading_in s) before (length s.out) on (omega (arith, old, length-append (waiting_in s) f.came, c.0)) room in
            omega (arith, lines_are, rest_long, one)

  -- so a card that reads on is further
  pub turn_moves : reads s.feeding.card.phase ≡ true → 5145 ≤ length s.out → (reach s < reach s') × (reads s'.feeding.card.phase ≡ true)
  turn_moves on room = go turn.fed
    where
      go : FedOn s s' ⊎ ReadFailed s s' → (reach s < reach s') × (reads s'.feeding.card.phase ≡ true)
      go (inl f) = (moved f on room, ap (λ (r : Reading). reads r.phase) (reading_is f) ∙ (wants f).1)
      go (inr f) = absurd (not_both more f.ends)

-- ---- turn after turn

-- what stands after some turns: the card reads where more is to be read
pub record Serving (s₀ s : Between) : Type 0 where
  pub reached : LedTo s₀ s
  pub fit : Fit s.feeding.card s.areas
  pub start_in : s.feeding.from ≤ s.feeding.end
  pub end_in : s.feeding.end ≤ length s.bytes
  pub on : s.feeding.more ≡ true → reads s.feeding.card.phase ≡ true

-- how much further a card can come: 65,536 lines, and as many bytes as the block has
abbrev pub to_go : Between → ℕ
to_go s = cond s.feeding.more (suc (12 * 65536 + length s.bytes - reach s)) 0

module _ {s₀ s s' : Between} (serving : Serving s₀ s) (more : s.feeding.more ≡ true) (turn : Turned s s') (room : 5145 ≤ length s.out) where
  moves : s'.feeding.more ≡ true → (reach s < reach s') × (reads s'.feeding.card.phase ≡ true)
  moves h = turn_moves turn serving.end_in h (serving.on more) room

  pub serving_next : Serving s₀ s'
  serving_next =
      record {
        reached = turned serving.reached more turn;
        fit = turn.fit;
        start_in = turn.start_in;
        end_in = turn.end_in;
        on = λ h. (moves h).1;
      }

  pub nearer : length s'.bytes ≡ length s.bytes → to_go s' < to_go s
  nearer long = go (true_or_false s'.feeding.more)
    where
      go : (s'.feeding.more ≡ true) ⊎ (s'.feeding.more ≡ false) → to_go s' < to_go s
      go (inr f) = rw (f, more) (omega arith)
      go (inl t) =
          let m = moves t in
          rw (t, more) (omega (arith, long, m.0, turn.fit.lines_left m.1, turn.end_in))

-- ---- before the first turn

pub serving_fresh : {bytes out : List ℕ} {a : Areas} → Room a → Serving (between fresh bytes a out) (between fresh bytes a out)
serving_fresh room =
    record {
      reached = no_turn;
      fit = record {
        room = record { lines_few = zero-le; pairs_few = zero-le; units_few = zero-le; areas_room = room };
        lines_left = λ h. zero-le;
        settled = (refl, refl);
      };
      start_in = zero-le;
      end_in = zero-le;
      on = λ h. refl;
    }

-- ---- what the input gave and the output holds

-- after some turns: all that came was given, all that was printed was written, and the next turn finds nothing failed
pub record Carrying (s₀ s : Between) (input₀ input output₀ output : Option (List ℕ)) : Type 0 where
  pub serving : Serving s₀ s
  pub taken : Consumes input₀ input (came_in serving.reached)
  pub at_end : ended_in serving.reached ≡ true → IsAtEnd input
  pub given : s.feeding.failed ≡ false → Appends output₀ output (printed_in serving.reached)
  pub fine : s.feeding.more ≡ true → s.feeding.failed ≡ false

not_no : (b : Bool) → not b ≡ true → b ≡ false
not_no true e = sym e
not_no false e = refl

-- more is read only where nothing failed
turn_fine : {s s' : Between} → Turned s s' → s'.feeding.more ≡ true → s'.feeding.failed ≡ false
turn_fine {s} {s'} turn more = go turn.fed
  where
    go : FedOn s s' ⊎ ReadFailed s s' → s'.feeding.failed ≡ false
    go (inl f) = not_no s'.feeding.failed (and_both (fed_with s f.came f.ended).more (not s'.feeding.failed) (sym f.more_is ∙ more)).1
    go (inr f) = absurd (not_both more f.ends)

pub carrying_next : {s₀ s s' : Between} {i₀ i i' o₀ o o' : Option (List ℕ)} → Carrying s₀ s i₀ i o₀ o → s.feeding.more ≡ true → Moved s s' i i' o o'
    → 5145 ≤ length s.out → Carrying s₀ s' i₀ i' o₀ o'
unfolding came_in printed_in ended_in serving_next
carrying_next {i₀ = i₀} {i} {i'} {o₀} {o} {o'} c more m room =
    record {
      serving = serving_next c.serving more m.turn room;
      taken = Consumes-trans i₀ i i' _ _ c.taken m.taken;
      at_end = m.at_end;
      given = λ h. Appends-trans o₀ o o' _ _ (c.given (c.fine more)) (m.given h);
      fine = turn_fine m.turn;
    }

pub carrying_fresh : {bytes out : List ℕ} {a : Areas} (i o : Option (List ℕ)) → Room a → Carrying (between fresh bytes a out) (between fresh bytes a out) i i o o
unfolding came_in printed_in ended_in serving_fresh
carrying_fresh i o room =
    record {
      serving = serving_fresh room;
      taken = Consumes-nil i;
      at_end = λ h. absurd (not_both h refl);
      given = λ h. Appends-nil o;
      fine = λ h. refl;
    }
