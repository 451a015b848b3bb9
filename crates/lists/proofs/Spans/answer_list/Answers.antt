-- `Spans::answer_list` meets its contract: the spans have as many positions as units are in them, so the count is the answer's length, and the
-- part of the list from the named place on has room for it where the test says so. Assumes nothing.
use Rattle.std.specs.Prelude.{Ok}
use Rattle.std.specs.Prelude.{Err}
use Prim.Native.Nat.{ℕ, ◌+◌, ◌-◌, ◌≤◌, ◌<◌}
use mathlib.Core.Path.{◌≡◌, sym, ◌∙◌}
use mathlib.Core.List.{List, [], ◌++◌, append-nil}
use native.Mathlib.Omega.{arith}
use lib.ListN.{length, get_or, take, drop, length-drop, drop_of_length-le}
use lib.Seq.{take_all}
use borrow.Author.Tests.{le-leb, lt-leb}
use Rattle.rules.specs.declared.Refusal.TheVariants.{ShortList}
use Rattle.rules.specs.Ranges.{over, sum}
use Rattle.rules.specs.Outcomes.{list_room, written_from, list_answer}
use Rattle.rules.proofs.Ranges.{units_most}
use Rattle.lists.specs.Spans.{in_spans, spanned, listed, Tracks, Held}
use Rattle.lists.proofs.Units.{tracks_wide, spanned-count}
use Rattle.lists.proofs.Spans.answer_list.Goals as goal
use Rattle.lists.proofs.Spans.answer_list.Goals.{then-list-place-via-then-list-place, then-list-place-via-else-list-place+then-list-place-2}

-- the part from a place on is the rest of the list
rest : (list : List ℕ) (at : ℕ) → take (length list - at) (drop at list) ≡ drop at list
rest list at = take_all (length list - at) (drop at list) (omega (arith, length-drop at list))

-- behind it nothing is left
end : (list : List ℕ) (at : ℕ) → drop (length list - at) (drop at list) ≡ []
end list at = drop_of_length-le (drop at list) {i = length list - at} (omega (arith, length-drop at list))

module _ (units list : List ℕ) (at n : ℕ) (e : n ≡ length units) where
  -- with room, the units are in the part when it is back
  answered : (part : List ℕ) → part ≡ over (take (length list - at) (drop at list)) units → at + n ≤ length list
      → listed (Ok n) (take at list ++ (part ++ drop (length list - at) (drop at list))) ≡ list_answer (list_room units list at) units list at
  unfolding list_answer list_room written_from
  answered part w h =
      let h' : at + length units ≤ length list = omega arith in
      rw (le-leb (at + length units) (length list) h', w, rest list at, end list at, append-nil, e)

  short : length list < at + n → listed (Err (ShortList n)) list ≡ list_answer (list_room units list at) units list at
  unfolding list_answer list_room
  short h = rw (lt-leb (at + length units) (length list) (omega arith), e)

module _ {from to ts : List ℕ} {k n : ℕ} (t : Tracks ts k) (h : Held from to ts k) (s : n ≡ sum (λ q. get_or to q 0 + 1 - get_or from q 0) k) where
  -- the count is that of the units in the spans
  count_is : n ≡ length (spanned from to ts)
  count_is = s ∙ sym (spanned-count t h)

  -- at most as many as the track list has
  count_few : n ≤ 1024
  count_few = omega (arith, count_is, units_most (in_spans from to ts) (length ts), t.few_units)

pub overflow_cast-result : goal.overflow_cast-result
overflow_cast-result c = omega (arith, count_few c.requires.tracks c.requires.held c.count-count.ensures)

pub returns-then-list-place : goal.returns-then-list-place
returns-then-list-place c =
    let a = c.args in
    short (spanned a.self.now.from a.self.now.to a.tracks.now) a.list.now a.place c.count-count.result (count_is c.requires.tracks c.requires.held c.count-count.ensures)
    (elim c.then-list-place.branch [
      | then-list-place-via-then-list-place w ↦ omega arith
      | then-list-place-via-else-list-place+then-list-place-2 w ↦ omega arith
    ])

pub write_units-requires : goal.write_units-requires
write_units-requires c = record {
  tracks = tracks_wide c.requires.tracks;
  count_value = (count_is c.requires.tracks c.requires.held c.count-count.ensures, rw (rest c.args.list.now c.args.place, length-drop) (omega arith));
}

pub overflow_cast-result-2 : goal.overflow_cast-result-2
overflow_cast-result-2 c = omega (arith, count_few c.requires.tracks c.requires.held c.count-count.ensures)

pub returns : goal.returns
returns c =
    let a = c.args in
    answered (spanned a.self.now.from a.self.now.to a.tracks.now) a.list.now a.place c.count-count.result (count_is c.requires.tracks c.requires.held c.count-count.ensures) c.write_units.new.list c.write_units.ensures (omega arith)
