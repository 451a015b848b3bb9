-- `feeding::feed`: what the run leaves, and, where what is left is all of its line, what the end of that line leaves behind it.
-- Assumes nothing.
use Prim.Native.Nat.{ℕ, ◌+◌, ◌-◌, ◌≤◌}
use mathlib.Core.Path.{◌≡◌, sym, ◌∙◌}
use mathlib.Core.Bool.{true}
use mathlib.Core.List.{List, ◌++◌}
use native.Mathlib.Omega.{arith}
use lib.ListN.{length, take, drop, length-take, length-drop}
use lib.Seq.{length-take-le}
use borrow.Rule.Slice.PartMut.{mid_of, put_mid, same_len_mid}
use Rattle.feeding.specs.Feeding.{is_last}
use Rattle.feeding.proofs.Feeds.{used_in, wrote_in, reached_long, fed_waits, fed_ends, fed_in, last_short}
use Rattle.feeding.proofs.feed.Goals as goal
use Rattle.feeding.proofs.feed.Goals.{After-run-run, Else-not-is_last}

-- the area is lent whole but for its last twenty bytes, and comes back as long
same_part : (c : After-run-run) → length c.run-run.new.out ≡ length (take (length c.args.out.now - 20) c.args.out.now)
same_part c = c.run-run.auto.out

used_there : (c : After-run-run) → c.run-run.result.used ≤ length c.args.bytes.now
used_there c = used_in c.args.out.now c.requires.in_bounds (same_part c) c.run-run.ensures.ran

wrote_there : (c : After-run-run) → c.run-run.result.wrote + 20 ≤ length c.args.out.now
wrote_there c = wrote_in c.args.out.now c.requires.in_bounds (same_part c) c.run-run.ensures.ran

-- what is left is all of its line
ends : (c : Else-not-is_last) → is_last (take (length c.args.bytes.now - c.run-run.result.used) (drop c.run-run.result.used c.args.bytes.now)) c.args.ended ≡ true
ends c = sym c.is_last.ensures ∙ c.if-not-is_last.false

long_there : (c : After-run-run) → length (c.run-run.new.out ++ drop (length c.args.out.now - 20) c.args.out.now) ≡ length c.args.out.now
long_there c = reached_long c.args.out.now c.requires.in_bounds (same_part c) c.run-run.ensures.ran

pub slice_bounds-run-end-2 : goal.slice_bounds-run-end-2
slice_bounds-run-end-2 c = sym (length-take-le _ _ (omega arith))

pub slice_bounds-is_last-count : goal.slice_bounds-is_last-count
slice_bounds-is_last-count c = used_there (goal.at.slice_bounds-is_last-count c).After-run-run

pub slice_bounds-is_last-start : goal.slice_bounds-is_last-start
slice_bounds-is_last-start c = used_there (goal.at.slice_bounds-is_last-start c).After-run-run

pub returns-then-not-is_last-clause-fed : goal.returns-then-not-is_last-clause-fed
returns-then-not-is_last-clause-fed c =
    rw c.is_reading.ensures
    (fed_waits c.args.out.now c.requires.in_bounds (same_part (goal.at.returns-then-not-is_last-clause-fed c).After-run-run) c.run-run.ensures.ran (sym c.is_last.ensures ∙ c.if-not-is_last.true))

pub slice_bounds-finish-count : goal.slice_bounds-finish-count
slice_bounds-finish-count c = used_there (goal.at.slice_bounds-finish-count c).After-run-run

pub slice_bounds-finish-start : goal.slice_bounds-finish-start
slice_bounds-finish-start c = used_there (goal.at.slice_bounds-finish-start c).After-run-run

pub slice_bounds-finish-count-2 : goal.slice_bounds-finish-count-2
slice_bounds-finish-count-2 c = omega (arith, wrote_there (goal.at.slice_bounds-finish-count-2 c).After-run-run, long_there (goal.at.slice_bounds-finish-count-2 c).After-run-run)

pub slice_bounds-finish-start-2 : goal.slice_bounds-finish-start-2
slice_bounds-finish-start-2 c = omega (arith, wrote_there (goal.at.slice_bounds-finish-start-2 c).After-run-run, long_there (goal.at.slice_bounds-finish-start-2 c).After-run-run)

pub finish-last-requires : goal.finish-last-requires
finish-last-requires c = (c.run-run.ensures.ran.fit.room.lines_few, last_short _ _ (ends (goal.at.finish-last-requires c).Else-not-is_last), simp (length-take, length-drop) (omega (arith, wrote_there (goal.at.finish-last-requires c).After-run-run, long_there (goal.at.finish-last-requires c).After-run-run)))

-- the area comes back as long from the end of the line too
same_out : (c : After-run-run) (last : List ℕ)
    → let wrote = c.run-run.result.wrote in
    let reached = c.run-run.new.out ++ drop (length c.args.out.now - 20) c.args.out.now in
    length last ≡ length (mid_of wrote (length reached - wrote) reached) → length (put_mid wrote (length reached - wrote) reached last) ≡ length c.args.out.now
same_out c last same =
    let wrote = c.run-run.result.wrote in
    let reached = c.run-run.new.out ++ drop (length c.args.out.now - 20) c.args.out.now in
    same_len_mid wrote (length reached - wrote) reached last same ∙ long_there c

pub shape_of-out : goal.shape_of-out
shape_of-out c = same_out (goal.at.shape_of-out c).After-run-run c.finish-last.new.out c.finish-last.auto.out

pub returns-clause-fed : goal.returns-clause-fed
returns-clause-fed c =
    let at = goal.at.returns-clause-fed c in
    fed_ends c.args.out.now c.requires.in_bounds (same_part at.After-run-run) c.run-run.ensures.ran (ends at.Else-not-is_last) c.finish-last.ensures

pub overflow_add-result : goal.overflow_add-result
overflow_add-result c =
    let at = goal.at.overflow_add-result c in
    let fed = fed_ends c.args.out.now c.requires.in_bounds (same_part at.After-run-run) c.run-run.ensures.ran (ends at.Else-not-is_last) c.finish-last.ensures in
    record { fits = omega (arith, fed_in fed (same_out at.After-run-run c.finish-last.new.out c.finish-last.auto.out)) }
