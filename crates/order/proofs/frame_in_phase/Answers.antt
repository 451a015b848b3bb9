-- `order::frame_in_phase`: in each phase the frame that may come there is taken, and any other is out of order.
-- Assumes nothing.
use Prim.Native.Nat.{◌≤◌}
use mathlib.Core.Path.{sym}
use native.Mathlib.Omega.{arith}
use lib.ListN.{length}
use lib.Seq.{length-take-le}
use Rattle.reading.specs.Held.{areas, reading_of}
use Rattle.reading.proofs.Taking.{took_nothing}
use Rattle.reading.proofs.Phases.{tracks_left, tracks_few, count_few, index_is, ready, staged}
use Rattle.order.proofs.Turns.{head_taken, head_not, track_taken, track-not, need_taken, end_taken, need_not, question_taken, stopped_taken}
use Rattle.order.proofs.frame_in_phase.Goals as goal
use Rattle.order.proofs.frame_in_phase.Goals.{In-Asking, Start}

enough : (c : Start) → 20 ≤ length c.args.out.now
enough c = omega (arith, c.requires.in_bounds)

words_there : (c : In-Asking) → c.args.card.count ≤ length c.args.words.now
words_there c = let r = c.requires.fit.room in omega (arith, count_few c.requires.fit c.in-Asking.is)

directory_there : (c : In-Asking) → c.args.card.count ≤ length c.args.directory.now
directory_there c = let r = c.requires.fit.room in omega (arith, count_few c.requires.fit c.in-Asking.is)

pub returns-then-frame-ne1 : goal.returns-then-frame-ne1
returns-then-frame-ne1 c =
    let a = c.args in
    let r = reading_of a.card (areas a.tracks.now a.needs.now a.words.now a.directory.now a.work.now a.list.now) in
    rw (head_not r a.frame c.in-Head.is c.if-frame-ne1.true) (c.misplaced.ensures _ c.requires.fit.room)

pub returns-then-frame-ne2 : goal.returns-then-frame-ne2
returns-then-frame-ne2 c =
    let a = c.args in
    let r = reading_of a.card (areas a.tracks.now a.needs.now a.words.now a.directory.now a.work.now a.list.now) in
    rw (track-not r a.frame c.in-Tracks.is c.if-frame-ne2.true) (c.misplaced-then-frame-ne2.ensures _ c.requires.fit.room)

pub track_frame-requires : goal.track_frame-requires
track_frame-requires c =
    (c.in-Tracks.is, tracks_left c.requires.fit c.in-Tracks.is, enough (goal.at.track_frame-requires c).Start)

pub returns-then-is_need : goal.returns-then-is_need
returns-then-is_need c =
    let a = c.args in
    let r = reading_of a.card (areas a.tracks.now a.needs.now a.words.now a.directory.now a.work.now a.list.now) in
    rw (need_taken r a.frame c.in-Needs.is c.if-is_need.true) (c.need_frame.ensures _ _ _ _ _ c.requires.fit)

pub returns-then-frame-ne4 : goal.returns-then-frame-ne4
returns-then-frame-ne4 c =
    let a = c.args in
    let r = reading_of a.card (areas a.tracks.now a.needs.now a.words.now a.directory.now a.work.now a.list.now) in
    rw (need_not r a.frame c.in-Needs.is c.if-is_need.false c.if-frame-ne4.true) (c.misplaced-then-frame-ne4.ensures _ c.requires.fit.room)

pub end_frame-requires : goal.end_frame-requires
end_frame-requires c =
    let r = c.requires.fit.room in
    (omega arith, omega arith, tracks_few c.requires.fit c.in-Needs.is, enough (goal.at.end_frame-requires c).Start, omega arith)

pub slice_bounds-question_frame-end-in-Asking-2 : goal.slice_bounds-question_frame-end-in-Asking-2
slice_bounds-question_frame-end-in-Asking-2 c = words_there c

pub slice_bounds-question_frame-end-in-Asking-3 : goal.slice_bounds-question_frame-end-in-Asking-3
slice_bounds-question_frame-end-in-Asking-3 c = sym (length-take-le _ _ (words_there c))

pub slice_bounds-question_frame-end-in-Asking-4 : goal.slice_bounds-question_frame-end-in-Asking-4
slice_bounds-question_frame-end-in-Asking-4 c = directory_there c

pub slice_bounds-question_frame-end-in-Asking-5 : goal.slice_bounds-question_frame-end-in-Asking-5
slice_bounds-question_frame-end-in-Asking-5 c = sym (length-take-le _ _ (directory_there c))

pub question_frame-requires : goal.question_frame-requires
question_frame-requires c =
    let asking = c.in-Asking.is in
    record {
      ready = ready c.requires.fit asking;
      stages_value = staged c.requires.fit asking;
      in_bounds = (c.requires.fit.room.areas_room.list_room, c.requires.in_bounds);
    }

pub returns-else-frame-ne1 : goal.returns-else-frame-ne1
returns-else-frame-ne1 c =
    let a = c.args in
    let r = reading_of a.card (areas a.tracks.now a.needs.now a.words.now a.directory.now a.work.now a.list.now) in
    rw (head_taken r a.frame c.in-Head.is c.if-frame-ne1.false) (c.head_frame.ensures (areas a.tracks.now a.needs.now a.words.now a.directory.now a.work.now a.list.now) c.requires.fit)

pub returns-else-frame-ne2 : goal.returns-else-frame-ne2
returns-else-frame-ne2 c =
    let a = c.args in
    let r = reading_of a.card (areas a.tracks.now a.needs.now a.words.now a.directory.now a.work.now a.list.now) in
    rw (track_taken r a.frame c.in-Tracks.is c.if-frame-ne2.false) (c.track_frame.ensures _ _ _ _ _ c.requires.fit)

pub returns-else-frame-ne4 : goal.returns-else-frame-ne4
returns-else-frame-ne4 c =
    let a = c.args in
    let r = reading_of a.card (areas a.tracks.now a.needs.now a.words.now a.directory.now a.work.now a.list.now) in
    rw (end_taken r a.frame c.in-Needs.is c.if-frame-ne4.false) (c.end_frame.ensures _ c.in-Needs.is c.requires.fit)

pub returns-in-Asking : goal.returns-in-Asking
returns-in-Asking c =
    let a = c.args in
    let r = reading_of a.card (areas a.tracks.now a.needs.now a.words.now a.directory.now a.work.now a.list.now) in
    rw (question_taken r a.frame c.in-Asking.is) (c.question_frame.ensures _ _ _ _ _ c.requires.fit (index_is c.requires.fit c.in-Asking.is))

pub returns-in-Stopped : goal.returns-in-Stopped
returns-in-Stopped c =
    let a = c.args in
    let r = reading_of a.card (areas a.tracks.now a.needs.now a.words.now a.directory.now a.work.now a.list.now) in
    rw (stopped_taken r a.frame c.in-Stopped.is) (took_nothing c.args.out.now c.requires.fit)
