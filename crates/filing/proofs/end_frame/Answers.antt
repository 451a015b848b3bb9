-- `filing::end_frame`: a count or a filler that is wrong is out of order; else the build refuses the listing, or leaves the index,
-- and the stages stand over the start of the work area.
-- Assumes nothing.
use Rattle.std.proofs.Common.{◌≡◌, ◌*◌, refl, ap, sym, ◌∙◌, arith, take, length}
use lib.Seq.{length-take-le}
use Rattle.rules.proofs.Overs.{over-part}
use Rattle.stages.specs.Stages.{stage_table}
use Rattle.stages.proofs.Lasts.{length_stages}
use Rattle.filing.proofs.Ends.{end_misplaced, end_refused, built_room, build_pairs, took_end}
use Rattle.filing.proofs.end_frame.Goals as goal

pub returns-then-from-card : goal.returns-then-from-card
returns-then-from-card c = λ list e h.
    let s = c.args in
    let wrong : s.count ≡ s.card.pairs → s.filler ≡ 0 → ⊥ = grind arith in
    rw (end_misplaced h s.count s.filler wrong) (c.misplaced.ensures _ h.room)

pub returns-in-Err : goal.returns-in-Err
returns-in-Err c = λ list e h.
    let s = c.args in
    rw (end_refused h (rw c.in-Err.is at c.build.ensures) s.count s.filler (omega arith) (omega arith) refl)
    (c.refuse.ensures _ (built_room h (omega arith) (omega arith) (omega arith)))

-- the work area holds an entry for each unit, and the part that is lent has no more
pub fill_stages-requires : goal.fill_stages-requires
fill_stages-requires c =
    let s = c.args in
    let tracks_long : length (take s.card.units s.tracks.now) ≡ s.card.units = length-take-le _ _ (omega arith) in
    let lent_long : length (take s.card.units c.build.new.work) ≡ s.card.units = length-take-le _ _ (omega arith) in
    build_pairs _ _ _ _ (rw c.in-Ok.is at c.build.ensures) refl (tracks_long ∙ sym lent_long)

pub returns : goal.returns
returns c = λ list e h.
    let s = c.args in
    let b = c.build in
    let stages = stage_table (take (2 * s.card.pairs) s.needs.now) in
    let lent_long : length (take s.card.units b.new.work) ≡ s.card.units = length-take-le _ _ (omega arith) in
    let staged =
    over-part b.new.work _ (stages s.card.units) _ (c.fill_stages.ensures ∙ ap stages lent_long) (length_stages _ _) in
    rw c.load.ensures.0
    (took_end h (rw c.in-Ok.is at b.ensures) s.count s.filler (omega arith) (omega arith) b.auto.words b.auto.directory (omega arith) staged e refl c.load.ensures.1)
