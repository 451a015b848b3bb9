-- `blocks::refill`: where no whole line waits, what waits is moved to the front, and what is read comes behind it.
-- Assumes nothing.
use Rattle.std.proofs.Common.{◌≡◌, ◌+◌, ◌-◌, ◌∙◌, arith}
use Rattle.std.proofs.lemmas.Result.{err_from_is_err_and}
use Rattle.blocks.proofs.Refills.{refilled_none, refilled_some, front_part, part_rest}
use Rattle.blocks.proofs.refill.Goals as goal

pub returns-then-end-from-ge11-clause-refilled : goal.returns-then-end-from-ge11-clause-refilled
returns-then-end-from-ge11-clause-refilled g c =
    refilled_none c.args.bytes.now c.args.from c.args.end c.requires.0 c.requires.1 (omega arith)

pub returns-in_err-filled-clause-refilled : goal.returns-in_err-filled-clause-refilled
returns-in_err-filled-clause-refilled g c =
    let bytes = c.args.bytes.now in
    let waited = c.args.end - c.args.from in
    let e : waited - 0 ≡ waited = omega arith in
    let failed = err_from_is_err_and c.from_residual.result c.from_residual.ensures.1 in
    rw failed.1
    (record {
      few = omega arith;
      waits = rw e (c.fill.ensures.kept ∙ front_part bytes c.args.from c.args.end c.requires.0 c.requires.1 c.keep.ensures);
      end_in = omega arith;
    })

pub returns-clause-refilled : goal.returns-clause-refilled
returns-clause-refilled g c =
    let bytes = c.args.bytes.now in
    let from = c.args.from in
    let end = c.args.end in
    let few = c.in_ok-filled.ensures.filled in
    let kept = c.fill.ensures.kept ∙ front_part bytes from end c.requires.0 c.requires.1 c.keep.ensures in
    refilled_some bytes from end c.requires.0 c.requires.1 c.fill.new.bytes (omega arith) kept c.in_ok-filled.filled few.0 few.1

pub returns-clause-taken : goal.returns-clause-taken
returns-clause-taken g c =
    let waited = c.args.end - c.args.from in
    let e : 0 + waited ≡ waited = omega arith in
    rw (part_rest c.fill.new.bytes 0 c.in_ok-filled.filled waited, e) c.in_ok-filled.ensures.taken
