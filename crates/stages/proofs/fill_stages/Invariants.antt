-- `stages::fill_stages`: after j pairs the iterator has the rest of the need list left, and each entry is its unit's stage by these pairs.
-- Assumes nothing.
use Rattle.std.proofs.Common.{◌≡◌, ◌≤◌, ◌*◌, length, drop}
use Rattle.std.specs.Slice.Iter.{chunks_exact_rest, chunks_exact_size}
use Rattle.rules.specs.Listing.{pairs}
use Rattle.stages.proofs.Lasts.{stages_by}
use Rattle.stages.proofs.fill_stages.Given as goal

abbrev pub invariant-loop-pair : goal.invariant-loop-pair
invariant-loop-pair l =
    let j = length l.yielded in
    record {
      can_next : (goal.iterator-loop-pair).can_next l.pair-iterator;
      is_finite : (goal.iterator-loop-pair).is_finite l.pair-iterator;
      upto : j ≤ pairs l.needs;
      by_two : chunks_exact_size l.pair-iterator ≡ 2;
      left : chunks_exact_rest l.pair-iterator ≡ drop (2 * j) l.needs;
      filled : l.stages ≡ stages_by l.needs j (length l.initial.stages);
    }
