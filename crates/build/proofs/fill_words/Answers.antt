-- The unit of a turn has its row, its track and the first bit of its track's vectors, so its ones are set. Assumes nothing.
use Prim.Native.Nat.{◌<◌}
use mathlib.Core.Path.{sym, ◌∙◌}
use native.Mathlib.Omega.{arith}
use lib.ListN.{length}
use Rattle.layout.proofs.Rows.{starts_at}
use Rattle.build.proofs.Ones.{count_is, count_few, track_in, row_fits, own_fits, low_fits, filled_start, filled_next, filled_all}
use Rattle.build.proofs.fill_words.Goals as goal
use Rattle.build.proofs.fill_words.Goals.{In-loop-i}

pub loop-i-init : goal.loop-i-init
loop-i-init c = filled_start _ _ (c.fill.ensures.after (λ y h. h) ∙ rw c.requires.words_len)

pub set_ones-requires : goal.set_ones-requires
set_ones-requires c =
    let g = c.requires.given in
    let l : c.loop-i.i < length c.args.tracks.now = omega arith in
    let long = c.loop-i.invariant.long in
    let t = track_in g c.loop-i.i l in
    let k_few = g.accepted.k_in.1 in
    rw c.from-p.ensures (record {
      p_lt_k = (t, k_few, row_fits g c.loop-i.i l);
      words_len = (long ∙ sym (count_is g.accepted g.lens_are), omega (arith, long, count_few g.accepted));
      start_value = rw c.requires.row_value (starts_at _ _ _ (omega (arith, t, k_few)) k_few);
      p_bound = own_fits g c.loop-i.i l;
      by_index = low_fits g c.loop-i.i l;
    })

pub loop-i-preserved : goal.loop-i-preserved
loop-i-preserved c =
    filled_next c.requires.given _ _ c.loop-i.i (omega arith) c.loop-i.invariant (rw c.from-p.ensures at c.set_ones.ensures) (λ j. (c.type_inv.words j).fits)

pub returns : goal.returns
returns c = filled_all _ _ _ (omega arith) c.loop-i.invariant
