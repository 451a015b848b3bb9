-- `whole::judge`: conditions 1 to 3 by their tests, the others by `judge_areas`. Assumes nothing.
use Prim.Native.Nat.{ℕ, ◌≤◌, ◌<◌}
use mathlib.Core.Path.{◌≡◌, sym, ap, ◌∙◌}
use mathlib.Core.Bool.{true, false}
use native.Mathlib.Omega.{arith}
use lib.ListN.{length, get_or}
use lib.Dec.{leb}
use borrow.Author.Tests.{ltb-false}
use Rattle.std.specs.Option.{is_some}
use Rattle.rules.specs.Ranges.{first}
use Rattle.rules.specs.Index.{lens_of, in_range, tracks_fit}
use Rattle.rules.specs.Lent.{lent_index}
use Rattle.rules.proofs.Found.{is_found}
use Rattle.whole.specs.Judged.{judged_by, judged}
use Rattle.whole.proofs.Judging.{judged_faulty, fault_1, fault_2, fault_3, fault-areas, in_range_lem, units_out, tracks_out, fits_not_long, fits_not, fits_below, fits, lengths_known}
use Rattle.whole.proofs.judge.Goals as goal
use Rattle.whole.proofs.judge.Goals.{Else-is_some, Else-k-gt-MAX_TRACKS}

-- conditions 1 and 2, where their tests are passed
in_both : (c : Else-k-gt-MAX_TRACKS) → in_range c.args.index.now.head.n c.args.index.now.head.k ≡ true
in_both c = in_range_lem _ _ (omega arith, omega arith) (omega arith, omega arith)

-- condition 2's test is passed where no track is bad
no_bad : (c : Else-is_some) → length c.args.index.now.tracks.now ≤ first (λ i. leb c.args.index.now.head.k (get_or c.args.index.now.tracks.now i 0)) (length c.args.index.now.tracks.now)
no_bad c =
    let e : is_some c.bad_track.result ≡ false = sym c.is_some.ensures ∙ c.if-is_some.false in
    ltb-false _ _ (sym (is_found _ _) ∙ rw c.bad_track.ensures at e)

fit : (c : Else-is_some) → tracks_fit c.args.index.now.head.n c.args.index.now.head.k c.args.index.now.tracks.now ≡ true
fit c = fits _ _ _ (omega arith) (no_bad c)

below : (c : Else-is_some) → (i : ℕ) → i < length c.args.index.now.tracks.now → get_or c.args.index.now.tracks.now i 0 < c.args.index.now.head.k
below c = fits_below c.args.index.now.head.n _ _ (no_bad c)

pub returns-then-n-eq0 : goal.returns-then-n-eq0
unfolding judged
returns-then-n-eq0 c =
    let h = c.args.index.now.head in
    let no : in_range h.n h.k ≡ false = grind (arith, units_out h.n h.k, tracks_out h.n h.k) in
    judged_faulty _ _ 1 (fault_1 (lent_index c.args.index.now) no) (omega arith)

pub returns-then-tracks-from : goal.returns-then-tracks-from
unfolding judged
returns-then-tracks-from c =
    let h = c.args.index.now.head in
    let tracks = c.args.index.now.tracks.now in
    let no : tracks_fit h.n h.k tracks ≡ false = grind (arith, fits_not_long h.n h.k tracks, fits_not h.n h.k tracks) in
    judged_faulty _ _ 2 (fault_2 (lent_index c.args.index.now) (in_both (goal.at.returns-then-tracks-from c).Else-k-gt-MAX_TRACKS) no) (omega arith)

pub lengths_true-requires : goal.lengths_true-requires
lengths_true-requires c =
    let l = below (goal.at.lengths_true-requires c).Else-is_some in
    (omega arith, λ i h. omega (arith, l i h))

pub returns-then-not-lengths_true : goal.returns-then-not-lengths_true
unfolding judged
returns-then-not-lengths_true c =
    let at = goal.at.returns-then-not-lengths_true c in
    let no = rw c.from-2.ensures at (sym c.lengths_true.ensures ∙ c.if-not-lengths_true.true) in
    judged_faulty _ _ 3 (fault_3 (lent_index c.args.index.now) (in_both at.Else-k-gt-MAX_TRACKS) (fit at.Else-is_some) no) (omega arith)

pub judge_areas-requires : goal.judge_areas-requires
judge_areas-requires c =
    let yes = rw c.from-2.ensures at (sym c.lengths_true.ensures ∙ c.if-not-lengths_true.false) in
    rw c.from-3.ensures
    (lengths_known _ _ c.args.index.now.tracks.now (omega arith) (omega arith) (omega arith) (below (goal.at.judge_areas-requires c).Else-is_some) yes)

pub returns : goal.returns
unfolding judged
returns c =
    let at = goal.at.returns c in
    let yes = rw c.from-2.ensures at (sym c.lengths_true.ensures ∙ c.if-not-lengths_true.false) in
    rw c.from-3.ensures at c.judge_areas.ensures
    ∙ ap (judged_by (lens_of c.args.index.now.head.lens) c.args.index.now.head.k) (sym (fault-areas (lent_index c.args.index.now) (in_both at.Else-k-gt-MAX_TRACKS) (fit at.Else-is_some) yes))
