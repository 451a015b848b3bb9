-- What the lines so far have settled, phase by phase, of every reading that a file can lead to; so which refusals can come at 04.
-- Assumes nothing.
use Rattle.std.specs.Prelude.{Ok, Err}
use Prim.Native.Nat.{ℕ, ◌+◌, ◌%◌, ◌≤◌, ◌<◌}
use mathlib.Core.Path.{◌≡◌, refl, sym, ap, ◌∙◌, subst}
use mathlib.Core.Bool.{true, false}
use mathlib.Core.List.{List, [], ◌∷◌}
use mathlib.Core.Logic.{◌⊎◌, inl, inr}
use native.Mathlib.Omega.{arith}
use lib.ListN.{length, length-append}
use Rattle.rules.specs.declared.Refusal.{Refusal}
use Rattle.rules.specs.declared.Refusal.TheVariants as refusal
use Rattle.rules.specs.Refusals.{number_of, place_of, Verdict}
use Rattle.rules.specs.Listing.{Listing, pairs, listing_verdict}
use Rattle.rules.specs.Told.{told_verdict}
use Rattle.rules.specs.Order.{sound_verdict}
use Rattle.rules.proofs.Ranges.{true_or_false, not_both}
use Rattle.rules.proofs.Verdicts.{then_fine}
use Rattle.rules.proofs.Checks.{then_refused, then_never}
use Rattle.rules.proofs.Accepted.{listing_fine}
use Rattle.rules.proofs.Cases.{Outside, sound_never, sound_at}
use Rattle.rules.proofs.Refusing.{listing_1, listing_2, listing_3, listing_4, listing_5, listing_others}
use Rattle.frames.specs.declared.Frame.{Frame}
use Rattle.reading.specs.declared.Phase.{Phase}
use Rattle.reading.specs.declared.Phase.TheVariants.{Head, Tracks, Needs, Asking, Stopped}
use Rattle.reading.specs.Card.{Reading, Next, listing_of, refuse, loaded, counted, reads, read_line, unfinished, start}
use Rattle.order.proofs.Turns.{stopped_line}
use Rattle.answers.proofs.RefusedLines.{refusal_1}
use Rattle.card.proofs.LineCases.{EightDigits, line_comes, end_verdict, StopsWith, Taken, Comes, head, track, last_track, need, no_frame, out_of_place, past_limits, taken, ended, asked}

-- ---- what the lines so far have settled

-- a reading that lines lead to from the start of a file
pub data Reached : Reading → Type 0 where
  at_start : Reached start
  after_line : {r : Reading} → Reached r → (line : List ℕ) → Reached (read_line r line).reading

-- the head is in range, and one line stands for it and for each unit so far
pub record TracksDue (r : Reading) : Type 0 where
  pub n_in : (1 ≤ r.n) × (r.n ≤ 1024)
  pub k_in : (1 ≤ r.k) × (r.k ≤ 32)
  pub units_left : length r.tracks < r.n
  pub needs_none : r.needs ≡ []
  pub lines_are : r.lines ≡ length r.tracks + 1

-- every unit has its track, and the needs so far are pairs, at most 8,192 of them
pub record NeedsDue (r : Reading) : Type 0 where
  pub n_in : (1 ≤ r.n) × (r.n ≤ 1024)
  pub k_in : (1 ≤ r.k) × (r.k ≤ 32)
  pub tracks_long : length r.tracks ≡ r.n
  pub needs_even : length r.needs % 2 ≡ 0
  pub needs_few : pairs r.needs ≤ 8192
  pub lines_are : r.lines ≡ r.n + 1 + pairs r.needs

-- the listing is accepted and its tracks are sound
pub record QuestionsDue (r : Reading) : Type 0 where
  pub accepted : listing_verdict (listing_of r) ≡ Ok tt
  pub sound : sound_verdict (listing_of r) ≡ Ok tt
  pub lines_few : r.lines ≤ 65535

abbrev pub Stands : Phase → Reading → Type 0
Stands Head r = r.lines ≡ 0
Stands Tracks r = TracksDue r
Stands Needs r = NeedsDue r
Stands Asking r = QuestionsDue r
Stands Stopped r = Unit {0}

pub stands_in : {phase : Phase} (r : Reading) → r.phase ≡ phase → Stands r.phase r → Stands phase r
stands_in r p s = subst (λ (x : Phase). Stands x r) p s

module _ (r : Reading) (line : List ℕ) where
  to_next : {x : Next} → read_line r line ≡ x → Stands x.reading.phase x.reading
      → Stands (read_line r line).reading.phase (read_line r line).reading
  to_next q s = rw q s

  refused_stands : (s : Refusal) → StopsWith r line s → Stands (read_line r line).reading.phase (read_line r line).reading
  unfolding refuse
  refused_stands s q = to_next q tt

  taken_stands : {f : Frame} {r' : Reading} → Taken r f r' → Stands r.phase r → Stands r'.phase r'
  taken_stands (head p k a b q) s =
      let z : r.lines ≡ 0 = stands_in r p s in
      rw q (record { n_in = a; k_in = b; units_left = omega arith; needs_none = refl; lines_are = omega arith })
  taken_stands {f} (track p k u n q) s =
      let d : TracksDue r = stands_in r p s in
      let long = length-append r.tracks (f.b ∷ []) in
      rw q (record {
        n_in = d.n_in;
        k_in = d.k_in;
        units_left = omega (arith, d.units_left, n);
        needs_none = d.needs_none;
        lines_are = omega (arith, d.lines_are);
      })
  taken_stands {f} (last_track p k u n q) s =
      let d : TracksDue r = stands_in r p s in
      let long = length-append r.tracks (f.b ∷ []) in
      let none : length r.needs ≡ 0 = rw d.needs_none in
      rw q (record {
        n_in = d.n_in;
        k_in = d.k_in;
        tracks_long = omega arith;
        needs_even = omega arith;
        needs_few = omega arith;
        lines_are = omega (arith, d.lines_are);
      })
  taken_stands {f} (need p k n q) s =
      let d : NeedsDue r = stands_in r p s in
      let long = length-append r.needs (f.a ∷ f.b ∷ []) in
      let even = d.needs_even in
      let few = d.needs_few in
      rw q (record {
        n_in = d.n_in;
        k_in = d.k_in;
        tracks_long = d.tracks_long;
        needs_even = omega arith;
        needs_few = omega (arith, few_more (pairs r.needs) few n);
        lines_are = omega (arith, d.lines_are);
      })
    where
      few_more : (m : ℕ) → m ≤ 8192 → (m ≡ 8192 → ⊥) → m + 1 ≤ 8192
      few_more m l n = omega arith

  comes_stands : Comes r line → Stands r.phase r → Stands (read_line r line).reading.phase (read_line r line).reading
  unfolding loaded
  comes_stands (no_frame e q) s = refused_stands (refusal.NoFrame (r.lines + 1)) q
  comes_stands (out_of_place f e o q) s = refused_stands (refusal.FrameOrder (r.lines + 1)) q
  comes_stands (past_limits f e o q) s = refused_stands refusal.OutOfLimits q
  comes_stands (taken f e r' t q) s = to_next q (taken_stands t s)
  comes_stands (ended f e o q) s = go (end_verdict r) refl
    where
      d : NeedsDue r
      d = stands_in r o.due s

      go : (v : Verdict) → end_verdict r ≡ v → Stands (read_line r line).reading.phase (read_line r line).reading
      go (Ok _) v =
          let fine = then_fine (listing_verdict (listing_of r)) (sound_verdict (listing_of r)) v in
          to_next {x = loaded (counted r) (Ok tt)} (q ∙ ap (loaded (counted r)) v) (record {
            accepted = fine.0;
            sound = fine.1;
            lines_few = omega (arith, d.lines_are, d.n_in, d.needs_few);
          })
      go (Err x) v = refused_stands x (q ∙ ap (loaded (counted r)) v)
  comes_stands (asked f e o q) s =
      let d : QuestionsDue r = stands_in r o.due s in
      let d' : QuestionsDue (counted r) = record { accepted = d.accepted; sound = d.sound; lines_few = o.in_time } in
      to_next q (subst (λ (x : Phase). Stands x (counted r)) (sym o.due) d')

-- what each phase has settled
pub reached_stands : {r : Reading} → Reached r → Stands r.phase r
reached_stands at_start = refl
reached_stands (after_line {r} q line) = go (true_or_false (reads r.phase)) (reached_stands q)
  where
    go : (reads r.phase ≡ true) ⊎ (reads r.phase ≡ false) → Stands r.phase r
        → Stands (read_line r line).reading.phase (read_line r line).reading
    go (inl t) s = comes_stands r line (line_comes r line t) s
    go (inr t) s = to_next r line (stopped_line r line t) s

pub stands_in_time : (phase : Phase) (r : Reading) → unfinished phase ≡ true → Stands phase r → r.lines + 1 ≤ 65535
stands_in_time Head r h s = omega arith
stands_in_time Tracks r h s = omega (arith, s.lines_are, s.units_left, s.n_in)
stands_in_time Needs r h s = omega (arith, s.lines_are, s.needs_few, s.n_in)
stands_in_time Asking r h s = absurd (not_both h refl)
stands_in_time Stopped r h s = absurd (not_both h refl)

-- before the end of 04 line 65,536 cannot come
pub line_in_time : (r : Reading) → Reached r → unfinished r.phase ≡ true → r.lines + 1 ≤ 65535
line_in_time r reached u = stands_in_time r.phase r u (reached_stands reached)

-- ---- refusals at 04

-- a listing is refused by 1 to 5
listing_few : (c : Listing) {s : Refusal} → listing_verdict c ≡ Err s → number_of s ≤ 5
listing_few c q = rw q at (listing_others c)

-- at 04 neither 6 nor any of 8 to 12 comes
pub end_never : (r : Reading) (s : Refusal) → (number_of s ≡ 6) ⊎ (7 < number_of s) → end_verdict r ≡ Err s → ⊥
end_never r s (inl n) = then_never (λ (q : listing_verdict (listing_of r) ≡ Err s). omega (arith, listing_few (listing_of r) q)) (sound_never (listing_of r) (λ e. omega arith))
end_never r s (inr n) = then_never (λ (q : listing_verdict (listing_of r) ≡ Err s). omega (arith, listing_few (listing_of r) q)) (sound_never (listing_of r) (λ e. omega arith))

-- a listing read up to 04 is within the limits
needs_inside : (r : Reading) → NeedsDue r → Outside (listing_of r) → ⊥
needs_inside r d (inl (inl l)) = omega (arith, d.n_in)
needs_inside r d (inl (inr l)) = omega (arith, d.n_in)
needs_inside r d (inr (inl (inl l))) = omega (arith, d.k_in)
needs_inside r d (inr (inl (inr l))) = omega (arith, d.k_in)
needs_inside r d (inr (inr (inl (inl l)))) = omega (arith, d.needs_even)
needs_inside r d (inr (inr (inl (inr l)))) = omega (arith, d.needs_few)
needs_inside r d (inr (inr (inr l))) = l d.tracks_long

module _ (r : Reading) (d : NeedsDue r) where
  -- 1 does not come at 04
  pub end_not_1 : (s : Refusal) → number_of s ≡ 1 → end_verdict r ≡ Err s → ⊥
  end_not_1 s n v = go ((then_refused (listing_verdict (listing_of r)) (sound_verdict (listing_of r)) s).0 v)
    where
      go : (listing_verdict (listing_of r) ≡ Err s) ⊎ ((listing_verdict (listing_of r) ≡ Ok tt) × (sound_verdict (listing_of r) ≡ Err s)) → ⊥
      go (inl q) = needs_inside r d ((listing_1 (listing_of r)).0 (ap told_verdict (q ∙ ap Err (refusal_1 s n))))
      go (inr q) = sound_never (listing_of r) (λ e. omega arith) q.1

  -- a refusal at 04 has a place of eight digits at most
  pub end_place : (s : Refusal) → end_verdict r ≡ Err s → EightDigits (place_of s)
  end_place s v = go s ((then_refused (listing_verdict (listing_of r)) (sound_verdict (listing_of r)) s).0 v) v
    where
      go : (s : Refusal) → (listing_verdict (listing_of r) ≡ Err s) ⊎ ((listing_verdict (listing_of r) ≡ Ok tt) × (sound_verdict (listing_of r) ≡ Err s))
          → end_verdict r ≡ Err s → EightDigits (place_of s)
      go refusal.OutOfLimits q v = omega arith
      go (refusal.NoSuchTrack u) (inl q) v = omega (arith, ((listing_2 (listing_of r) u).0 (ap told_verdict q)).1.holds, d.n_in)
      go (refusal.NoSuchTrack u) (inr q) v = absurd (sound_never (listing_of r) (λ e. omega arith) q.1)
      go (refusal.EmptyTrack t) (inl q) v = omega (arith, ((listing_3 (listing_of r) t).0 (ap told_verdict q)).2.holds, d.k_in)
      go (refusal.EmptyTrack t) (inr q) v = absurd (sound_never (listing_of r) (λ e. omega arith) q.1)
      go (refusal.BadPair i) (inl q) v = omega (arith, ((listing_4 (listing_of r) i).0 (ap told_verdict q)).3.holds, d.needs_few)
      go (refusal.BadPair i) (inr q) v = absurd (sound_never (listing_of r) (λ e. omega arith) q.1)
      go (refusal.PairOrder i) (inl q) v = omega (arith, ((listing_5 (listing_of r) i).0 (ap told_verdict q)).4.holds, d.needs_few)
      go (refusal.PairOrder i) (inr q) v = absurd (sound_never (listing_of r) (λ e. omega arith) q.1)
      go refusal.ShortArea q v = omega arith
      go (refusal.UnsoundTrack u) (inl q) v = absurd (let l = listing_few (listing_of r) q in omega arith)
      go (refusal.UnsoundTrack u) (inr q) v =
          omega (arith, ((sound_at (listing_of r) (listing_fine (listing_of r) q.0).needs_pairs.goes_down u).0 q.1).holds, d.n_in)
      go (refusal.BadArgument w) q v = absurd (end_never r (refusal.BadArgument w) (inr (omega arith)) v)
      go refusal.NotWhole q v = omega arith
      go (refusal.ShortList count) q v = absurd (end_never r (refusal.ShortList count) (inr (omega arith)) v)
      go (refusal.NoFrame line) q v = absurd (end_never r (refusal.NoFrame line) (inr (omega arith)) v)
      go (refusal.FrameOrder line) q v = absurd (end_never r (refusal.FrameOrder line) (inr (omega arith)) v)
