-- A line is a frame exactly when it is ten lower-case digits and a line feed.
-- Assumes nothing.
use Prim.Native.Nat.{ℕ, ◌+◌, ◌≤◌, ◌<◌}
use mathlib.Core.Path.{◌≡◌, refl, sym, ◌∙◌}
use mathlib.Core.Bool.{Bool, true, false}
use mathlib.Core.List.{List}
use mathlib.Core.Logic.{◌↔◌, ◌⊎◌, inl, inr}
use native.Mathlib.Omega.{arith}
use lib.ListN.{length, get_or}
use lib.Seq.{get_or-drop}
use Rattle.std.specs.Prelude.{Option, Some, None, IsSome}
use Rattle.std.proofs.lemmas.Option.{none-some}
use Rattle.rules.specs.Listing.{within}
use Rattle.rules.proofs.Ranges.{true_or_false}
use Rattle.rules.proofs.Verdicts.{within_is, is_within, not_within}
use Rattle.frames.specs.declared.Frame.{Frame}
use Rattle.frames.specs.Lines.{digit_of, line_of}
use Rattle.frames.proofs.Frames.{framed, framed_some, line_digits}

-- 0 to 9, a to f
abbrev pub LowerDigit : ℕ → Type 0
LowerDigit b = ((48 ≤ b) × (b ≤ 57)) ⊎ ((97 ≤ b) × (b ≤ 102))

-- ten lower-case digits and a line feed
pub record TenDigitsAndFeed (line : List ℕ) : Type 0 where
  pub long : length line ≡ 11
  pub digit_each : (i : ℕ) → i < 10 → LowerDigit (get_or line i 0)
  pub feed : get_or line 10 0 ≡ 10

digit-lower : (b : ℕ) → IsSome (digit_of b) → LowerDigit b
unfolding digit_of
digit-lower b h = go (true_or_false (within 48 57 b)) (true_or_false (within 97 102 b))
  where
    go : (within 48 57 b ≡ true) ⊎ (within 48 57 b ≡ false) → (within 97 102 b ≡ true) ⊎ (within 97 102 b ≡ false) → LowerDigit b
    go (inl t) s = inl (within_is 48 57 b t)
    go (inr t) (inl s) = inr (within_is 97 102 b s)
    go (inr t) (inr s) = absurd (let z : ◌≡◌ {A = Bool} false true = rw (t, s) at h in cc)

lower-digit : (b : ℕ) → LowerDigit b → IsSome (digit_of b)
unfolding digit_of
lower-digit b (inl l) = rw (is_within l.0 l.1)
lower-digit b (inr l) = rw (not_within 48 57 b (inr (omega (arith, l.0))), is_within l.0 l.1)

module _ (line : List ℕ) where
  frame_shape : {f : Frame} → line_of line ≡ Some f → TenDigitsAndFeed line
  frame_shape e =
      record {
        long = (framed line e).long;
        digit_each = λ i l. digit-lower (get_or line i 0) (line_digits line e i l);
        feed = (framed line e).feed;
      }

  shape_frame : TenDigitsAndFeed line → (f : Frame) × (line_of line ≡ Some f)
  shape_frame s = go (line_of line) refl
    where
      digit_at : (i : ℕ) → i < 10 → IsSome (digit_of (get_or line i 0))
      digit_at i l = lower-digit (get_or line i 0) (s.digit_each i l)

      is_frame : IsSome (line_of line)
      is_frame = framed_some line (record {
        long = s.long;
        feed = s.feed;
        kind_digits = λ i l. digit_at i (omega arith);
        number_digits = λ i l. rw get_or-drop (digit_at (2 + i) (omega arith));
      })

      go : (said : Option Frame) → line_of line ≡ said → (f : Frame) × (line_of line ≡ Some f)
      go (Some f) e = (f, e)
      go None e = absurd (let z : ◌≡◌ {A = Bool} false true = rw e at is_frame in cc)

  -- a line is a frame exactly when it is ten lower-case digits and a line feed
  pub frame_is : ((f : Frame) × (line_of line ≡ Some f)) ↔ TenDigitsAndFeed line
  frame_is = (λ h. frame_shape h.1, shape_frame)

  -- and no frame exactly when it is not
  pub no_frame_is : (line_of line ≡ None) ↔ (TenDigitsAndFeed line → ⊥)
  no_frame_is = (λ e s. none-some _ (sym e ∙ (shape_frame s).1), λ n. go (line_of line) refl n)
    where
      go : (said : Option Frame) → line_of line ≡ said → (TenDigitsAndFeed line → ⊥) → line_of line ≡ None
      go None e n = e
      go (Some f) e n = absurd (n (frame_shape e))
