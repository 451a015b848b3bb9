-- What a line that is a frame looks like.
-- Assumes nothing.
use Prim.Native.Nat.{ℕ, zero, suc, ◌+◌, ◌-◌, ◌*◌, ◌^◌, ◌<◌}
use mathlib.Core.Path.{◌≡◌, refl, sym, ◌∙◌}
use mathlib.Core.Bool.{Bool, true, false, ◌&&◌}
use mathlib.Core.List.{List}
use mathlib.Core.Logic.{◌⊎◌, inl, inr}
use native.Mathlib.Omega.{arith}
use native.Mathlib.Nat.{pow-suc}
use native.Mathlib.Decide.{dec_lt}
use native.Mathlib.Numerals.{add-one}
use lib.ListN.{length, get_or, drop}
use lib.Seq.{get_or-drop}
use lib.Dec.{eqb}
use borrow.Author.Tests.{eqb-true, ne_eqb}
use Rattle.std.specs.Prelude.{Option, Some, None, IsSome, option_map}
use Rattle.std.specs.Option.{is_some, option_zip}
use Rattle.std.proofs.Common.{below_more}
use Rattle.std.proofs.lemmas.Option.{none-some, same_Some}
use Rattle.rules.proofs.Ranges.{true_or_false}
use Rattle.rules.specs.Listing.{within}
use Rattle.rules.proofs.Verdicts.{and_both, both_and, within_is}
use Rattle.frames.specs.declared.Frame.{Frame}
use Rattle.frames.specs.Lines.{digit_of, spelled, four_of, numbers_of, frame_of, line_of}

-- ---- digits

-- each of w bytes is a digit
abbrev pub Digits : List ℕ → ℕ → Type 0
Digits s w = (i : ℕ) → i < w → IsSome (digit_of (get_or s i 0))

-- a line feed is no digit
pub no_digit : IsSome (digit_of 10) → ⊥
unfolding digit_of
no_digit h = let z : ◌≡◌ {A = Bool} false true = h in cc

mapped : {A B : Type 0} (f : A → B) (o : Option A) → is_some (option_map f o) ≡ is_some o
mapped f None = refl
mapped f (Some x) = refl

zipped : {A B : Type 0} (a : Option A) (b : Option B) → is_some (option_zip a b) ≡ (is_some a && is_some b)
zipped None b = refl
zipped (Some x) None = refl
zipped (Some x) (Some y) = refl

-- one digit more
spelled_more : (s : List ℕ) (w : ℕ) → is_some (spelled s (suc w)) ≡ (is_some (spelled s w) && is_some (digit_of (get_or s w 0)))
unfolding spelled
spelled_more s w = mapped (λ (n : ℕ × ℕ). 16 * n.0 + n.1) (option_zip (spelled s w) (digit_of (get_or s w 0))) ∙ zipped (spelled s w) (digit_of (get_or s w 0))

-- digits spell a number, and only they do
pub digits_spell : (s : List ℕ) (w : ℕ) → Digits s w → IsSome (spelled s w)
unfolding spelled
digits_spell s zero h = refl
digits_spell s (suc w) h = spelled_more s w ∙ both_and (digits_spell s w (λ i l. h i (omega arith))) (h w (omega arith))

pub spelled_digits : (s : List ℕ) (w : ℕ) → IsSome (spelled s w) → Digits s w
spelled_digits s zero h = λ i l. absurd (omega arith)
spelled_digits s (suc w) h =
    let both = and_both (is_some (spelled s w)) (is_some (digit_of (get_or s w 0))) (sym (spelled_more s w) ∙ h) in
    let each = below_more _ _ (spelled_digits s w both.0) both.1 in
    rw add-one at each

-- a digit is below 16
digit_below : (b : ℕ) {d : ℕ} → digit_of b ≡ Some d → d < 16
unfolding digit_of
digit_below b {d} e = go (true_or_false (within 48 57 b)) (true_or_false (within 97 102 b))
  where
    go : (within 48 57 b ≡ true) ⊎ (within 48 57 b ≡ false) → (within 97 102 b ≡ true) ⊎ (within 97 102 b ≡ false) → d < 16
    go (inl t) s = let same = same_Some (b - 48) d (rw t at e) in omega (arith, same, within_is 48 57 b t)
    go (inr t) (inl s) = let same = same_Some (b - 87) d (rw (t, s) at e) in omega (arith, same, within_is 97 102 b s)
    go (inr t) (inr s) = absurd (none-some d (rw (t, s) at e))

-- w digits spell a number below 16 ^ w
pub spelled_below : (s : List ℕ) (w : ℕ) {n : ℕ} → spelled s w ≡ Some n → n < 16 ^ w
unfolding spelled
spelled_below s zero {n} e = let same = same_Some 0 n e in omega (arith, same)
spelled_below s (suc w) {n} e = go (λ m f. spelled_below s w {n = m} f) (spelled s w) refl (digit_of (get_or s w 0)) refl e
  where
    go : ((m : ℕ) → spelled s w ≡ Some m → m < 16 ^ w) → (a : Option ℕ) → spelled s w ≡ a → (d : Option ℕ) → digit_of (get_or s w 0) ≡ d
        → option_map (λ (m : ℕ × ℕ). 16 * m.0 + m.1) (option_zip a d) ≡ Some n → n < 16 ^ suc w
    go before None f d g e = absurd (none-some n e)
    go before (Some a) f None g e = absurd (none-some n e)
    go before (Some a) f (Some d) g e = omega (arith, pow-suc 16 w, before a f, digit_below (get_or s w 0) g, same_Some (16 * a + d) n e)

-- a + b digits are a digits and b past them, both ways
pub digits_add : (s : List ℕ) (a b : ℕ) → Digits s a → Digits (drop a s) b → Digits s (a + b)
digits_add s a b h l i less = go (dec_lt i a)
  where
    go : Dec (i < a) → IsSome (digit_of (get_or s i 0))
    go (yes y) = h i y
    go (no n) =
        let e : a + (i - a) ≡ i = omega arith in
        let past = l (i - a) (omega arith) in
        rw (get_or-drop, e) at past

pub digits_apart : (s : List ℕ) (a b : ℕ) → Digits s (a + b) → Digits s a × Digits (drop a s) b
digits_apart s a b h = (λ i l. h i (omega arith), λ i l. rw get_or-drop (h (a + i) (omega arith)))

-- eight digits are two numbers, and only they are
pub digits_numbers : (s : List ℕ) → Digits s 8 → IsSome (numbers_of s)
unfolding numbers_of four_of
digits_numbers s h =
    let apart = digits_apart s 4 4 h in
    zipped (spelled s 4) (spelled (drop 4 s) 4) ∙ both_and (digits_spell s 4 apart.0) (digits_spell (drop 4 s) 4 apart.1)

pub numbers_digits : (s : List ℕ) → IsSome (numbers_of s) → Digits s 8
unfolding numbers_of four_of
numbers_digits s h =
    let both = and_both (is_some (spelled s 4)) (is_some (spelled (drop 4 s) 4)) (sym (zipped (spelled s 4) (spelled (drop 4 s) 4)) ∙ h) in
    digits_add s 4 4 (spelled_digits s 4 both.0) (spelled_digits (drop 4 s) 4 both.1)

-- ---- lines

-- the tests of line_of
abbrev ended : List ℕ → Bool
ended line = eqb (length line) 11 && eqb (get_or line 10 0) 10

pub line_short : (line : List ℕ) → (length line ≡ 11 → ⊥) → line_of line ≡ None
unfolding line_of
line_short line h = rw (ne_eqb (length line) 11 h)

-- what a frame says of its line
pub record Framed (line : List ℕ) : Type 0 where
  pub long : length line ≡ 11
  pub feed : get_or line 10 0 ≡ 10
  pub kind_digits : Digits line 2
  pub number_digits : Digits (drop 2 line) 8

-- a line is a frame if it is framed so, and only then
pub framed_some : (line : List ℕ) → Framed line → IsSome (line_of line)
unfolding line_of
framed_some line h =
    rw (h.long, h.feed)
    (mapped frame_of (option_zip (spelled line 2) (numbers_of (drop 2 line)))
    ∙ zipped (spelled line 2) (numbers_of (drop 2 line))
    ∙ both_and (digits_spell line 2 h.kind_digits) (digits_numbers (drop 2 line) h.number_digits))

pub some_framed : (line : List ℕ) → IsSome (line_of line) → Framed line
unfolding line_of
some_framed line h = go (true_or_false (ended line))
  where
    go : (ended line ≡ true) ⊎ (ended line ≡ false) → Framed line
    go (inr f) = absurd (let z : ◌≡◌ {A = Bool} false true = rw f at h in cc)
    go (inl t) =
        let end = and_both (eqb (length line) 11) (eqb (get_or line 10 0) 10) t in
        let said : IsSome (option_map frame_of (option_zip (spelled line 2) (numbers_of (drop 2 line)))) = rw t at h in
        let digits = and_both (is_some (spelled line 2)) (is_some (numbers_of (drop 2 line)))
        (sym (mapped frame_of (option_zip (spelled line 2) (numbers_of (drop 2 line))) ∙ zipped (spelled line 2) (numbers_of (drop 2 line))) ∙ said)
        in
        record {
          long = eqb-true (length line) 11 end.0;
          feed = eqb-true (get_or line 10 0) 10 end.1;
          kind_digits = spelled_digits line 2 digits.0;
          number_digits = numbers_digits (drop 2 line) digits.1;
        }

pub framed : (line : List ℕ) {f : Frame} → line_of line ≡ Some f → Framed line
framed line e = some_framed line (rw e)

module _ (line : List ℕ) {f : Frame} (h : line_of line ≡ Some f) where
  pub line_long : length line ≡ 11
  line_long = (framed line h).long

  pub line_digits : Digits line 10
  line_digits = let r = framed line h in digits_add line 2 8 r.kind_digits r.number_digits

  -- the line feed is the last byte, and the only one
  pub line_feed_last : (get_or line 10 0 ≡ 10) × ((i : ℕ) → i < 10 → get_or line i 0 ≡ 10 → ⊥)
  line_feed_last = ((framed line h).feed, λ i l e. no_digit (rw e at (line_digits i l)))
