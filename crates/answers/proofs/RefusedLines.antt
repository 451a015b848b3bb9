-- A printed refusal tells which refusal it is: its two digits give the number, its eight digits the place.
-- Assumes nothing.
use Rattle.std.specs.Prelude.{Ok, Err}
use Prim.Native.Nat.{ℕ, zero, suc, ◌+◌, ◌/◌, ◌%◌, ◌^◌, ◌≤◌, ◌<◌}
use mathlib.Core.Path.{◌≡◌, sym, ap, ◌∙◌}
use mathlib.Core.List.{List, [], ◌∷◌}
use native.Mathlib.Omega.{arith}
use native.Mathlib.Nat.{pow-suc}
use native.Mathlib.Decide.{dec_lt}
use lib.ListN.{get_or, take, drop}
use lib.Seq.{take_at, get_or_at}
use borrow.Author.Tests.{lt-ltb, le-ltb}
use Rattle.rules.specs.declared.Refusal.{Refusal}
use Rattle.rules.specs.declared.Refusal.TheVariants.{OutOfLimits, NoSuchTrack, EmptyTrack, BadPair, PairOrder, ShortArea, UnsoundTrack, BadArgument, NotWhole, ShortList, NoFrame, FrameOrder}
use Rattle.rules.specs.Refusals.{number_of, place_of, Verdict}
use Rattle.rules.specs.Told.{told_refusal}
use Rattle.rules.proofs.Tellings.{verdict_of, refusal_back}
use Rattle.answers.specs.Printed.{hex_digit, hex_of, decimal_of, refused_line}
use Rattle.answers.proofs.Lengths.{length_hex}

-- ---- digits

digit_tells : (x y : ℕ) → x < 16 → y < 16 → hex_digit x ≡ hex_digit y → x ≡ y
unfolding hex_digit
digit_tells x y a b h = go (dec_lt x 10) (dec_lt y 10)
  where
    go : Dec (x < 10) → Dec (y < 10) → x ≡ y
    go (yes p) (yes q) = let e : 48 + x ≡ 48 + y = rw (lt-ltb x 10 p, lt-ltb y 10 q) at h in omega arith
    go (yes p) (no q) = let e : 48 + x ≡ 87 + y = rw (lt-ltb x 10 p, le-ltb y 10 (omega arith)) at h in omega arith
    go (no p) (yes q) = let e : 87 + x ≡ 48 + y = rw (le-ltb x 10 (omega arith), lt-ltb y 10 q) at h in omega arith
    go (no p) (no q) = let e : 87 + x ≡ 87 + y = rw (le-ltb x 10 (omega arith), le-ltb y 10 (omega arith)) at h in omega arith

-- w digits tell every number that has no more of them
digits_tell : (w x y : ℕ) → x < 16 ^ w → y < 16 ^ w → hex_of w x ≡ hex_of w y → x ≡ y
unfolding hex_of
digits_tell zero x y a b h = omega arith
digits_tell (suc w) x y a b h =
    let before : hex_of w (x / 16) ≡ hex_of w (y / 16) =
    sym (take_at (hex_of w (x / 16)) (hex_digit (x % 16) ∷ []) w (length_hex w (x / 16)))
    ∙ ap (λ (l : List ℕ). take w l) h
    ∙ take_at (hex_of w (y / 16)) (hex_digit (y % 16) ∷ []) w (length_hex w (y / 16))
    in
    let last : hex_digit (x % 16) ≡ hex_digit (y % 16) =
    sym (get_or_at (hex_of w (x / 16)) (hex_digit (x % 16)) [] 0 w (length_hex w (x / 16)))
    ∙ ap (λ (l : List ℕ). get_or l w 0) h
    ∙ get_or_at (hex_of w (y / 16)) (hex_digit (y % 16)) [] 0 w (length_hex w (y / 16))
    in
    let s = pow-suc 16 w in
    omega (
      arith,
      digits_tell w (x / 16) (y / 16) (omega (arith, pow-suc 16 w)) (omega (arith, pow-suc 16 w)) before,
      digit_tells (x % 16) (y % 16) (omega arith) (omega arith) last,
    )

-- ---- refusals

number_few : (s : Refusal) → number_of s ≤ 12
number_few OutOfLimits = omega arith
number_few (NoSuchTrack u) = omega arith
number_few (EmptyTrack q) = omega arith
number_few (BadPair i) = omega arith
number_few (PairOrder i) = omega arith
number_few ShortArea = omega arith
number_few (UnsoundTrack u) = omega arith
number_few (BadArgument w) = omega arith
number_few NotWhole = omega arith
number_few (ShortList count) = omega arith
number_few (NoFrame line) = omega arith
number_few (FrameOrder line) = omega arith

-- the refusal that a verdict holds
abbrev held_in : Verdict → Refusal → Refusal
held_in (Ok _) r = r
held_in (Err r) _ = r

-- what a number and a place are told of, is told back
refusal_is : (s : Refusal) (v : Verdict) → verdict_of (told_refusal s) ≡ v → s ≡ held_in v s
refusal_is s v h = ap (λ (x : Verdict). held_in x s) (sym (refusal_back s) ∙ h)

pub refusal_1 : (s : Refusal) → number_of s ≡ 1 → s ≡ OutOfLimits
refusal_1 s n = refusal_is s (Err OutOfLimits) (rw n)

pub refusal_8 : (s : Refusal) → number_of s ≡ 8 → s ≡ BadArgument (place_of s)
refusal_8 s n = refusal_is s (Err (BadArgument (place_of s))) (rw n)

-- two refusals of one number and one place are the same
refusal_same : (a b : Refusal) → number_of a ≡ number_of b → place_of a ≡ place_of b → a ≡ b
refusal_same a b n p = refusal_is a (Err b) (rw (n, p) (refusal_back b))

module _ (a b : Refusal) (h : refused_line a ≡ refused_line b) where
  -- equal printed lines have the same number
  pub refused_number_tells : number_of a ≡ number_of b
  unfolding refused_line decimal_of
  refused_number_tells =
      let tens : 48 + number_of a / 10 % 10 ≡ 48 + number_of b / 10 % 10 = ap (λ (l : List ℕ). get_or l 8 0) h in
      let ones : 48 + number_of a % 10 ≡ 48 + number_of b % 10 = ap (λ (l : List ℕ). get_or l 9 0) h in
      omega (arith, number_few a, number_few b)

  -- and where the places have eight digits at most, they are of the same refusal
  pub refused_line_tells : place_of a < 4294967296 → place_of b < 4294967296 → a ≡ b
  unfolding refused_line decimal_of
  refused_line_tells x y =
      let place : hex_of 8 (place_of a) ≡ hex_of 8 (place_of b) =
      sym (take_at (hex_of 8 (place_of a)) (10 ∷ []) 8 (length_hex 8 (place_of a)))
      ∙ ap (λ (l : List ℕ). take 8 (drop 11 l)) h
      ∙ take_at (hex_of 8 (place_of b)) (10 ∷ []) 8 (length_hex 8 (place_of b))
      in
      refusal_same a b refused_number_tells (digits_tell 8 (place_of a) (place_of b) (omega arith) (omega arith) place)
