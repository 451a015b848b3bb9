-- Digits written from the last to the first, and units written one after another.
-- Assumes nothing.
use Prim.Native.Nat.{ℕ, suc, ◌+◌, ◌*◌, ◌/◌, ◌%◌, ◌≤◌, ◌<◌}
use mathlib.Core.Path.{◌≡◌, refl, sym, ap, ◌∙◌}
use mathlib.Core.List.{List, [], ◌∷◌, ◌++◌, append_assoc, append-nil}
use native.Mathlib.Omega.{arith}
use native.Mathlib.Numerals.{add-one}
use lib.ListN.{length, get_or, set, take, drop, take-append-drop}
use lib.Seq.{drop-cons, drop_at, get_or_at, get_or-take, length-take-le, set_at, take_all, take_at, take-suc, take-take}
use Rattle.rules.specs.Ranges.{over}
use Rattle.answers.specs.Printed.{hex_digit, hex_of, units_of}
use Rattle.answers.proofs.Lengths.{length_hex, length_units}
use Rattle.rules.proofs.Overs.{over-next}

-- ---- digits

-- of i digits, the last and those before it
module _ (s : List ℕ) (i j y : ℕ) (e : i ≡ suc j) (h : take i s ≡ hex_of i y) where
  pub hex_last : get_or s j 0 ≡ hex_digit (y % 16)
  unfolding hex_of
  hex_last =
      sym (get_or-take (suc j) s j 0 (omega arith))
      ∙ ap (λ (l : List ℕ). get_or l j 0) (rw e at h)
      ∙ get_or_at (hex_of j (y / 16)) (hex_digit (y % 16)) [] 0 j (length_hex j (y / 16))

  pub hex_before : take j s ≡ hex_of j (y / 16)
  unfolding hex_of
  hex_before =
      sym (take-take j (suc j) s (omega arith))
      ∙ ap (λ (l : List ℕ). take j l) (rw e at h)
      ∙ take_at (hex_of j (y / 16)) (hex_digit (y % 16) ∷ []) j (length_hex j (y / 16))

pub hex_whole : (w x : ℕ) → take w (hex_of w x) ≡ hex_of w x
hex_whole w x = take_all w (hex_of w x) (omega (arith, length_hex w x))

-- ---- an area written from its end: as it was up to i, and as it is to be from i on

pub back_none : (area xs : List ℕ) (n : ℕ) → length xs ≡ n → area ≡ take n area ++ drop n (over area xs)
unfolding over
back_none area xs n e = rw (drop_at xs (drop (length xs) area) n e, e) (sym (take-append-drop n area))

pub back_next : (area r : List ℕ) (i j b : ℕ) → i ≡ suc j → j < length area → j < length r → get_or r j 0 ≡ b
    → set (take i area ++ drop i r) j b ≡ take j area ++ drop j r
back_next area r i j b n h l e =
    rw (n, take-suc area j 0 h, append_assoc, drop-cons r j 0 l, e)
    (set_at (take j area) (get_or area j 0) (drop (suc j) r) b j (length-take-le j area (omega arith)))

-- ---- two bytes, one after the other

pub two_written : (area : List ℕ) (x y : ℕ) → 2 ≤ length area → set (set area 0 x) 1 y ≡ over area (x ∷ y ∷ [])
unfolding over
two_written area x y h =
    let one : set area 0 x ≡ over area (x ∷ []) = over-next area [] 0 x refl (omega arith) in
    rw one (over-next area (x ∷ []) 1 y refl (omega arith))

-- ---- units

pub text_append : (us vs : List ℕ) → units_of (us ++ vs) ≡ units_of us ++ units_of vs
unfolding units_of
text_append [] vs = refl
text_append (u ∷ us) vs = rw (text_append us vs, append_assoc)

pub text_none : units_of [] ≡ []
unfolding units_of
text_none = refl

pub text_one : (u : ℕ) → units_of (u ∷ []) ≡ 32 ∷ hex_of 4 u
unfolding units_of
text_one u = rw append-nil

-- one unit more: a space, and four digits
module _ (us : List ℕ) (i : ℕ) (h : i < length us) where
  pub length_before : length (units_of (take i us)) ≡ 5 * i
  length_before = length_units (take i us) ∙ rw (length-take-le i us (omega arith))

  pub text_next : units_of (take (i + 1) us) ≡ (units_of (take i us) ++ (32 ∷ [])) ++ hex_of 4 (get_or us i 0)
  text_next = rw (add-one, take-suc us i 0 h, text_append, text_one, append_assoc)

  pub text_space : (area : List ℕ) → 5 * i < length area
      → set (over area (units_of (take i us))) (5 * i) 32 ≡ over area (units_of (take i us) ++ (32 ∷ []))
  text_space area l = over-next area (units_of (take i us)) (5 * i) 32 length_before l
