-- A line of a course file: a frame, or none. A frame is ten lower-case hexadecimal digits and a line feed: two digits of kind, then two
-- numbers of four.
use Rattle.std.specs.Prelude.{ℕ, zero, suc, ◌+◌, ◌-◌, ◌*◌, cond, ◌&&◌, List, length, get_or, drop, eqb, Option, Some, None, option_map}
use Rattle.std.specs.Option.{option_zip}
use Rattle.rules.specs.Listing.{within}
use Rattle.frames.specs.declared.Frame.{Frame}

-- what the byte stands for, if it is a digit: 0 to 9, a to f
unfoldable pub digit_of : ℕ → Option ℕ
digit_of b = cond (within 48 57 b) (Some (b - 48)) (cond (within 97 102 b) (Some (b - 87)) None)

-- the number that the first w bytes spell, if they are digits
unfoldable pub spelled : List ℕ → ℕ → Option ℕ
spelled s zero = Some 0
spelled s (suc w) = option_map (λ n. 16 * n.0 + n.1) (option_zip (spelled s w) (digit_of (get_or s w 0)))

-- the number that the first four bytes spell, if they are digits
unfoldable pub four_of : List ℕ → Option ℕ
four_of s = spelled s 4

-- two numbers of four digits each
unfoldable pub numbers_of : List ℕ → Option (ℕ × ℕ)
numbers_of s = option_zip (four_of s) (four_of (drop 4 s))

-- a frame of its kind and its numbers
abbrev pub frame_of : ℕ × (ℕ × ℕ) → Frame
frame_of f = record { kind = f.0; a = f.1.0; b = f.1.1 }

-- the eight digits after the kind are read apart from it
unfoldable pub line_of : List ℕ → Option Frame
line_of line =
    cond (eqb (length line) 11 && eqb (get_or line 10 0) 10)
    (option_map frame_of (option_zip (spelled line 2) (numbers_of (drop 2 line))))
    None
