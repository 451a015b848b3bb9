-- What is printed for each answer, byte by byte. Digits are lower-case hexadecimal, but a refusal's number is in decimal.
use Rattle.std.specs.Prelude.{ℕ, zero, suc, ◌+◌, ◌/◌, ◌%◌, cond, List, [], ◌∷◌, ◌++◌, length, ltb, Ok, Err, true, false}
use Rattle.rules.specs.declared.Refusal.{Refusal}
use Rattle.rules.specs.Refusals.{number_of, place_of, PairAnswer, NumberAnswer}

-- the digit, 0 to 9 or a to f
unfoldable pub hex_digit : ℕ → ℕ
hex_digit d = cond (ltb d 10) (48 + d) (87 + d)

-- w digits of x
unfoldable pub hex_of : ℕ → ℕ → List ℕ
hex_of zero x = []
hex_of (suc w) x = hex_of w (x / 16) ++ (hex_digit (x % 16) ∷ [])

-- two decimal digits of x
unfoldable pub decimal_of : ℕ → List ℕ
decimal_of x = (48 + x / 10 % 10) ∷ (48 + x % 10) ∷ []

-- `built ` and the bit count in eight digits
unfoldable pub built_line : ℕ → List ℕ
built_line bits = (98 ∷ 117 ∷ 105 ∷ 108 ∷ 116 ∷ 32 ∷ []) ++ hex_of 8 bits ++ (10 ∷ [])

-- `refused `, two digits of number, a space, eight of place
unfoldable pub refused_line : Refusal → List ℕ
refused_line r =
    (114 ∷ 101 ∷ 102 ∷ 117 ∷ 115 ∷ 101 ∷ 100 ∷ 32 ∷ []) ++ decimal_of (number_of r) ++ (32 ∷ []) ++ hex_of 8 (place_of r) ++ (10 ∷ [])

-- `yes` or `no`
unfoldable pub pair_line : PairAnswer → List ℕ
pair_line (Ok true) = 121 ∷ 101 ∷ 115 ∷ 10 ∷ []
pair_line (Ok false) = 110 ∷ 111 ∷ 10 ∷ []
pair_line (Err r) = refused_line r

-- four digits
unfoldable pub number_line : NumberAnswer → List ℕ
number_line (Ok x) = hex_of 4 x ++ (10 ∷ [])
number_line (Err r) = refused_line r

-- the units, four digits each, a space before each
unfoldable pub units_of : List ℕ → List ℕ
units_of [] = []
units_of (u ∷ us) = 32 ∷ hex_of 4 u ++ units_of us

-- the count and the units
unfoldable pub list_line : List ℕ → List ℕ
list_line units = hex_of 4 (length units) ++ units_of units ++ (10 ∷ [])
