-- How long each printed line is.
-- Assumes nothing.
use Rattle.rules.specs.Refusals.{PairAnswer, NumberAnswer}
use Rattle.std.specs.Prelude.{true, false, Ok, Err}
use Prim.Native.Nat.{ℕ, zero, suc, ◌+◌, ◌*◌, ◌/◌, ◌≤◌}
use mathlib.Core.Path.{◌≡◌, refl}
use mathlib.Core.List.{List, [], ◌∷◌}
use native.Mathlib.Omega.{arith}
use native.Mathlib.Numerals.{add-one}
use lib.ListN.{length, length-append}
use Rattle.rules.specs.declared.Refusal.{Refusal}
use Rattle.answers.specs.Printed.{hex_of, decimal_of, built_line, refused_line, pair_line, number_line, units_of, list_line}

pub length_hex : (w x : ℕ) → length (hex_of w x) ≡ w
unfolding hex_of
length_hex zero x = refl
length_hex (suc w) x = rw (length-append, length_hex w (x / 16), add-one)

pub length_built : (bits : ℕ) → length (built_line bits) ≡ 15
unfolding built_line
length_built bits = rw (length-append, length_hex)

pub length_refused_line : (r : Refusal) → length (refused_line r) ≡ 20
unfolding refused_line decimal_of
length_refused_line r = rw (length-append, length_hex)

pub length_pair_most : (a : PairAnswer) → length (pair_line a) ≤ 20
unfolding pair_line
length_pair_most (Ok true) = omega arith
length_pair_most (Ok false) = omega arith
length_pair_most (Err r) = omega (arith, length_refused_line r)

pub length_number : (x : ℕ) → length (number_line (Ok x)) ≡ 5
unfolding number_line
length_number x = rw (length-append, length_hex)

pub length_number_most : (a : NumberAnswer) → length (number_line a) ≤ 20
unfolding number_line
length_number_most (Ok x) = omega (arith, length_number x)
length_number_most (Err r) = omega (arith, length_refused_line r)

pub length_units : (units : List ℕ) → length (units_of units) ≡ 5 * length units
unfolding units_of
length_units [] = refl
length_units (u ∷ us) = omega (arith, length-append (hex_of 4 u) (units_of us), length_hex 4 u, length_units us)

pub length_list : (units : List ℕ) → length (list_line units) ≡ 5 * length units + 5
unfolding list_line
length_list units =
    rw (length-append, length-append, length_hex, length_units) (omega arith)
