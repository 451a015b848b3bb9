-- The pairs of a need list as the two entries at a time that are read of it. Assumes nothing.
use Prim.Native.Nat.{ℕ, ◌+◌, ◌-◌, ◌*◌, ◌≤◌, ◌<◌}
use mathlib.Core.Path.{◌≡◌, sym, ap, ◌∙◌}
use mathlib.Core.List.{List, ◌++◌}
use native.Mathlib.Omega.{arith}
use lib.ListN.{length, get_or, drop}
use Rattle.std.proofs.lemmas.List.{length-append, length-drop, get_or-drop, get_or_append_left, drop-drop}
use Rattle.std.proofs.Math.Seq.{drop-append_seam}
use Rattle.rules.specs.Listing.{pairs, upper, lower}
use Rattle.rules.proofs.Needs.{Pairs}
use Rattle.rules.proofs.Ranges.{length-table}
use Rattle.stages.proofs.Lasts.{stages_by, stages_few}

-- `pair` is pair j of the list, and `rest` is what follows
pub record PairRead (l pair rest : List ℕ) (j : ℕ) : Type 0 where
  pub inside : j < pairs l
  pub first_is : get_or pair 0 0 ≡ upper l j
  pub second_is : get_or pair 1 0 ≡ lower l j
  pub left : rest ≡ drop (2 * (j + 1)) l

pub pair_read : (l : List ℕ) (j : ℕ) {pair rest before : List ℕ} → before ≡ drop (2 * j) l → before ≡ pair ++ rest → length pair ≡ 2 → PairRead l pair rest j
pair_read l j {pair} {rest} f e two = record {
  inside = omega (arith, length-drop (2 * j) l, length-append pair rest, ap length both);
  first_is = entry 0 (omega arith) ∙ at (omega arith);
  second_is = entry 1 (omega arith);
  left = sym (drop-append_seam pair rest) ∙ ap (λ (n : ℕ). drop n (pair ++ rest)) two ∙ ap (drop 2) (sym both) ∙ drop-drop 2 (2 * j) l ∙ ap (λ (n : ℕ). drop n l) (omega arith);
}
  where
    at : {a b : ℕ} → a ≡ b → get_or l a 0 ≡ get_or l b 0
    at = ap (λ (n : ℕ). get_or l n 0)

    both : drop (2 * j) l ≡ pair ++ rest
    both = sym f ∙ e

    entry : (i : ℕ) → i < 2 → get_or pair i 0 ≡ get_or l (2 * j + i) 0
    entry i h = sym (get_or_append_left pair rest 0 i (omega arith)) ∙ ap (λ (xs : List ℕ). get_or xs i 0) (sym both) ∙ get_or-drop (2 * j) l i 0

-- past the last whole pair
pub pairs_read : (l : List ℕ) (j : ℕ) {rest : List ℕ} → rest ≡ drop (2 * j) l → length rest < 2 → pairs l ≤ j
pairs_read l j e h = omega (arith, ap length e, length-drop (2 * j) l)

-- the entries that a pair names, and what they hold
pub record Entries (xs : List ℕ) (u v : ℕ) : Type 0 where
  pub unit : 1 ≤ v
  pub down : v < u
  pub within : u ≤ length xs
  pub few : length xs ≤ 1024
  pub low : get_or xs (v - 1) 0 ≤ 1024
  pub high : get_or xs (u - 1) 0 ≤ 1024

pub pair_entries : {n j : ℕ} {l xs pair rest : List ℕ} → Pairs n l → n ≤ 1024 → xs ≡ stages_by l j n → PairRead l pair rest j
    → Entries xs (get_or pair 0 0) (get_or pair 1 0)
pair_entries {n} {j} {l} {xs} p few e r =
    let long : length xs ≡ n = ap length e ∙ length-table _ _ in
    let low = p.second_in j r.inside in
    let up = p.first_in j r.inside in
    let stage_few = stages_few p j (omega (arith, r.inside)) e in
    rw (r.first_is, r.second_is)
    (record {
      unit = low.0;
      down = p.goes_down j r.inside;
      within = omega arith;
      few = omega arith;
      low = omega (arith, stage_few (lower l j) low.0 low.1);
      high = omega (arith, stage_few (upper l j) up.0 up.1);
    })
