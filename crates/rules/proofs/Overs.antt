-- Laws of an area whose first entries are written (`over`): its entries, one entry or a part written more, a table written entry by entry.
-- Assumes nothing.
use Prim.Native.Nat.{ℕ, suc, ◌+◌, ◌-◌, ◌≤◌, ◌<◌}
use mathlib.Core.Path.{◌≡◌, refl, sym, ◌∙◌}
use mathlib.Core.List.{List, [], ◌∷◌, ◌++◌, append-nil, append_assoc}
use native.Mathlib.Omega.{arith}
use native.Mathlib.Numerals.{add-one}
use lib.ListN.{length, get_or, set, take, drop, length-append, length-drop, drop_of_length-le, get_or-append}
use lib.Seq.{drop-cons, drop-drop, drop-length, set_at, take_all, take_at, drop_at}
use borrow.Rule.Slice.PartMut.{mid_of, put_mid}
use Rattle.rules.specs.Ranges.{table, over}
use Rattle.rules.proofs.Ranges.{length-table, table-next}

-- ---- its entries

pub length_over : (area xs : List ℕ) → length xs ≤ length area → length (over area xs) ≡ length area
unfolding over
length_over area xs h = rw (length-append, length-drop) (omega arith)

-- what is written
pub get_d_over : (area xs : List ℕ) (i : ℕ) → i < length xs → get_or (over area xs) i 0 ≡ get_or xs i 0
unfolding over
get_d_over area xs i h = get_or-append xs (drop (length xs) area) 0 i h

-- ---- nothing written, everything written, more written

pub over_none : (area : List ℕ) → area ≡ over area []
unfolding over
over_none area = refl

pub over-whole : (area xs : List ℕ) → length area ≡ length xs → over area xs ≡ xs
unfolding over
over-whole area xs h = rw (sym h, drop-length) (append-nil xs)

-- one entry more, stored right past the n that are written
pub over-next : (area xs : List ℕ) (n x : ℕ) → length xs ≡ n → n < length area → set (over area xs) n x ≡ over area (xs ++ (x ∷ []))
unfolding over
over-next area xs n x e h =
    rw (e, length-append, e, add-one, drop-cons area n 0 h, append_assoc) (set_at xs (get_or area n 0) (drop (suc n) area) x n e)

-- ys written over what stands past xs
pub over_behind : (area xs ys : List ℕ) (n : ℕ) → length xs ≡ n → take n (over area xs) ++ over (drop n area) ys ≡ over area (xs ++ ys)
unfolding over
over_behind area xs ys n e = rw (take_at xs (drop (length xs) area) n e, drop-drop, length-append, append_assoc, e)

-- what stands past xs is what stood there
pub over_rest : (area xs : List ℕ) (n : ℕ) → length xs ≡ n → drop n (over area xs) ≡ drop n area
unfolding over
over_rest area xs n e = rw e (drop_at xs (drop n area) n e)

-- ---- parts that were lent

-- a part lent from the front, which comes back as xs, before what was not lent
pub over-part : (area part xs : List ℕ) (m : ℕ) → part ≡ xs → length xs ≡ m → part ++ drop m area ≡ over area xs
unfolding over
over-part area part xs m e h = rw (e, sym h)

-- what a slice lent from n on holds
pub rest_is : (l : List ℕ) (n : ℕ) → take (length l - n) (drop n l) ≡ drop n l
rest_is l n = take_all (length l - n) (drop n l) (omega (arith, length-drop n l))

-- what is past xs, as the slice comes back from the call that wrote ys over it
pub part_back : (area xs ys l part : List ℕ) (n : ℕ) → l ≡ over area xs → length xs ≡ n → part ≡ over (mid_of n (length l - n) l) ys
    → put_mid n (length l - n) l part ≡ over area (xs ++ ys)
part_back area xs ys l part n e h p =
    let none : drop (length l - n) (drop n l) ≡ [] = drop_of_length-le (drop n l) {i = length l - n} (omega (arith, length-drop n l)) in
    rw (p, rest_is l n, none, append-nil, e, over_rest area xs n h) (over_behind area xs ys n h)

-- the same, and one entry at their end
pub part_back_next : (area xs ys l part : List ℕ) (n m x : ℕ) → l ≡ over area xs → length xs ≡ n → part ≡ over (mid_of n (length l - n) l) ys
    → length xs + length ys ≡ m → m < length area → set (put_mid n (length l - n) l part) m x ≡ over area (xs ++ ys ++ (x ∷ []))
part_back_next area xs ys l part n m x e h p long room =
    rw (part_back area xs ys l part n e h p) (over-next area (xs ++ ys) m x (length-append xs ys ∙ long) room)

-- ---- a table written entry by entry

module _ (f : ℕ → ℕ) (area : List ℕ) where
  pub over-table_none : area ≡ over area (table f 0)
  unfolding table
  over-table_none = over_none area

  pub over-table-next : (m : ℕ) → m < length area → set (over area (table f m)) m (f m) ≡ over area (table f (m + 1))
  over-table-next m h = rw (table-next f m) (over-next area (table f m) m (f m) (length-table f m) h)
