-- The bytes of a block: some of them moved to the front, and others come behind them.
-- Assumes nothing.
use Prim.Native.Nat.{ℕ, zero, suc, ◌+◌, ◌-◌, ◌≤◌, ◌<◌}
use mathlib.Core.Path.{◌≡◌, refl, sym, ap, ◌∙◌}
use mathlib.Core.Bool.{false}
use mathlib.Core.List.{List, [], ◌∷◌, ◌++◌, append-nil}
use mathlib.Core.Logic.{inl, inr}
use native.Mathlib.Numerals.{add-one}
use native.Mathlib.Omega.{arith}
use lib.Dec.{eqb}
use lib.ListN.{length, get_or, take, drop, set, length-drop}
use lib.Seq.{length-take-le, take-suc, get_or-drop, take-nil, take_at, drop_at, take-add, drop-drop}
use borrow.Author.Tests.{eqb-true, eqb-false}
use Rattle.std.specs.Prelude.{min, Option, Result, Ok, Err, IfOk, MatchResult}
use Rattle.std.specs.Io.{ReadsAtMost}
use Rattle.std.specs.Io.KnownBytes.{ReadConsumes, Consumes, IsAtEnd}
use Rattle.std.proofs.KnownBytes.{Consumes-nil, Consumes-kept}
use Rattle.std.proofs.lemmas.List.{take-take}
use Rattle.rules.specs.Ranges.{over}
use Rattle.rules.proofs.Overs.{over-next, over_rest}
use Rattle.blocks.specs.declared.Waiting.{Waiting}
use Rattle.blocks.specs.Blocks.{part, filled_by, behind, Refilled}

-- ---- bytes moved to the front

module _ (bytes : List ℕ) (from i : ℕ) (h : from + i < length bytes) where
  abbrev moved : List ℕ
  moved = over bytes (take i (drop from bytes))

  front_long : length (take i (drop from bytes)) ≡ i
  front_long = length-take-le i (drop from bytes) (simp length-drop (omega arith))

  -- a byte that is still to be moved is as it was
  byte_kept : get_or moved (from + i) 0 ≡ get_or (drop from bytes) i 0
  byte_kept =
      let e : from + i ≡ i + from = omega arith in
      ap (λ (j : ℕ). get_or moved j 0) e
      ∙ sym (get_or-drop i moved from 0)
      ∙ ap (λ (l : List ℕ). get_or l from 0) (over_rest bytes (take i (drop from bytes)) i front_long)
      ∙ get_or-drop i bytes from 0
      ∙ ap (λ (j : ℕ). get_or bytes j 0) (sym e)
      ∙ sym (get_or-drop from bytes i 0)

  pub moved_next : set moved i (get_or moved (from + i) 0) ≡ over bytes (take (i + 1) (drop from bytes))
  moved_next =
      rw (byte_kept, add-one, take-suc (drop from bytes) i 0 (simp length-drop (omega arith)))
      (over-next bytes (take i (drop from bytes)) i (get_or (drop from bytes) i 0) front_long (omega arith))

-- ---- a read

module _ {E : Type 0} where
  -- what came lies in the block
  pub filled_in : (got : Result ℕ E) (have size : ℕ) → have ≤ size → IfOk (filled_by got have size) (λ end. (have ≤ end) × (end ≤ size))
  unfolding filled_by
  filled_in (Ok got) have size h = (omega arith, omega arith)
  filled_in (Err e) have size h = tt

  module _ (have size : ℕ) (buf : List ℕ) (old new : Option (List ℕ)) (long : length buf ≡ size - have) where
    -- what stands behind the bytes that were there is what the reader gave
    pub read_taken : (got : Result ℕ E) → ReadsAtMost got buf → ReadConsumes old new got buf → (bytes : List ℕ) → part bytes have size ≡ buf
        → MatchResult (filled_by got have size) (λ end. Consumes old new (part bytes have end)) (λ _. Consumes old new [])
    unfolding filled_by
    read_taken (Ok n) few taken bytes read =
        let inside : n ≤ size - have = omega (arith, few.0, long) in
        let e : have + min n (size - have) - have ≡ n = omega arith in
        rw e (rw (sym (ap (take n) (sym read) ∙ take-take n (size - have) (drop have bytes) inside)) taken.0)
    read_taken (Err err) few kept bytes read = Consumes-kept old old new [] (Consumes-nil old) kept

    -- and where there was room, it gave none only if it had none
    pub read_at_end : (got : Result ℕ E) → ReadsAtMost got buf → ReadConsumes old new got buf
        → IfOk (filled_by got have size) (λ end. end ≡ have → have < size → IsAtEnd new)
    unfolding filled_by
    read_at_end (Ok n) few taken = λ none room. taken.1 (omega (arith, few.0, long)) (omega (arith, long))
    read_at_end (Err err) few kept = tt

pub part_long : (bytes : List ℕ) (from end : ℕ) → end ≤ length bytes → length (part bytes from end) ≡ end - from
part_long bytes from end h = length-take-le (end - from) (drop from bytes) (simp length-drop (omega arith))

drop-take : (n m : ℕ) (l : List ℕ) → drop n (take m l) ≡ take (m - n) (drop n l)
drop-take zero m l = let e : m - 0 ≡ m = omega arith in rw e
drop-take (suc n) zero l = let e : 0 - suc n ≡ 0 = omega arith in rw e
drop-take (suc n) (suc m) [] = sym (take-nil (suc m - suc n))
drop-take (suc n) (suc m) (b ∷ l) = let e : suc m - suc n ≡ m - n = omega arith in rw e (drop-take n m l)

-- what is left of it from a place on
pub part_rest : (bytes : List ℕ) (from end used : ℕ) → drop used (part bytes from end) ≡ part bytes (from + used) end
part_rest bytes from end used =
    let e : end - from - used ≡ end - (from + used) = omega arith in
    drop-take used (end - from) (drop from bytes) ∙ rw (e, drop-drop used from bytes)

module _ (bytes : List ℕ) (from end : ℕ) (start_in : from ≤ end) (end_in : end ≤ length bytes) where
  -- a whole line waits
  pub refilled_none : 11 ≤ end - from → Refilled bytes from end (record { from = from; end = end; ended = false }) bytes
  refilled_none line =
      record {
        came = [];
        start_in = start_in;
        end_in = end_in;
        waits = sym (append-nil (part bytes from end));
        came_so = record { ended_is = λ h. absurd (let z : ◌≡◌ {A = ℕ} 0 1 = cc in omega arith); brought = λ h. inl (line, refl) };
      }

  -- what waits, moved to the front
  pub front_part : {moved : List ℕ} → moved ≡ over bytes (part bytes from end) → take (end - from) moved ≡ part bytes from end
  unfolding over
  front_part kept =
      rw kept (take_at (part bytes from end) (drop (length (part bytes from end)) bytes) (end - from) (part_long bytes from end end_in))

  -- what waits stands at the front, and up to some place bytes are there
  module _ (bytes' : List ℕ) (few : end - from < 11) (kept : take (end - from) bytes' ≡ part bytes from end) where
    pub refilled_some : (end' : ℕ) → end - from ≤ end' → end' ≤ length bytes' → Refilled bytes from end (record { from = 0; end = end'; ended = eqb end' (end - from) }) bytes'
    refilled_some end' more inside =
        let long = part_long bytes' (end - from) end' inside in
        let e : end' - 0 ≡ end - from + (end' - (end - from)) = omega arith in
        record {
          came = part bytes' (end - from) end';
          start_in = omega arith;
          end_in = inside;
          waits =
              ap (λ (n : ℕ). take n bytes') e
              ∙ take-add (end - from) (end' - (end - from)) bytes'
              ∙ ap (λ (l : List ℕ). l ++ part bytes' (end - from) end') kept;
          came_so = record {
            ended_is = λ h. (few, none end' (eqb-true end' (end - from) h));
            brought = λ h. inr (omega (arith, long, eqb-false end' (end - from) h));
          };
        }
      where
        none : (end' : ℕ) → end' ≡ end - from → part bytes' (end - from) end' ≡ []
        none end' e = let z : end' - (end - from) ≡ 0 = omega arith in rw z

-- what came is what stands behind the bytes that waited
pub came_behind : {bytes bytes' : List ℕ} {from end : ℕ} {waiting : Waiting} (filled : Refilled bytes from end waiting bytes') → end ≤ length bytes
    → behind (end - from) waiting bytes' ≡ filled.came
came_behind {bytes} {bytes'} {from} {end} {waiting} filled end_in =
    ap (drop (end - from)) filled.waits ∙ drop_at (part bytes from end) filled.came (end - from) (part_long bytes from end end_in)
