-- What a build answers and leaves, case by case: refused by the listing, by the room, by a track that is not sound, or built.
-- Assumes nothing.
use Rattle.std.specs.Prelude.{Result, Ok, Err}
use Prim.Native.Nat.{ℕ, ◌-◌, ◌*◌, ◌^◌, ◌≤◌, ◌<◌}
use mathlib.Core.Path.{◌≡◌, sym, ◌∙◌}
use mathlib.Core.Bool.{◌&&◌}
use mathlib.Core.List.{List}
use mathlib.Core.Logic.{◌⊎◌, inl, inr}
use native.Mathlib.Omega.{arith}
use native.Mathlib.Nat.{mul_assoc, mul-le-mul}
use lib.ListN.{length}
use lib.Dec.{leb}
use borrow.Author.Tests.{le-leb, lt-leb}
use Rattle.rules.specs.declared.Built.{Built}
use Rattle.rules.specs.declared.Refusal.{Refusal}
use Rattle.rules.specs.declared.Refusal.TheVariants.{ShortArea}
use Rattle.rules.specs.Ranges.{table, over}
use Rattle.rules.specs.Listing.{Listing, size, listing_verdict}
use Rattle.rules.specs.Order.{sound_verdict}
use Rattle.rules.specs.Index.{built_count, built_words, built_directory, built_head, built_work, built_bits}
use Rattle.rules.specs.Outcomes.{room_verdict, filled_verdict, build_verdict, build_outcome}
use Rattle.rules.proofs.Verdicts.{both_and, no_and, and_no, fine_unless, refused-unless}
use Rattle.rules.proofs.Accepted.{Accepted}
use Rattle.rules.proofs.Builts.{bits_built}
use Rattle.build.specs.Ones.{outcome}

module _ (c : Listing) (words directory work : List ℕ) where
  -- ---- the room

  pub room_enough : built_count c ≤ length words → built_count c ≤ length directory → c.n * c.k ≤ length work → room_verdict c words directory work ≡ Ok tt
  unfolding room_verdict
  room_enough a b d = fine_unless ShortArea (both_and (both_and (le-leb _ _ a) (le-leb _ _ b)) (le-leb _ _ d))

  pub room_short : (length words < built_count c) ⊎ ((length directory < built_count c) ⊎ (length work < c.n * c.k))
      → room_verdict c words directory work ≡ Err ShortArea
  unfolding room_verdict
  room_short (inl a) = refused-unless ShortArea (no_and _ (no_and _ (lt-leb _ _ a)))
  room_short (inr (inl b)) = refused-unless ShortArea (no_and _ (and_no (leb (built_count c) (length words)) (lt-leb _ _ b)))
  room_short (inr (inr d)) =
      refused-unless ShortArea (and_no (leb (built_count c) (length words) && leb (built_count c) (length directory)) (lt-leb _ _ d))

  -- ---- the four cases

  pub refused-listing : {r : Refusal} → listing_verdict c ≡ Err r → outcome (Err r) words directory work ≡ build_outcome c words directory work
  unfolding build_outcome build_verdict filled_verdict
  refused-listing h = rw h

  pub refused_room : {r : Refusal} → listing_verdict c ≡ Ok tt → room_verdict c words directory work ≡ Err r
      → outcome (Err r) words directory work ≡ build_outcome c words directory work
  unfolding build_outcome build_verdict filled_verdict
  refused_room h room = rw (h, room)

  pub refused-unsound : {r : Refusal} → listing_verdict c ≡ Ok tt → room_verdict c words directory work ≡ Ok tt → sound_verdict c ≡ Err r
      → outcome (Err r) words directory (over work (built_work c)) ≡ build_outcome c words directory work
  unfolding build_outcome build_verdict filled_verdict
  refused-unsound h room sound = rw (h, room, sound)

  pub outcome_built : listing_verdict c ≡ Ok tt → room_verdict c words directory work ≡ Ok tt → sound_verdict c ≡ Ok tt
      → outcome
      (Ok (record { head = built_head c; bits = built_bits c }))
      (over words (built_words c))
      (over directory (built_directory c))
      (over work (built_work c))
      ≡ build_outcome c words directory work
  unfolding build_outcome build_verdict filled_verdict
  outcome_built h room sound = rw (h, room, sound)

-- the answer as the code puts it together
module _ (c : Listing) (a : Accepted c) where
  bits_is : 2 * c.n * (c.k - 1) ≡ built_bits c
  bits_is = mul_assoc 2 c.n (c.k - 1) ∙ sym (bits_built c a)

  pub bits_few : 2 * c.n * (c.k - 1) < 2 ^ 32
  bits_few = omega (arith, mul_assoc 2 c.n (c.k - 1), mul-le-mul a.n_in.1 (let h : c.k - 1 ≤ 31 = omega (arith, a.k_in) in h))

  pub answer_is : (lens : List ℕ) → lens ≡ table (size c.tracks) 32
      → ◌≡◌ {A = Built}
      (record { head = record { lens = lens; n = c.n; k = c.k }; bits = 2 * c.n * (c.k - 1) })
      (record { head = built_head c; bits = built_bits c })
  unfolding built_head
  answer_is lens e = rw (e, bits_is)

-- equal parts make an equal outcome
pub outcome_same : {a b : Result Built Refusal} {words words' directory directory' work work' : List ℕ}
    → a ≡ b → words ≡ words' → directory ≡ directory' → work ≡ work' → outcome a words directory work ≡ outcome b words' directory' work'
outcome_same p q r s = rw (p, q, r, s)
