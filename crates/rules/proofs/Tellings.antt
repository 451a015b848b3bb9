-- Number and place together determine the refusal, so what is told determines the answer: the refusals stand in a table by their numbers,
-- and reading an answer back off it gives the answer. Assumes nothing.
use Rattle.std.specs.Prelude.{Ok, Err}
use Prim.Native.Nat.{ℕ, ◌≤◌, ◌<◌, zero-le}
use mathlib.Core.Path.{◌≡◌, refl, sym, ap, ◌∙◌}
use mathlib.Core.Bool.{Bool, true, false}
use mathlib.Core.List.{List, [], ◌∷◌}
use mathlib.Core.Logic.{◌↔◌, ◌⊎◌, inl, inr}
use native.Mathlib.Omega.{arith}
use native.Mathlib.Decide.{dec_le, ℕ_discrete}
use lib.ListN.{get_or}
use Rattle.rules.specs.declared.Refusal.{Refusal}
use Rattle.rules.specs.declared.Refusal.TheVariants.{OutOfLimits, NoSuchTrack, EmptyTrack, BadPair, PairOrder, ShortArea, UnsoundTrack, BadArgument, NotWhole, ShortList, NoFrame, FrameOrder}
use Rattle.rules.specs.declared.Told.{Told}
use Rattle.rules.specs.declared.PairTold.{PairTold}
use Rattle.rules.specs.declared.NumberTold.{NumberTold}
use Rattle.rules.specs.Refusals.{number_of, Verdict, PairAnswer, NumberAnswer}
use Rattle.rules.specs.Outcomes.{yes_or_no, pair_answer, number_answer, ListOutcome}
use Rattle.rules.specs.Told.{refused, answered_pair, told_refusal, told_verdict, told_pair, told_number, ListTold, told_list}

-- ---- read back

-- no refusal, and the twelve refusals by their numbers
abbrev pub verdict_of : Told → Verdict
verdict_of t =
    get_or
    (Ok tt
    ∷ Err OutOfLimits
    ∷ Err (NoSuchTrack t.place)
    ∷ Err (EmptyTrack t.place)
    ∷ Err (BadPair t.place)
    ∷ Err (PairOrder t.place)
    ∷ Err ShortArea
    ∷ Err (UnsoundTrack t.place)
    ∷ Err (BadArgument t.place)
    ∷ Err NotWhole
    ∷ Err (ShortList t.place)
    ∷ Err (NoFrame t.place)
    ∷ Err (FrameOrder t.place)
    ∷ [])
    t.number
    (Ok tt)

abbrev pair_answer_of : PairTold → PairAnswer
pair_answer_of t = pair_answer (verdict_of t.refusal) t.yes

abbrev number_answer_of : NumberTold → NumberAnswer
number_answer_of t = number_answer (verdict_of t.refusal) t.number

pub refusal_back : (r : Refusal) → verdict_of (told_refusal r) ≡ Err r
refusal_back OutOfLimits = refl
refusal_back (NoSuchTrack unit) = refl
refusal_back (EmptyTrack track) = refl
refusal_back (BadPair index) = refl
refusal_back (PairOrder index) = refl
refusal_back ShortArea = refl
refusal_back (UnsoundTrack unit) = refl
refusal_back (BadArgument which) = refl
refusal_back NotWhole = refl
refusal_back (ShortList count) = refl
refusal_back (NoFrame line) = refl
refusal_back (FrameOrder line) = refl

verdict_back : (v : Verdict) → verdict_of (told_verdict v) ≡ v
verdict_back (Ok _) = refl
verdict_back (Err r) = refusal_back r

pair_back : (a : PairAnswer) → pair_answer_of (told_pair a) ≡ a
pair_back (Ok true) = refl
pair_back (Ok false) = refl
pair_back (Err r) = rw (refusal_back r)

number_back : (a : NumberAnswer) → number_answer_of (told_number a) ≡ a
number_back (Ok answer) = refl
number_back (Err r) = rw (refusal_back r)

-- ---- what is told of two answers is the same exactly when the answers are

pub verdict_told : (v w : Verdict) → (told_verdict v ≡ told_verdict w) ↔ (v ≡ w)
verdict_told v w = (λ h. sym (verdict_back v) ∙ ap verdict_of h ∙ verdict_back w, ap told_verdict)

pub pair_told_lem : (a b : PairAnswer) → (told_pair a ≡ told_pair b) ↔ (a ≡ b)
pair_told_lem a b = (λ h. sym (pair_back a) ∙ ap pair_answer_of h ∙ pair_back b, ap told_pair)

pub number_told_lem : (a b : NumberAnswer) → (told_number a ≡ told_number b) ↔ (a ≡ b)
number_told_lem a b = (λ h. sym (number_back a) ∙ ap number_answer_of h ∙ number_back b, ap told_number)

pub list_told_lem : (o p : ListOutcome) → (told_list o ≡ told_list p) ↔ (o ≡ p)
list_told_lem o p = (back, ap told_list)
  where
    back : told_list o ≡ told_list p → o ≡ p
    back h =
        let e : o.answer ≡ p.answer = (number_told_lem o.answer p.answer).0 (ap (λ (t : ListTold). t.answer) h) in
        let f : o.list ≡ p.list = ap (λ (t : ListTold). t.list) h in
        rw (e, f)

-- ---- which numbers come

-- the number is one of these
abbrev pub Among : List ℕ → ℕ → Type 0
Among [] m = ⊥
Among (a ∷ l) m = (m ≡ a) ⊎ Among l m

among_dec : (l : List ℕ) (m : ℕ) → Dec (Among l m)
among_dec [] m = no (λ e. e)
among_dec (a ∷ l) m = go (ℕ_discrete m a) (among_dec l m)
  where
    go : Dec (m ≡ a) → Dec (Among l m) → Dec (Among (a ∷ l) m)
    go (yes e) d = yes (inl e)
    go (no n) (yes r) = yes (inr r)
    go (no n) (no r) = no neither
      where
        neither : (m ≡ a) ⊎ Among l m → ⊥
        neither (inl e) = n e
        neither (inr e) = r e

module _ (v : Verdict) where
  -- those of the list alone, and 0
  pub told_among : (l : List ℕ) → ((r : Refusal) → (Among l (number_of r) → ⊥) → v ≡ Err r → ⊥) → Among (0 ∷ l) (told_verdict v).number
  told_among l h = go v refl
    where
      tried : (r : Refusal) → v ≡ Err r → Dec (Among l (number_of r)) → Among (0 ∷ l) (number_of r)
      tried r e (yes a) = inr a
      tried r e (no n) = absurd (h r n e)

      go : (w : Verdict) → v ≡ w → Among (0 ∷ l) (told_verdict w).number
      go (Ok _) e = inl refl
      go (Err r) e = tried r e (among_dec l (number_of r))

  -- none above m
  pub told_most : (m : ℕ) → ((r : Refusal) → m < number_of r → v ≡ Err r → ⊥) → (told_verdict v).number ≤ m
  told_most m h = go v refl
    where
      tried : (r : Refusal) → v ≡ Err r → Dec (number_of r ≤ m) → number_of r ≤ m
      tried r e (yes l) = l
      tried r e (no n) = absurd (h r (omega arith) e)

      go : (w : Verdict) → v ≡ w → (told_verdict w).number ≤ m
      go (Ok _) e = zero-le
      go (Err r) e = tried r e (dec_le (number_of r) m)

  -- a number above 0 is that of a refusal
  pub told_refused : {number place : ℕ} → 1 ≤ number → told_verdict v ≡ refused number place → (r : Refusal) × (number_of r ≡ number) × (v ≡ Err r)
  told_refused {number} {place} l = go v refl
    where
      go : (w : Verdict) → v ≡ w → told_verdict w ≡ refused number place → (r : Refusal) × (number_of r ≡ number) × (v ≡ Err r)
      go (Ok _) e h = absurd (let z : 0 ≡ number = ap (λ (t : Told). t.number) h in omega arith)
      go (Err r) e h = (r, ap (λ (t : Told). t.number) h, e)

pub yes_tells : (t : Bool) → told_pair (yes_or_no t) ≡ answered_pair t
yes_tells true = refl
yes_tells false = refl

-- the refusal that an answer tells is its verdict's
pub pair_tells : (v : Verdict) (t : Bool) → (told_pair (pair_answer v t)).refusal ≡ told_verdict v
pair_tells (Ok _) true = refl
pair_tells (Ok _) false = refl
pair_tells (Err r) t = refl

pub number_tells : (v : Verdict) (m : ℕ) → (told_number (number_answer v m)).refusal ≡ told_verdict v
number_tells (Ok _) m = refl
number_tells (Err r) m = refl
