-- The number and the place of each refusal, and how checks follow one another: the first refusal stands.
use Rattle.std.specs.Prelude.{ℕ, Bool, true, false, Result, Ok, Err}
use Rattle.rules.specs.declared.Refusal.{Refusal}
use Rattle.rules.specs.declared.Refusal.TheVariants.{OutOfLimits, NoSuchTrack, EmptyTrack, BadPair, PairOrder, ShortArea, UnsoundTrack, BadArgument, NotWhole, ShortList, NoFrame, FrameOrder}

abbrev pub number_of : Refusal → ℕ
number_of OutOfLimits = 1
number_of (NoSuchTrack unit) = 2
number_of (EmptyTrack track) = 3
number_of (BadPair index) = 4
number_of (PairOrder index) = 5
number_of ShortArea = 6
number_of (UnsoundTrack unit) = 7
number_of (BadArgument which) = 8
number_of NotWhole = 9
number_of (ShortList count) = 10
number_of (NoFrame line) = 11
number_of (FrameOrder line) = 12

abbrev pub place_of : Refusal → ℕ
place_of OutOfLimits = 0
place_of (NoSuchTrack unit) = unit
place_of (EmptyTrack track) = track
place_of (BadPair index) = index
place_of (PairOrder index) = index
place_of ShortArea = 0
place_of (UnsoundTrack unit) = unit
place_of (BadArgument which) = which
place_of NotWhole = 0
place_of (ShortList count) = count
place_of (NoFrame line) = line
place_of (FrameOrder line) = line

-- nothing to refuse, or the first refusal
abbrev pub Verdict : Type 0
Verdict = Result Unit Refusal

-- yes or no to a question about a pair of units, or why there is no answer
abbrev pub PairAnswer : Type 0
PairAnswer = Result Bool Refusal

-- a count, a stage or a unit, or why there is none
abbrev pub NumberAnswer : Type 0
NumberAnswer = Result ℕ Refusal

-- the refusal where the test fails
abbrev pub unless : Bool → Refusal → Verdict
unless true r = Ok tt
unless false r = Err r

-- one check after another
abbrev pub ◌then◌ : Verdict → Verdict → Verdict
◌then◌ (Ok _) v = v
◌then◌ (Err r) v = Err r

infixr 20 ◌then◌
