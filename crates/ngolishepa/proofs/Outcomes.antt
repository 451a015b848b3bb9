-- An answer told in numbers is told of the outcome that it is. Assumes nothing.
use Prim.Native.Nat.{ℕ}
use mathlib.Core.Path.{◌≡◌, ap, ◌∙◌}
use mathlib.Core.List.{List}
use Rattle.std.specs.Prelude.{Result}
use Rattle.rules.specs.declared.Built.{Built}
use Rattle.rules.specs.declared.Refusal.{Refusal}
use Rattle.rules.specs.declared.Told.{Told}
use Rattle.rules.specs.declared.NumberTold.{NumberTold}
use Rattle.rules.specs.Refusals.{number_of, place_of, NumberAnswer}
use Rattle.rules.specs.Outcomes.{BuildOutcome, ListOutcome, part_verdict}
use Rattle.rules.specs.Told.{refused, told_refusal, told_verdict, told_number, ListTold, told_list}
use Rattle.build.specs.Ones.{answered, outcome}
use Rattle.lists.specs.Spans.{listed}
use Rattle.listing.specs.declared.Span.{Span}
use Rattle.listing.specs.Spans.{part_span}
use Rattle.ngolishepa.specs.declared.PartTold.{PartTold}
use Rattle.ngolishepa.specs.Told.{BuildTold, told_build, told_part}

abbrev part_told : Told → Span → PartTold
part_told refusal span = record { refusal = refusal; start = span.start; count = span.count }

abbrev list_told : NumberTold → List ℕ → ListTold
list_told answer list = record { answer = answer; list = list }

abbrev built_told : Result Built Refusal → Told → List ℕ → List ℕ → List ℕ → BuildTold
built_told b refusal words directory work =
    record {
      answer = record { head = (answered b).head; bits = (answered b).bits; refusal = refusal };
      words = words;
      directory = directory;
      work = work;
    }

pub told_refusal_lem : {number place : ℕ} (r : Refusal) → number ≡ number_of r → place ≡ place_of r → refused number place ≡ told_refusal r
told_refusal_lem r e f = rw (e, f)

pub told_list_lem : {r : NumberTold} {a : NumberAnswer} {l : List ℕ} {o : ListOutcome} → r ≡ told_number a → listed a l ≡ o → list_told r l ≡ told_list o
told_list_lem {r} {a} {l} e f = ap (λ x. list_told x l) e ∙ ap told_list f

pub told_part_lem : {r : Told} {s : Span} (l : List ℕ) (u : ℕ) → r ≡ told_verdict (part_verdict l u) → s ≡ part_span l u → part_told r s ≡ told_part l u
told_part_lem {r} {s} l u e f = ap (λ x. part_told x s) e ∙ ap (part_told (told_verdict (part_verdict l u))) f

pub told_build_lem : (b : Result Built Refusal) {r : Told} {w d k : List ℕ} {o : BuildOutcome} → r ≡ told_verdict (answered b).verdict → outcome b w d k ≡ o
    → built_told b r w d k ≡ told_build o
told_build_lem b {r} {w} {d} {k} e f = ap (λ x. built_told b x w d k) e ∙ ap told_build f
