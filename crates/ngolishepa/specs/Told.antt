-- What the two calls that write more than an answer tell C beside the definitions of `rules`: the build with its areas, and a part of a need
-- list by where it stands.
use Rattle.std.specs.Prelude.{ℕ, List}
use Rattle.rules.specs.Outcomes.{BuildOutcome, part_verdict}
use Rattle.rules.specs.Told.{told_verdict}
use Rattle.listing.specs.Spans.{part_span}
use Rattle.ngolishepa.specs.declared.BuiltTold.{BuiltTold}
use Rattle.ngolishepa.specs.declared.PartTold.{PartTold}

-- the answer of a build and what each lent area then holds
pub record BuildTold : Type 0 where
  pub answer : BuiltTold
  pub words : List ℕ
  pub directory : List ℕ
  pub work : List ℕ

abbrev pub told_build : BuildOutcome → BuildTold
told_build o =
    record {
      answer = record { head = o.answer.head; bits = o.answer.bits; refusal = told_verdict o.answer.verdict };
      words = o.words;
      directory = o.directory;
      work = o.work;
    }

-- the part of a need list by where it stands
abbrev pub told_part : List ℕ → ℕ → PartTold
told_part l u =
    record { refusal = told_verdict (part_verdict l u); start = (part_span l u).start; count = (part_span l u).count }
