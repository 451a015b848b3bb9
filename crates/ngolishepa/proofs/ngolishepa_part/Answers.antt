-- `ngolishepa::ngolishepa_part`: the verdict and the span of the part, told. Assumes nothing.
use mathlib.Core.Path.{ap, ◌∙◌}
use Rattle.rules.specs.Told.{told_verdict}
use Rattle.ngolishepa.proofs.Outcomes.{told_part_lem}
use Rattle.ngolishepa.proofs.ngolishepa_part.Goals as goal

pub returns : goal.returns
returns c = told_part_lem _ _ (c.into.ensures ∙ ap told_verdict c.part_verdict.ensures) c.part_span-span.ensures.value
