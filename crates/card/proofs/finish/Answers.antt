-- `card::finish`: a card that has stopped prints nothing more; bytes that are left are no frame; the end is out of order before 04.
-- Assumes nothing.
use Prim.Native.Nat.{◌+◌}
use mathlib.Core.Path.{refl, sym, ◌∙◌}
use native.Mathlib.Omega.{arith}
use Rattle.rules.specs.declared.Refusal.TheVariants.{NoFrame, FrameOrder}
use Rattle.answers.proofs.Lengths.{length_refused_line}
use Rattle.reading.specs.Held.{reading_of}
use Rattle.rules.proofs.Overs.{over_none}
use Rattle.card.proofs.Files.{rest_none, rest_stopped, rest_refused}
use Rattle.card.proofs.finish.Goals as goal

pub returns-then-not-is_reading : goal.returns-then-not-is_reading
returns-then-not-is_reading c = λ a.
    let s = c.args in
    rw (rest_stopped (reading_of s.card a) s.rest.now (sym c.is_reading.ensures ∙ c.if-not-is_reading.true)) (refl, over_none s.out.now)

pub returns-then-torn : goal.returns-then-torn
returns-then-torn c = λ a.
    let s = c.args in
    let said = c.put_refused.ensures in
    let reads = sym c.is_reading.ensures ∙ c.if-not-is_reading.false in
    rw (rest_refused (reading_of s.card a) s.rest.now reads (omega arith) (omega arith))
    (said.0 ∙ sym (length_refused_line (NoFrame (s.card.lines + 1))), said.1)

pub returns-then-not-is_unfinished : goal.returns-then-not-is_unfinished
returns-then-not-is_unfinished c = λ a.
    let s = c.args in
    let done = sym c.is_unfinished.ensures ∙ c.if-not-is_unfinished.true in
    rw (rest_none (reading_of s.card a) s.rest.now (omega arith), done) (refl, over_none s.out.now)

pub returns : goal.returns
returns c = λ a.
    let s = c.args in
    let said = c.put_refused-2.ensures in
    let early = sym c.is_unfinished.ensures ∙ c.if-not-is_unfinished.false in
    rw (rest_none (reading_of s.card a) s.rest.now (omega arith), early)
    (said.0 ∙ sym (length_refused_line (FrameOrder (s.card.lines + 1))), said.1)
