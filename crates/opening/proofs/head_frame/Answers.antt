-- `opening::head_frame`: within the limits the tracks come next; outside them it is refusal 1.
-- Assumes nothing.
use Rattle.std.proofs.Common.{arith, ◌≤◌}
use Rattle.reading.specs.Held.{reading_of}
use Rattle.opening.proofs.Opening.{head_refused, took_head}
use Rattle.opening.proofs.head_frame.Goals as goal

pub returns-then-n-eq0 : goal.returns-then-n-eq0
returns-then-n-eq0 c = λ a h.
    let s = c.args in
    let out_of_limits : 1 ≤ s.n → s.n ≤ 1024 → 1 ≤ s.k → s.k ≤ 32 → ⊥ = grind arith in
    rw (head_refused (reading_of s.card a) s.n s.k out_of_limits) (c.refuse.ensures a h.room)

pub returns : goal.returns
returns c = λ a h.
    took_head _ _ _ c.requires.0 (record { n_in = (omega arith, omega arith); k_in = (omega arith, omega arith) }) h
