-- `Card::refuse`: the refusal is printed, and the card stops.
-- Assumes nothing.
use Rattle.reading.proofs.Taking.{took_refused}
use Rattle.reading.proofs.Card.refuse.Goals as goal

pub returns : goal.returns
returns c = λ a h. let said = c.put_refused-wrote.ensures in took_refused _ h said.0 said.1
