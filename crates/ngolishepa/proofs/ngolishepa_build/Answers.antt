-- `ngolishepa::ngolishepa_build`: the build's outcome, told. Assumes nothing.
use Rattle.std.proofs.Common.{ap}
use Rattle.ngolishepa.specs.Told.{told_build}
use Rattle.ngolishepa.proofs.ngolishepa_build.Goals as goal

pub returns-in-Ok : goal.returns-in-Ok
returns-in-Ok c = rw c.from.ensures (ap told_build c.in-Ok.ensures)

pub returns-in-Err : goal.returns-in-Err
returns-in-Err c = rw c.into.ensures (ap told_build c.in-Err.ensures)
