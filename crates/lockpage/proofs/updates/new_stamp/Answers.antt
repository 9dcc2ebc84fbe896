-- `lockpage::updates::new_stamp` meets its contract: an unfreeze keeps the time of write. Assumes nothing.
use Rattle.std.proofs.Common.{arith}
use Rattle.lockpage.specs.Entry.{time_of_write}
use Rattle.lockpage.specs.Update.{updated}
use Rattle.lockpage.proofs.updates.new_stamp.Goals as goal

pub returns-in-Unfreeze : goal.returns-in-Unfreeze
unfolding updated time_of_write
returns-in-Unfreeze c = rw c.in-Unfreeze.is (omega arith)
