-- The blocks walked are marked and their records taken, and what the rest of the walk adds to these is what is recovered. Assumes
-- nothing.
use Rattle.std.proofs.Common.{◌-◌}
use Rattle.lockpage.specs.Geometry.{present}
use Rattle.machine.specs.Command.{box_of}
use Rattle.recovery.proofs.WalkLaw.{Walking}
use Rattle.recovery.proofs.walk.Given as goal

abbrev pub invariant-loop : goal.invariant-loop
invariant-loop l = Walking present (box_of l.memory l.disk) l.point l.time l.res l.marks (l.end - l.counter) l.parent l.next
