-- The records before the one that comes next are taken. Assumes nothing.
use Rattle.lockpage.specs.Geometry.{present}
use Rattle.machine.specs.Command.{box_of}
use Rattle.recovery.proofs.RecordsLaw.{Taken}
use Rattle.recovery.proofs.records.take_records.Given as goal

abbrev pub invariant-loop-i : goal.invariant-loop-i
invariant-loop-i l = Taken present (box_of l.memory l.disk) l.point l.time l.content l.fn.res l.i l.res
