-- The numbers of the groups so far are answered, and a page is read for each.
use Rattle.lockpage.specs.Geometry.{present}
use Rattle.machine.specs.Command.{box_of}
use Rattle.block_states.proofs.GroupsLaw.{Filled}
use Rattle.block_states.proofs.fill.answer_groups.Given as goal

abbrev pub invariant-loop-group : goal.invariant-loop-group
invariant-loop-group l = Filled present (box_of l.memory l.disk) l.blocks l.named l.time l.page l.answer l.pages l.group-index
