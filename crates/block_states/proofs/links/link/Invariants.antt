-- The numbers from i on are linked.
use Rattle.std.proofs.Common.{◌-◌, ◌≤◌}
use Rattle.lockpage.specs.Geometry.{present}
use Rattle.machine.specs.Query.{number_count}
use Rattle.block_states.specs.Links.{group_named, Linked}
use Rattle.block_states.proofs.links.link.Given as goal

abbrev pub invariant-loop-i : goal.invariant-loop-i
invariant-loop-i l = record {
  within : l.i ≤ number_count l.blocks;
  linked : Linked (group_named present l.blocks) present.most_groups l.i (number_count l.blocks - l.i) l.first l.next l.named l.groups;
}
