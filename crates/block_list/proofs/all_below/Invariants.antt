-- The numbers before i are looked at.
use Rattle.std.proofs.Common.{◌≡◌}
use Rattle.block_list.proofs.ListLaw.{all_low}
use Rattle.block_list.proofs.all_below.Given as goal

abbrev pub invariant-loop-i : goal.invariant-loop-i
invariant-loop-i l = l.below ≡ all_low l.blocks l.limit l.i
