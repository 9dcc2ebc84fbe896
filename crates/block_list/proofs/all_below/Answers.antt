-- `block_list::all_below`: each turn looks at one number more.
use Rattle.std.proofs.Common.{arith, rules}
use Rattle.block_list.proofs.ListLaw.{number_within, low_start, low_more, low_end}
use Rattle.block_list.proofs.all_below.Goals as goal

pub loop-i-init : goal.loop-i-init
loop-i-init c = search (rules, low_start)

pub number-requires : goal.number-requires
number-requires c = number_within _ _ (omega arith)

pub loop-i-preserved : goal.loop-i-preserved
loop-i-preserved c = low_more _ _ _ _ _ c.loop-i.invariant c.number.ensures

pub returns : goal.returns
returns c = low_end _ _ _ _ c.loop-i.invariant (omega arith)
