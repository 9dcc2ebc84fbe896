use Rattle.std.proofs.Common.{arith}
use Rattle.lockpage.proofs.GeometryLaw.{present_proper as σ}
use Rattle.lockpage.proofs.PageLaw.{repeated_entry_start, repeated_entry_step, repeated_entry_end}
use Rattle.lockpage.proofs.entries.store_blank.Goals as goal

pub loop-i-init : goal.loop-i-init
loop-i-init c = repeated_entry_start _ _

pub loop-i-preserved : goal.loop-i-preserved
loop-i-preserved c =
    repeated_entry_step σ _ _ _ _ _ c.requires (omega arith) c.loop-i.invariant c.store_entry.ensures

pub returns : goal.returns
returns c = repeated_entry_end σ _ _ _ c.requires (omega arith) c.loop-i.invariant
