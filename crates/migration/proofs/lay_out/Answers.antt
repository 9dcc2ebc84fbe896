-- The old memory in two pieces, and zeros between them. Assumes nothing.
use Rattle.lockpage.proofs.GeometryLaw.{base_proper}
use Rattle.migration_machine.proofs.Theorems.{present_wider}
use Rattle.migration.proofs.LayoutLaw.{laid_out}
use Rattle.migration.proofs.lay_out.Goals as goal

pub returns : goal.returns
unfolding Rattle.octets.specs.Part.part
returns c = laid_out base_proper present_wider _ c.requires.old_size _ _ _ c.requires.new_zeros c.store_bytes.ensures c.store_bytes-2.ensures
