-- `addressing::group_of` meets its contract: a shift by the bits of a place. Assumes nothing.
use Rattle.lockpage.proofs.GeometryLaw.{present_proper as σ, index_bits, present_entries}
use Rattle.addressing.proofs.MapLaw.{group_of_shift}
use Rattle.addressing.proofs.group_of.Statement.{statement}
use Rattle.addressing.proofs.group_of.Tie as tie

returns : tie.Need-returns
returns c = group_of_shift σ index_bits _ present_entries

pub group_of_spec : {M : Type 1} → statement M
group_of_spec = tie.close (tie.spec returns)
