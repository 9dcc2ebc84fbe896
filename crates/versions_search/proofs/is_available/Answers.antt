-- `versions_search::is_available` meets its contract: a valid box has the group of each of its blocks. Assumes nothing.
use Rattle.lockpage.proofs.GeometryLaw.{present_proper as σ}
use Rattle.disk.proofs.DiskLaw.{has_group_of}
use Rattle.validity.proofs.ValidLaw.{facts}
use Rattle.versions_search.proofs.is_available.Goals as goal

pub entry-e-requires : goal.entry-e-requires
entry-e-requires c = ((facts σ _ c.requires.0.memory).size, has_group_of σ _ _ _ c.requires.0.disk c.requires.1)
