-- The tag is stored behind the page. Assumes nothing.
use Rattle.octets.specs.Part.{part}
use Rattle.lockpage.proofs.GeometryLaw.{present_proper as σ}
use Rattle.tags.proofs.MessageLaw.{tag_stored}
use Rattle.tags.proofs.store_tag.Goals as goal

pub returns : goal.returns
unfolding part
returns c = tag_stored σ _ _ _ _ _ c.requires.1 c.tag.ensures c.store_bytes.ensures
