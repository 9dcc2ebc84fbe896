use Rattle.lockpage.proofs.GeometryLaw.{present_proper as σ}
use Rattle.memory.proofs.CodeLaw.{format_stored}
use Rattle.memory.proofs.format.Goals as goal

pub returns : goal.returns
returns c =
    format_stored σ _ _ _ _ _ _ _ c.requires.size c.fill.ensures c.set_salt.ensures c.store_u8.ensures c.store_u8-2.ensures
