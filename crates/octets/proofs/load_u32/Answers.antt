-- The bytes are the number's digits. Assumes nothing.
use Rattle.std.proofs.Common.{refl, ◌∙◌}
use Rattle.octets.proofs.NumberLaw.{number_of_four}
use Rattle.octets.proofs.load_u32.Goals as goal

pub returns : goal.returns
returns c = c.from_le_bytes.ensures ∙ number_of_four _ _ _ _ _ _ c.requires refl refl refl refl
