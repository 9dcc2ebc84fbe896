-- `versions::block` meets its contract: the first no, in order, and else the part's newest block. Assumes nothing.
use Rattle.std.proofs.Common.{not, refl, ap, sym, ◌∙◌, arith}
use Rattle.lockpage.specs.Geometry.{present}
use Rattle.lockpage.proofs.GeometryLaw.{present_proper as σ}
use Rattle.versions_machine.specs.Versions.{block_number}
use Rattle.versions_state.proofs.ValidLaw.{facts}
use Rattle.versions.proofs.StartLaw.{no_part, no_state, found}
use Rattle.versions.proofs.block.Goals as goal

pub returns-then-part-gt-LAST_PART-clause-located : goal.returns-then-part-gt-LAST_PART-clause-located
returns-then-part-gt-LAST_PART-clause-located c = no_part σ _ _ _ _ (omega arith) refl refl

pub returns-then-not-valid-clause-located : goal.returns-then-not-valid-clause-located
returns-then-not-valid-clause-located c = no_state σ _ _ (omega arith) _ c.valid.ensures _ _ (ap not c.if-not-valid.true) refl refl

pub newest-requires : goal.newest-requires
newest-requires c = ((facts present _ (sym c.valid.ensures ∙ c.if-not-valid.false)).size, omega arith)

pub returns-clause-located : goal.returns-clause-located
returns-clause-located c = found σ _ _ (omega arith) _ c.valid.ensures _ (c.if-not-valid.false) (ap block_number c.newest.ensures)
