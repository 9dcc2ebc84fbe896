-- `disk::whole::load_entry` meets its contract, by the group's extent. Assumes nothing.
use borrow.Author.Rules.{rules}
use mathlib.Core.Path.{refl}
use native.Mathlib.Omega.{arith}
use Rattle.lockpage.specs.Geometry.{present}
use Rattle.lockpage.proofs.GeometryLaw.{present_proper as σ}
use Rattle.addressing.specs.Map.{page_place}
use Rattle.addressing.proofs.MapLaw.{page_block_place}
use Rattle.disk.proofs.LentLaw.{cut_length, block_read, entry_cut}
use Rattle.disk.proofs.whole.load_entry.Statement.{statement}
use Rattle.disk.proofs.whole.load_entry.Tie as tie

load-entry-requires : tie.Need-load_entry-requires
load-entry-requires c κs =
    let start = c.before.before in
    (cut_length σ _ _ _ _ start.requires.0 refl c.extent.ensures, search rules)

returns : tie.Need-returns
returns c =
    let cut = c.before in
    entry_cut _ _ _ _
    (block_read σ _ _ _ _ cut.before.before.requires.0 refl cut.extent.ensures _ (page_place present) _ (omega arith) (page_block_place σ _) refl)
    c.load_entry.ensures

pub load_entry_spec : {M : Type 1} → statement M
load_entry_spec = tie.close (tie.spec (λ c κs. search rules) load-entry-requires returns)
