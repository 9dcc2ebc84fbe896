-- `disk::whole::extent` meets its contract: the part from the group's start on. Assumes nothing.
use borrow.Author.Rules.{rules}
use native.Mathlib.Omega.{arith}
use Rattle.lockpage.proofs.GeometryLaw.{present_proper as σ}
use Rattle.disk.proofs.LentLaw.{extent_end, extent_cut}
use Rattle.disk.proofs.whole.extent.Statement.{statement}
use Rattle.disk.proofs.whole.extent.Tie as tie

returns : tie.Need-returns
returns c = extent_cut σ _ _ _ c.before.group_start-from.ensures

pub extent_spec : {M : Type 1} → statement M
extent_spec =
    tie.close
    (tie.spec (λ c κs. search rules) (λ c. omega (arith, extent_end σ _ _ _ c.before.before.requires c.group_start-from.ensures))
    (λ c. search rules) (λ c. search rules) (λ c. omega (arith, extent_end σ _ _ _ c.before.before.requires c.group_start-from.ensures)) returns)
