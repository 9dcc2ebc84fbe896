-- `versions_search::end_of` meets its contract: a valid memory has few groups. Assumes nothing.
use borrow.Author.Rules.{rules}
use mathlib.Core.Path.{ap, ◌∙◌}
use native.Mathlib.Omega.{arith}
use Rattle.lockpage.specs.Geometry.{present}
use Rattle.lockpage.proofs.GeometryLaw.{present_proper as σ}
use Rattle.addressing.specs.Map.{data_blocks}
use Rattle.addressing.proofs.MapLaw.{data_blocks_small}
use Rattle.validity.proofs.ValidLaw.{facts}
use Rattle.versions_search.proofs.end_of.Statement.{statement}
use Rattle.versions_search.proofs.end_of.Tie as tie

groups-requires : tie.Need-groups-requires
groups-requires c κs = (facts σ _ c.requires).size

cast-result : tie.Need-overflow_cast-result
cast-result c =
    let few = (facts σ _ c.requires).most in
    omega (arith, c.data_blocks.ensures, data_blocks_small σ c.groups.result (omega (arith, c.groups.ensures, few)))

returns : tie.Need-returns
returns c = c.data_blocks.ensures ∙ ap (data_blocks present) c.groups.ensures

pub end_of_spec : {M : Type 1} → statement M
end_of_spec = tie.close (tie.spec groups-requires (λ c κs. search rules) cast-result returns)
