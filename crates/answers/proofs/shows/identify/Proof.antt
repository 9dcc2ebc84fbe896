-- `answers::shows::identify` meets its contract: the two numbers one after the other, then zeros. Assumes nothing.
use borrow.Author.Rules.{rules}
use native.Mathlib.Omega.{arith}
use Rattle.octets.specs.Part.{Below}
use Rattle.lockpage.proofs.GeometryLaw.{present_proper as σ}
use Rattle.addressing.proofs.MapLaw.{data_blocks_small}
use Rattle.memory.proofs.RangeLaw.{groups_small}
use Rattle.answers.proofs.ShowLaw.{identify_outcome}
use Rattle.answers.proofs.shows.identify.Statement.{statement}
use Rattle.answers.proofs.shows.identify.Tie as tie

cast-store-u32 : tie.Need-overflow_cast-data_blocks
unfolding Below
cast-store-u32 c =
    let bytes = c.set_last_time.new.memory in
    let small = groups_small σ bytes (λ i. omega (arith, c.slice_known-3-1.given i)) in
    omega (arith, c.data_blocks.ensures, data_blocks_small σ c.groups-groups.result (omega (arith, c.groups-groups.ensures, small)))

returns : tie.Need-returns
returns c disk =
    identify_outcome σ _ disk _ _ c.set_last_time.ensures _ _ _ _ _ _ c.requires.1 c.groups-groups.ensures
    c.store_u32.ensures c.data_blocks.ensures c.store_u32-2.ensures c.zero_tail.ensures

pub identify_spec : {M : Type 1} → statement M
identify_spec =
    tie.close
    (tie.spec (λ c κs. search rules) (λ c κs. search rules) (λ c κs. search rules) (λ c κs. search rules) cast-store-u32
    (λ c κs. search rules) (λ c. search rules) (λ c κs. search rules) (λ c. search rules) (λ c. search rules) returns)
