-- `block_states::fill::fill`: the links, then the groups.
use Rattle.std.proofs.Common.{refl, ◌∙◌}
use Rattle.octets.specs.Part.{repeated}
use Rattle.lockpage.proofs.GeometryLaw.{present_proper as σ}
use Rattle.block_states.proofs.GroupsLaw.{list_ready}
use Rattle.block_states.proofs.OutcomeLaw.{pages_are}
use Rattle.block_states.proofs.fill.fill.Goals as goal

pub link-groups-requires : goal.link-groups-requires
unfolding repeated
link-groups-requires c =
    record { list = list_ready σ _ _ _ c.requires; heads = refl; nexts_size = refl; named_size = refl }

pub returns : goal.returns
returns c = (c.answer_groups.ensures.0 ∙ pages_are σ _ _ c.link-groups.ensures.each_once, c.answer_groups.ensures.1)
