-- `versions_orders::give` meets its contract where the order is given: by the update that the controller makes. Assumes nothing.
use Rattle.std.proofs.Common.{ap, arith, rules}
use Rattle.octets.specs.Part.{repeated}
use Rattle.octets.proofs.RepeatedLaw.{repeated_length}
use Rattle.lockpage.specs.Geometry.{present}
use Rattle.lockpage.proofs.GeometryLaw.{present_proper as σ}
use Rattle.addressing.specs.Map.{data_blocks}
use Rattle.validity.proofs.ValidLaw.{facts}
use Rattle.machine.specs.Command.{box_of, answer_size}
use Rattle.versions_orders.proofs.OrderLaw.{first_asked, was_given}
use Rattle.versions_orders.proofs.give.Goals as goal

pub groups-requires : goal.groups-requires
groups-requires c = (facts σ _ c.requires.valid.memory).size

pub bring-requires : goal.bring-requires
bring-requires c =
    record {
      box = c.requires.valid;
      block = omega (arith, c.data_blocks.ensures, ap (data_blocks present) c.groups.ensures);
      proof_size_is = search rules;
    }

pub update-requires : goal.update-requires
unfolding repeated
update-requires c =
    let x = c.args in
    first_asked σ (box_of x.memory.now x.disk.now) x.u x.block x.time x.content.now c.bring.new.proof
    (repeated (answer_size present) 0) c.requires (omega (arith, c.data_blocks.ensures, ap (data_blocks present) c.groups.ensures))
    (omega (arith, c.content_length.ensures)) (search rules) (repeated_length (answer_size present) 0)

pub returns : goal.returns
unfolding repeated
returns c =
    let x = c.args in
    was_given σ (box_of x.memory.now x.disk.now) x.u x.block x.time x.content.now _ _ _ _ _ c.bring.ensures c.update.ensures
