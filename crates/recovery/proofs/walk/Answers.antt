-- `recovery::walk` meets its contract. Assumes nothing.
use Rattle.std.proofs.Common.{length, refl, ap, ◌∙◌, arith, rules}
use Rattle.octets.specs.Part.{repeated}
use Rattle.lockpage.specs.Geometry.{present}
use Rattle.lockpage.proofs.GeometryLaw.{present_proper as σ}
use Rattle.addressing.specs.Map.{data_blocks, physical}
use Rattle.addressing.proofs.MapLaw.{physical_below}
use Rattle.disk.proofs.DiskLaw.{has_group_of, block_length, block_within}
use Rattle.validity.proofs.ValidLaw.{facts}
use Rattle.machine.specs.Command.{box_of}
use Rattle.recovery.specs.Ready.{marks_size, StepReady}
use Rattle.recovery.proofs.MarksLaw.{none_marked}
use Rattle.recovery.proofs.WalkLaw.{marks_cover, walk_start, walk_size, walk_outside, walk_stop, walk_step, walk_end}
use Rattle.recovery.proofs.walk.Goals as goal

pub end_of-end-requires : goal.end_of-end-requires
end_of-end-requires c = c.requires.box.memory

pub loop-init : goal.loop-init
unfolding repeated data_blocks
loop-init c =
    walk_start present _ _ _ _ _ _ c.end_of-end.ensures refl (none_marked (marks_size present)) c.requires.empty _ (omega arith)

pub returns-then-next-end : goal.returns-then-next-end
returns-then-next-end c =
    walk_outside present _ _ _ _ _ _ _ _ c.loop.invariant (omega arith) _ c.end_of-end.ensures (omega arith)

pub goes_on-requires : goal.goes_on-requires
goes_on-requires c =
    record {
      box = c.requires.box;
      marks_size_is = c.loop.invariant.marks_size_is;
      inside = omega (arith, c.end_of-end.ensures);
    }

pub returns-then-not-goes_on : goal.returns-then-not-goes_on
returns-then-not-goes_on c =
    walk_stop present _ _ _ _ _ _ _ _ c.loop.invariant (omega arith) _ c.goes_on.ensures (search rules)

pub mark-requires : goal.mark-requires
mark-requires c =
    let ready : StepReady present (box_of c.args.memory.now c.args.disk.now) c.loop.marks c.loop.next =
    record { box = c.requires.box; marks_size_is = c.loop.invariant.marks_size_is; inside = omega (arith, c.end_of-end.ensures) } in
    omega (arith, marks_cover _ _ _ ready)

pub entry-parent-requires : goal.entry-parent-requires
entry-parent-requires c =
    ((facts σ _ c.requires.box.memory).size, has_group_of σ _ _ _ c.requires.box.disk (omega (arith, c.end_of-end.ensures)))

pub lend_block-content-requires : goal.lend_block-content-requires
lend_block-content-requires c = has_group_of σ _ _ _ c.requires.box.disk (omega (arith, c.end_of-end.ensures))

pub load_u64-next-requires : goal.load_u64-next-requires
load_u64-next-requires c =
    let disk = c.args.disk.now in
    let at = physical present c.loop.next in
    omega (
      arith,
      ap length c.lend_block-content.ensures
          ∙ block_length σ disk at
          (block_within σ disk _ at c.requires.box.disk (physical_below σ _ c.loop.next (omega (arith, c.end_of-end.ensures)))),
    )

pub take_records-requires : goal.take_records-requires
take_records-requires c =
    let disk = c.args.disk.now in
    let at = physical present c.loop.next in
    record {
      kept = record { box = c.requires.box; end_is = c.end_of-end.ensures };
      content_size =
          ap length c.lend_block-content.ensures
          ∙ block_length σ disk at
          (block_within σ disk _ at c.requires.box.disk (physical_below σ _ c.loop.next (omega (arith, c.end_of-end.ensures))));
      result_size_is = walk_size present _ _ _ _ _ _ _ _ c.loop.invariant;
    }

pub loop-preserved : goal.loop-preserved
loop-preserved c =
    let ready : StepReady present (box_of c.args.memory.now c.args.disk.now) c.loop.marks c.loop.next =
    record { box = c.requires.box; marks_size_is = c.loop.invariant.marks_size_is; inside = omega (arith, c.end_of-end.ensures) } in
    walk_step present _ _ _ _ _ _ _ _ c.loop.invariant (omega arith) _ c.goes_on.ensures (search rules) (marks_cover _ _ _ ready) _ _ _ _ _
    c.mark.ensures c.lend_block-content.ensures c.take_records.ensures c.entry-parent.ensures c.load_u64-next.ensures _ (omega arith)

pub returns : goal.returns
returns c = walk_end present _ _ _ _ _ _ _ _ c.loop.invariant (omega arith)
