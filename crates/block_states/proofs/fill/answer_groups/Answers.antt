-- `block_states::fill::answer_groups`: a turn answers the numbers of one group.
use Rattle.std.proofs.Common.{ℕ, ◌+◌, refl, ap, ◌∙◌, arith, rules}
use Rattle.lockpage.specs.Geometry.{present}
use Rattle.lockpage.proofs.GeometryLaw.{present_proper as σ}
use Rattle.machine.specs.Command.{box_of}
use Rattle.machine.specs.Tag.{current_page}
use Rattle.block_states.proofs.GroupsLaw.{named_end, in_turn, same_group, group_most, fetch_ready, group_ready, filled_step, filled_end}
use Rattle.block_states.proofs.fill.answer_groups.Goals as goal

pub slice_bounds-group-items-end : goal.slice_bounds-group-items-end
slice_bounds-group-items-end c =
    let x = c.args in
    named_end σ (box_of x.memory.now x.disk.now) _ _ _ _ _ _ c.requires

pub fetch-pages-requires : goal.fetch-pages-requires
fetch-pages-requires c =
    let s = box_of c.args.memory.now c.args.disk.now in
    let below = in_turn σ s _ _ _ _ _ _ c.requires c.loop-group.group-index c.loop-group-test.true in
    rw (same_group σ s _ _ _ _ _ _ c.requires c.loop-group.group-index c.loop-group-test.true)
    (fetch_ready σ s _ _ _ _ _ _ c.requires c.loop-group.group-index below _ c.loop-group.invariant.page_size_is)

pub bounds-first-group : goal.bounds-first-group
bounds-first-group c =
    let s = box_of c.args.memory.now c.args.disk.now in
    let below = in_turn σ s _ _ _ _ _ _ c.requires c.loop-group.group-index c.loop-group-test.true in
    omega (
      arith,
      same_group σ s _ _ _ _ _ _ c.requires c.loop-group.group-index c.loop-group-test.true,
      group_most σ s _ _ _ _ _ _ c.requires c.loop-group.group-index below,
      c.requires.links.heads_size,
    )

pub answer_group-requires : goal.answer_group-requires
answer_group-requires c =
    let s = box_of c.args.memory.now c.args.disk.now in
    let below = in_turn σ s _ _ _ _ _ _ c.requires c.loop-group.group-index c.loop-group-test.true in
    rw (same_group σ s _ _ _ _ _ _ c.requires c.loop-group.group-index c.loop-group-test.true)
    (group_ready σ s _ _ _ _ _ _ c.requires c.loop-group.group-index below _ _ (search rules) c.loop-group.invariant.answer_size_is)

pub loop-group-preserved : goal.loop-group-preserved
loop-group-preserved c =
    let s = box_of c.args.memory.now c.args.disk.now in
    let below = in_turn σ s _ _ _ _ _ _ c.requires c.loop-group.group-index c.loop-group-test.true in
    let same = same_group σ s _ _ _ _ _ _ c.requires c.loop-group.group-index c.loop-group-test.true in
    filled_step σ s _ _ _ _ _ _ c.requires c.loop-group.group-index below _ _ _ _ _ _ _ _ c.loop-group.invariant
    (c.fetch-pages.ensures.1 ∙ ap (current_page present s) same) (search rules)
    (ap (λ (n : ℕ). c.loop-group.pages + n) c.fetch-pages.ensures.0) refl (rw same at c.answer_group.ensures)

pub returns : goal.returns
returns c =
    let s = box_of c.args.memory.now c.args.disk.now in
    let end = named_end σ s _ _ _ _ _ _ c.requires in
    let inv = c.loop-group.invariant in
    (omega (arith, inv.counted, end), filled_end σ s _ _ _ _ _ _ c.requires _ _ _ _ _ inv c.loop-group-test.false)
