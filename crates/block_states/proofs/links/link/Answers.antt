-- `block_states::links::link`: each turn links one number in front of the others.
use Rattle.std.proofs.Common.{◌≡◌, ◌-◌, get_or, ap, ◌∙◌, arith, rules}
use Rattle.lockpage.specs.Geometry.{present}
use Rattle.addressing.specs.Map.{group_of}
use Rattle.machine.specs.Query.{most_numbers}
use Rattle.block_states.specs.Links.{group_named}
use Rattle.block_list.proofs.ListLaw.{number_within}
use Rattle.block_states.proofs.LinkLaw.{linked_start, linked_few, linked_head, turn_new, turn_seen, linked_end}
use Rattle.block_states.proofs.links.link.Goals as goal

pub loop-i-init : goal.loop-i-init
loop-i-init c =
    let n = c.count-i.ensures in
    record {
      within = omega (arith, n);
      linked = linked_start _ _ _ _ _ _ _ (omega (arith, n)) c.requires.heads c.requires.nexts_size c.requires.named_size;
    }

pub number-requires : goal.number-requires
number-requires c = number_within _ _ (omega arith)

pub bounds-first-group : goal.bounds-first-group
bounds-first-group c =
    let known = c.requires.list.range (c.loop-i.i - 1) (omega arith) in
    omega (arith, known, c.group_of-group.ensures, ap (group_of present) c.number.ensures, c.loop-i.invariant.linked.heads_size)

-- where a group is named, its first place was the sign for none: there is a place for one more group
pub bounds-named-groups : goal.bounds-named-groups
bounds-named-groups c =
    let none : get_or c.loop-i.first c.group_of-group.result 0 ≡ most_numbers = omega arith in
    omega (arith, linked_few _ _ _ _ _ _ _ _ c.loop-i.invariant.linked, c.requires.list.few, c.loop-i.invariant.linked.named_size)

pub overflow_add-groups : goal.overflow_add-groups
overflow_add-groups c =
    let few = linked_few _ _ _ _ _ _ _ _ c.loop-i.invariant.linked in
    let most = c.requires.list.few in
    grind arith

pub bounds-first-group-in-loop-i : goal.bounds-first-group-in-loop-i
bounds-first-group-in-loop-i c =
    let known = c.requires.list.range (c.loop-i.i - 1) (omega arith) in
    omega (arith, known, c.group_of-group.ensures, ap (group_of present) c.number.ensures, c.loop-i.invariant.linked.heads_size)

pub overflow_cast-next : goal.overflow_cast-next
overflow_cast-next c =
    let known = c.requires.list.range (c.loop-i.i - 1) (omega arith) in
    let head = linked_head _ _ _ _ _ _ _ _ c.loop-i.invariant.linked (omega (arith, c.requires.list.few)) c.group_of-group.result
    (omega (arith, known, c.group_of-group.ensures, ap (group_of present) c.number.ensures)) in
    search (rules, head)

pub bounds-first-group-in-loop-i-2 : goal.bounds-first-group-in-loop-i-2
bounds-first-group-in-loop-i-2 c =
    let known = c.requires.list.range (c.loop-i.i - 1) (omega arith) in
    omega (arith, known, c.group_of-group.ensures, ap (group_of present) c.number.ensures, c.loop-i.invariant.linked.heads_size)

pub loop-i-preserved : goal.loop-i-preserved
loop-i-preserved c =
    let inv = c.loop-i.invariant in
    let few = c.requires.list.few in
    let known = c.requires.list.range (c.loop-i.i - 1) (omega arith) in
    let same : c.group_of-group.result ≡ group_named present c.args.blocks.now (c.loop-i.i - 1) =
    c.group_of-group.ensures ∙ ap (group_of present) c.number.ensures in
    record {
      within = omega (arith, inv.within);
      linked =
          elim c.if-first-group-eq-MOST_NUMBERS.branch [
            | goal.then-first-group-eq-MOST_NUMBERS new ↦ turn_new _ _ _ _ _ _ _ _ _ _ inv.linked (omega arith) inv.within few same known _ _
                (search rules) new.named-is new.groups-is
            | goal.else-first-group-eq-MOST_NUMBERS seen ↦ turn_seen _ _ _ _ _ _ _ _ _ _ inv.linked (omega arith) inv.within few same known _ _
                (search rules) seen.named-is seen.groups-is
          ];
    }

pub returns : goal.returns
returns c = linked_end _ _ _ _ _ _ _ _ (omega arith) c.loop-i.invariant.linked
