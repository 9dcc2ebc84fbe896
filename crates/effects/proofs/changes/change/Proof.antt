-- `effects::changes::change` meets its contract: the held page of another group and the content stored, the changed page answered with its
-- tag, and held or stored. Assumes nothing.
use borrow.Author.Rules.{rules}
use mathlib.Core.Path.{◌∙◌}
use native.Mathlib.Omega.{arith}
use Rattle.octets.specs.Part.{part}
use Rattle.lockpage.specs.Geometry.{present}
use Rattle.lockpage.proofs.GeometryLaw.{present_proper as σ}
use Rattle.addressing.specs.Map.{group_of}
use Rattle.addressing.proofs.MapLaw.{group_of_below}
use Rattle.disk.proofs.DiskLaw.{has_group_of}
use Rattle.memory.specs.Ready.{HasCount}
use Rattle.validity.proofs.ValidLaw.{facts}
use Rattle.effects.proofs.TimedLaw.{timed_box, timed_hold}
use Rattle.effects.proofs.ChangeLaw.{change_outcome}
use Rattle.effects.proofs.changes.change.Statement.{statement}
use Rattle.effects.proofs.changes.change.Tie as tie

has : (c : tie.Start) → HasCount present c.args.memory.now (group_of present c.args.block)
has c =
    let v = facts σ _ c.requires.box.memory in
    record { size = v.size; group = omega (arith, group_of_below σ _ _ c.requires.block, v.most) }

evict-requires : tie.Need-evict-requires
evict-requires c κs =
    let ready = c.requires in
    timed_box σ _ _ _ c.set_last_time.ensures ready.may.time c.args.disk.now ready.box

put-content-requires : tie.Need-put_content-requires
put-content-requires c κs =
    let ready = c.requires in
    (has_group_of σ _ _ _ (c.disk-1.given ∙ ready.box.disk) ready.block, ready.content_size)

store-changed-requires : tie.Need-store_changed-requires
store-changed-requires c κs = (c.requires.may, search rules)

hold-or-put-requires : tie.Need-hold_or_put-requires
hold-or-put-requires c κs =
    let ready = c.requires in
    timed_hold σ _ _ _ c.set_last_time.ensures ready.may.time c.args.disk.now _ _ _ _ ready.box
    (c.disk-2-1.given ∙ c.disk-1.given) ready.block
    c.group_of-group.ensures ready.unexhausted (search rules)

store-tag-requires : tie.Need-store_tag-requires
store-tag-requires c κs =
    let h = has c.before.before.before.before.before.before.before.before.before.before.before.before.before.before.before.before.before.before.before.before.before.before.before.before.before.before.before.before.before.before.before in (
      record {
        size = c.memory-2-1.given ∙ c.memory-1.given ∙ h.size;
        group = omega (arith, c.group_of-group.ensures, h.group);
      },
      search rules,
    )

returns : tie.Need-returns
unfolding part
returns c =
    let x = c.args in
    change_outcome σ _ _ _ _ _ x.answer.now _ _ _ _ _ _ _ _ _ _ c.requires.may c.group_of-group.ensures
    c.set_last_time.ensures c.evict.ensures c.put_content.ensures c.store_changed.ensures
    c.hold_or_put.ensures.1 c.hold_or_put.ensures.0 c.store_tag.ensures

pub change_spec : {M : Type 1} → statement M
change_spec =
    tie.close
    (tie.spec (λ c κs. search rules) (λ c κs. (has c.before.before.before.before.before.before.before).size) evict-requires
    put-content-requires (λ c. search rules) (λ c. search rules) (λ c. search rules) store-changed-requires (λ c. search rules)
    (λ c. search rules) (λ c. search rules) hold-or-put-requires store-tag-requires (λ c. search rules) (λ c. search rules) (λ c. search rules)
    returns)
