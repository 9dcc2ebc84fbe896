-- `versions_orders::bring` meets its contract: the current page at the front, then its tag. Assumes nothing.
use borrow.Author.Rules.{rules}
use native.Mathlib.Omega.{arith}
use Prim.Native.Nat.{◌<◌}
use Rattle.lockpage.specs.Geometry.{present}
use Rattle.lockpage.proofs.GeometryLaw.{present_proper as σ}
use Rattle.addressing.proofs.MapLaw.{group_of_below}
use Rattle.memory.specs.Memory.{groups}
use Rattle.validity.proofs.ValidLaw.{facts}
use Rattle.current_page.proofs.CurrentLaw.{current_ready}
use Rattle.versions_orders.proofs.OrderLaw.{page_tagged}
use Rattle.versions_orders.proofs.bring.Statement.{statement}
use Rattle.versions_orders.proofs.bring.Tie as tie

-- where it starts, before the group is found
abbrev start : tie.After-group_of-group → tie.Start
start c = c.before.before.before.before

-- the group is one of the box's
group-small : (c : tie.After-group_of-group) → c.group_of-group.result < groups present (start c).args.memory.now
group-small c = omega (arith, c.group_of-group.ensures, group_of_below σ (groups present c.args.memory.now) c.args.block c.requires.block)

fetch-requires : tie.Need-fetch-requires
fetch-requires c κs = current_ready σ _ _ _ c.requires.box (omega (arith, group-small c.before)) (search rules)

store-tag-requires : tie.Need-store_tag-requires
store-tag-requires c κs =
    let v = facts σ _ c.requires.box.memory in
    (record { size = v.size; group = omega (arith, v.most, group-small c.before.before.before.before.before) }, search rules)

returns : tie.Need-returns
returns c =
    let ready = c.requires in
    page_tagged σ _ _ c.args.proof.now _ _ _ ready.box ready.block c.group_of-group.ensures
    c.fetch.ensures.1 c.store_tag.ensures

pub bring_spec : {M : Type 1} → statement M
bring_spec =
    tie.close
    (tie.spec (λ c κs. search rules) (λ c. search rules) (λ c. search rules) (λ c. search rules) fetch-requires store-tag-requires
    (λ c. search rules) returns)
