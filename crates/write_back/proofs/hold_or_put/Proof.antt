-- `write_back::hold_or_put` meets its contract: the count stored, the page held or stored as its group's. Assumes nothing.
use borrow.Author.Rules.{rules}
use native.Mathlib.Omega.{arith}
use Rattle.lockpage.specs.Geometry.{present}
use Rattle.lockpage.proofs.GeometryLaw.{present_proper as σ}
use Rattle.disk.proofs.DiskLaw.{has_group}
use Rattle.memory.specs.Ready.{HasCount}
use Rattle.validity.proofs.ValidLaw.{facts}
use Rattle.write_back.proofs.HeldLaw.{staying_put, staying_held, leaving_put, leaving_held}
use Rattle.write_back.proofs.hold_or_put.Statement.{statement}
use Rattle.write_back.proofs.hold_or_put.Tie as tie

-- the states on the way back: the count read, the update's number, the start
abbrev counted : tie.After-set_count → tie.After-count-count
counted c = c.before.before

abbrev numbered : tie.After-count-count → tie.After-next_update-updates
numbered c = c.before

abbrev start : tie.After-next_update-updates → tie.Start
start c = c.before.before.before.before

-- the memory at entry has the group
has : (c : tie.Start) → HasCount present c.args.memory.now c.args.group
has c =
    let v = facts σ _ c.requires.box.memory in
    record { size = v.size; group = omega (arith, c.requires.group, v.most) }

hold-requires : tie.Need-hold-requires
hold-requires c κs =
    let size = (has c.before.before.before.before.before.before.before.before.before.before.before).size in
    (record { count = record { size = search rules; group = (has c.before.before.before.before.before.before.before.before.before.before.before).group }; page_size_is = c.requires.page_size_is }, omega arith)

store-page-requires : tie.Need-store_page-requires
store-page-requires c κs =
    (has_group σ _ _ _ c.requires.box.disk c.requires.group, c.requires.page_size_is)

hold-none-requires : tie.Need-hold_none-requires
hold-none-requires c κs =
    let size = (has c.before.before.before.before.before.before.before.before.before.before.before.before.before.before.before).size in
    search rules

left : tie.Need-returns
left c =
    let next = c.next_update-updates.ensures in (
      leaving_held σ _ _ _ next (omega arith) _ _ _ _ c.count-count.ensures c.set_count.ensures
          c.hold_none.ensures,
      leaving_put σ _ _ _ next (omega arith) _ _ _ c.store_page.ensures,
    )

pub hold_or_put_spec : {M : Type 1} → statement M
hold_or_put_spec =
    tie.close
    (tie.spec (λ c κs. c.requires.box.memory) (λ c κs. has c.before.before.before.before)
    (λ c. omega (arith, c.count-count.ensures, c.requires.unexhausted))
    (λ c κs. has c.before.before.before.before.before.before) hold-requires (λ c. search rules) (λ c. let next = c.next_update-updates.ensures in (staying_held σ _ _ _ next (omega arith) _ _ _ _ c.count-count.ensures c.set_count.ensures c.hold.ensures, staying_put σ _ _ _ next (omega arith) _ _)) store-page-requires hold-none-requires
    (λ c. search rules) (λ c. search rules) left)
