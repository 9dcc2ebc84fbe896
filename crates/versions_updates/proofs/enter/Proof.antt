-- `versions_updates::enter` meets its contract, store by store. Assumes nothing.
use borrow.Author.Rules.{rules}
use native.Mathlib.Omega.{arith}
use mathlib.Core.Path.{◌≡◌}
use Prim.Native.Nat.{◌+◌, ◌≤◌}
use lib.ListN.{length}
use Rattle.octets.specs.Part.{Below}
use Rattle.lockpage.specs.Geometry.{present}
use Rattle.versions_machine.specs.Log.{record_size}
use Rattle.versions_state.specs.Layout.{state_size}
use Rattle.versions_state.proofs.ValidLaw.{facts}
use Rattle.versions_updates.proofs.CodeLaw.{enter_stored}
use Rattle.versions_updates.proofs.enter.Statement.{statement}
use Rattle.versions_updates.proofs.enter.Tie as tie

-- the way back from each store to the one before it
abbrev first : tie.After-store_u32-arg-1 → tie.After-set_newest-arg-1
first c = c.before.before.before.before

abbrev second : tie.After-store_u32-arg-2-1 → tie.After-store_u32-arg-1
second c = c.before.before.before.before

abbrev third : tie.After-store_u32-arg-3-1 → tie.After-store_u32-arg-2-1
third c = c.before.before.before.before

abbrev counted : tie.After-record_start-at → tie.After-record_count-n
counted c = c.before

abbrev start : tie.After-record_start-at → tie.Start
start c = (counted c).before.before

size : (c : tie.Start) → length c.args.state.now ≡ state_size present
size c = (facts present _ c.requires.valid).size

-- the next record has its place
room : (c : tie.After-record_start-at) → c.record_start-at.result + record_size ≤ state_size present
room c = omega (arith, c.record_start-at.ensures, c.record_count-n.ensures, c.requires.more)

store-u32-requires : tie.Need-store_u32-requires
store-u32-requires c κs = omega (arith, size (start (first c).before))

store-u32-requires-2 : tie.Need-store_u32-requires-2
store-u32-requires-2 c κs =
    let placed = (first (second c)).before in
    omega (arith, size (start placed), room placed)

store-u32-requires-3 : tie.Need-store_u32-requires-3
store-u32-requires-3 c κs =
    let placed = (first (second (third c))).before in
    omega (arith, size (start placed), room placed)

store-u32-requires-4 : tie.Need-store_u32-requires-4
store-u32-requires-4 c κs =
    let placed = (first (second (third c.before.before.before.before))).before in
    omega (arith, size (start placed))

returns : tie.Need-returns
unfolding Below
returns c =
    enter_stored present _ _ _ _ _ _ _ _ _ _ (λ i. omega (arith, c.slice_known-1.given i)) c.requires.valid c.requires.is_part c.requires.more
    c.record_count-n.ensures c.record_start-at.ensures c.set_newest.ensures c.store_u32.ensures
    c.store_u32-2.ensures c.store_u32-3.ensures c.store_u32-4.ensures

pub enter_spec : {M : Type 1} → statement M
enter_spec =
    tie.close
    (tie.spec (λ c κs. size c.before) (λ c κs. search rules)
    (λ c κs. (size (start c.before), (start c.before).requires.is_part)) store-u32-requires store-u32-requires-2 (λ c. search rules)
    store-u32-requires-3 (λ c. search rules) store-u32-requires-4 (λ c. search rules) returns)
