-- `disk::whole::store_page` meets its contract: the page's place is behind the data blocks. Assumes nothing.
use borrow.Author.Rules.{rules}
use mathlib.Core.Path.{ap, sym, ◌∙◌}
use native.Mathlib.Omega.{arith}
use Prim.Native.Nat.{ℕ}
use Rattle.lockpage.specs.Geometry.{present}
use Rattle.lockpage.proofs.GeometryLaw.{present_proper as σ}
use Rattle.addressing.proofs.MapLaw.{page_block_place}
use Rattle.disk.specs.Disk.{with_block}
use Rattle.disk.proofs.whole.store_page.Statement.{statement}
use Rattle.disk.proofs.whole.store_page.Tie as tie

-- where it starts, once the page is to be stored
abbrev start : tie.After-store_at-arg-1 → tie.Start
start c = c.before.before.before

store-at-requires : tie.Need-store_at-requires
store-at-requires c κs =
    let ready = (start c).requires in
    record { group = ready.0; inside = omega arith; block_size_is = ready.1 }

returns : tie.Need-returns
returns c =
    let called = c.before.before in
    let x = (start called.before).args in
    called.store_at.ensures ∙ ap (λ (p : ℕ). with_block present x.disk.now p x.page.now) (sym (page_block_place σ x.group))

pub store_page_spec : {M : Type 1} → statement M
store_page_spec = tie.close (tie.spec store-at-requires (λ c. search rules) returns)
