-- Of the held page if the group is held, else of the disk's. Assumes nothing.
use Rattle.std.proofs.Common.{arith}
use Rattle.lockpage.proofs.GeometryLaw.{present_proper as σ}
use Rattle.addressing.proofs.MapLaw.{place_of_below}
use Rattle.disk.proofs.LentLaw.{has_computed}
use Rattle.current_page.proofs.CurrentLaw.{entry_held, entry_other}
use Rattle.current_page.proofs.entry.Goals as goal

pub load_entry-requires : goal.load_entry-requires
load_entry-requires c =
    (c.requires.0, omega (arith, c.place_of-place.ensures, place_of_below σ c.args.block))

pub load_entry-requires-2 : goal.load_entry-requires-2
load_entry-requires-2 c = (
  has_computed σ _ _ _ c.requires.1 c.group_of-group.ensures,
  omega (arith, c.place_of-place.ensures, place_of_below σ c.args.block),
)

pub returns-then-held : goal.returns-then-held
returns-then-held c =
    entry_held σ _ _ _ _ c.is_held-held.ensures _ _ c.group_of-group.ensures c.place_of-place.ensures _ c.if-held.true
    c.load_entry.ensures

pub returns : goal.returns
returns c =
    entry_other σ _ _ _ _ c.is_held-held.ensures _ _ c.group_of-group.ensures c.place_of-place.ensures _ c.if-held.false
    c.load_entry-2.ensures
