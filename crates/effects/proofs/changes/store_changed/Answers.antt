-- The page brought is copied, its entry stored. Assumes nothing.
use Rattle.std.proofs.Common.{ap, arith, ◌∙◌}
use Rattle.octets.specs.Part.{part}
use Rattle.lockpage.specs.declared.Entry.{Entry}
use Rattle.lockpage.specs.Update.{updated, within_limit}
use Rattle.lockpage.proofs.GeometryLaw.{present_proper as σ}
use Rattle.addressing.proofs.MapLaw.{place_of_below}
use Rattle.effects.proofs.ChangeLaw.{changed_stored}
use Rattle.effects.proofs.changes.store_changed.Goals as goal

pub updated-requires : goal.updated-requires
updated-requires c =
    let x = c.args in
    let may = c.requires.0 in
    (may.time, ap (λ (e : Entry). within_limit (updated x.u x.time e)) c.brought_entry-e.ensures ∙ may.limit)

pub store_entry-requires : goal.store_entry-requires
store_entry-requires c =
    omega (arith, c.place_of-place.ensures, place_of_below σ c.args.block, c.requires.1)

pub returns : goal.returns
unfolding part
returns c =
    changed_stored σ _ _ _ _ _ _ _ _ _ c.brought_entry-e.ensures c.copy_from_slice.ensures.after
    c.place_of-place.ensures c.updated.ensures c.store_entry.ensures
