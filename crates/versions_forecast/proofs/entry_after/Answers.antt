-- `versions_forecast::entry_after` meets its contract: the updated entry where the blocks are the same. Assumes nothing.
use Rattle.std.proofs.Common.{◌≡◌, ap, sym, ◌∙◌, rules}
use Rattle.std.specs.Prelude.{Some}
use Rattle.lockpage.specs.Geometry.{present}
use Rattle.lockpage.specs.Update.{updated}
use Rattle.machine.specs.Command.{box_of}
use Rattle.machine.specs.Tag.{current_entry}
use Rattle.versions_forecast.proofs.StageLaw.{entry_own, entry_kept}
use Rattle.versions_forecast.proofs.entry_after.Goals as goal

pub returns-then-eq : goal.returns-then-eq
returns-then-eq c =
    let x = c.args in
    let same : x.block ≡ Some x.a = search rules in
    c.updated.ensures
    ∙ ap (updated x.u x.time) c.entry-e.ensures
    ∙ sym (entry_own (current_entry present (box_of x.memory.now x.disk.now)) x.u x.time x.a x.block same)

pub returns : goal.returns
returns c =
    let x = c.args in
    let other : (x.block ≡ Some x.a → ⊥) = search rules in
    c.entry-e.ensures ∙ sym (entry_kept (current_entry present (box_of x.memory.now x.disk.now)) x.u x.time x.a x.block other)
