-- `versions_steps::version::write` meets its contract: the version's own order, and that of the one which it replaces. Assumes nothing.
use Rattle.std.proofs.Common.{◌≡◌, rules}
use Rattle.std.specs.Prelude.{None}
use Rattle.lockpage.proofs.GeometryLaw.{present_proper as σ}
use Rattle.versions_steps.proofs.OrderedLaw.{second_ready, wrote_first, wrote_both}
use Rattle.versions_steps.proofs.version.write.Goals as goal

pub give-requires-in-Some : goal.give-requires-in-Some
give-requires-in-Some c = second_ready σ _ _ _ _ _ _ c.requires _ _ c.give.ensures

pub returns-in-Some : goal.returns-in-Some
returns-in-Some c = wrote_both σ _ _ _ _ _ _ c.requires _ _ c.give.ensures _ c.in-Some.is _ _ c.give-in-Some.ensures

pub returns-in_default : goal.returns-in_default
returns-in_default c =
    let none : c.args.replaced ≡ None = search rules in
    wrote_first σ _ _ _ _ _ _ c.requires _ _ c.give.ensures none
