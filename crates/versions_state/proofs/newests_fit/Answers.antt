-- `versions_state::newests_fit` meets its contract: each turn looks at one part more.
use Rattle.std.proofs.Common.{Bool, List, ℕ, arith}
use Rattle.lockpage.specs.Geometry.{present}
use Rattle.versions_state.specs.Layout.{parts}
use Rattle.versions_state.specs.State.{newest_number, is_newest}
use Rattle.versions_state.proofs.CheckLaw.{none_before, one_before, all_looked, newests_looked}
use Rattle.versions_state.proofs.newests_fit.Goals as goal

abbrev fits : List ℕ → ℕ → Bool
fits state p = is_newest present (newest_number state p)

pub loop-part-init : goal.loop-part-init
loop-part-init c = none_before (fits c.args.state.now)

pub loop-part-preserved : goal.loop-part-preserved
loop-part-preserved c = one_before (fits c.args.state.now) c.loop-part.part _ _ c.loop-part.invariant c.newest_fits-fit.ensures

pub returns : goal.returns
returns c = newests_looked c.args.state.now _ (all_looked (fits c.args.state.now) _ parts _ c.loop-part.invariant (omega arith))
