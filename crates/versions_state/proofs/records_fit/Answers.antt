-- `versions_state::records_fit` meets its contract: each turn looks at one record more.
use Rattle.std.proofs.Common.{Bool, List, ℕ, arith}
use Rattle.lockpage.specs.Geometry.{present}
use Rattle.versions_state.specs.State.{record_in, is_record}
use Rattle.versions_state.proofs.CheckLaw.{none_before, one_before, all_looked, records_looked}
use Rattle.versions_state.proofs.records_fit.Goals as goal

abbrev fits : List ℕ → ℕ → Bool
fits state i = is_record present (record_in state i)

pub loop-i-init : goal.loop-i-init
loop-i-init c = none_before (fits c.args.state.now)

pub loop-i-preserved : goal.loop-i-preserved
loop-i-preserved c = one_before (fits c.args.state.now) c.loop-i.i _ _ c.loop-i.invariant c.record_fits-fit.ensures

pub returns : goal.returns
returns c = records_looked c.args.state.now _ c.args.n (all_looked (fits c.args.state.now) _ c.args.n _ c.loop-i.invariant (omega arith))
