-- The records before this one are looked at.
use Rattle.std.proofs.Common.{◌≡◌}
use Rattle.lockpage.specs.Geometry.{present}
use Rattle.versions_state.specs.State.{record_in, is_record}
use Rattle.versions_state.proofs.CheckLaw.{all_before}
use Rattle.versions_state.proofs.records_fit.Given as goal

abbrev pub invariant-loop-i : goal.invariant-loop-i
invariant-loop-i l = l.fit ≡ all_before (λ i. is_record present (record_in l.state i)) l.i
