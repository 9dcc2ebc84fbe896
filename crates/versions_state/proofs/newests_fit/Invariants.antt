-- The parts before this one are looked at.
use Rattle.std.proofs.Common.{◌≡◌}
use Rattle.lockpage.specs.Geometry.{present}
use Rattle.versions_state.specs.State.{newest_number, is_newest}
use Rattle.versions_state.proofs.CheckLaw.{all_before}
use Rattle.versions_state.proofs.newests_fit.Given as goal

abbrev pub invariant-loop-part : goal.invariant-loop-part
invariant-loop-part l = l.fit ≡ all_before (λ p. is_newest present (newest_number l.state p)) l.part
