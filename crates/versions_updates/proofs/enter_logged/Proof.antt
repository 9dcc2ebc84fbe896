-- `versions_updates::enter_logged` meets its contract, by those of the functions that it calls. Assumes nothing.
use borrow.Author.Rules.{rules}
use native.Mathlib.Omega.{arith}
use mathlib.Core.Path.{◌≡◌}
use lib.ListN.{length}
use Rattle.octets.specs.Part.{AreBytes, Below}
use Rattle.lockpage.specs.Geometry.{present}
use Rattle.versions_machine.specs.Versions.{entered, logged}
use Rattle.versions_state.specs.Layout.{state_size}
use Rattle.versions_state.proofs.ValidLaw.{facts, read_back, few_read}
use Rattle.versions_updates.proofs.CodeLaw.{newest_stored}
use Rattle.versions_updates.proofs.enter_logged.Statement.{statement}
use Rattle.versions_updates.proofs.enter_logged.Tie as tie

size : (c : tie.Start) → length c.args.state.now ≡ state_size present
size c = (facts present _ c.requires.0).size

set-newest-requires : tie.Need-set_newest-requires
set-newest-requires c κs = (size c.before.before, c.requires.1)

clear-records-requires : tie.Need-clear_records-requires
clear-records-requires c κs = omega (arith, size c.before.before.before.before.before.before)

returns : tie.Need-returns
unfolding Below entered logged
returns c =
    let pre = c.requires in
    let are : AreBytes c.args.state.now = λ i. omega (arith, c.slice_known-1.given i) in
    c.clear_records.ensures _
    (newest_stored present _ _ _ _ _ pre.1 (read_back present _ are pre.0) c.set_newest.ensures)
    (few_read present _ are pre.0)

pub enter_logged_spec : {M : Type 1} → statement M
enter_logged_spec = tie.close (tie.spec set-newest-requires clear-records-requires (λ c. search rules) returns)
