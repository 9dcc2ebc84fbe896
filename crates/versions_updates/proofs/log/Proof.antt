-- `versions_updates::log` meets its contract, by that of the function that it calls. Assumes nothing.
use borrow.Author.Rules.{rules}
use native.Mathlib.Omega.{arith}
use Rattle.octets.specs.Part.{Below}
use Rattle.lockpage.specs.Geometry.{present}
use Rattle.versions_state.proofs.ValidLaw.{facts, read_back, few_read}
use Rattle.versions_updates.proofs.log.Statement.{statement}
use Rattle.versions_updates.proofs.log.Tie as tie

clear-records-requires : tie.Need-clear_records-requires
clear-records-requires c κs = (facts present _ c.requires).size

returns : tie.Need-returns
unfolding Below
returns c =
    let valid = c.requires in
    c.clear_records.ensures _ (read_back present _ (λ i. omega (arith, c.slice_known-1.given i)) valid)
    (few_read present _ (λ i. omega (arith, c.slice_known-1.given i)) valid)

pub log_spec : {M : Type 1} → statement M
log_spec = tie.close (tie.spec clear-records-requires (λ c. search rules) returns)
