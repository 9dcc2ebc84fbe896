-- `controller::new_salt`: question 11 has a memory of the size, and where it says yes, the salt is made.
use Rattle.std.proofs.Common.{arith}
use Rattle.lockpage.proofs.GeometryLaw.{present_proper as σ}
use Rattle.controller.proofs.CommandLaw.{salt_sized, salt_passed, salt_made}
use Rattle.controller.proofs.new_salt.Goals as goal

pub check_salt-requires : goal.check_salt-requires
check_salt-requires c =
    let x = c.args in
    salt_sized σ x.memory.now x.disk.now x.block x.time x.content.now x.proof.now x.answer.now c.requires

pub new_salt-requires : goal.new_salt-requires
new_salt-requires c =
    let x = c.args in
    salt_passed σ x.memory.now x.disk.now x.block x.time x.content.now x.proof.now x.answer.now c.requires (grind arith)

pub returns : goal.returns
returns c =
    let x = c.args in
    salt_made σ x.memory.now x.disk.now x.block x.time x.content.now x.proof.now x.answer.now c.requires (grind arith) _ _ _ c.new_salt.ensures
