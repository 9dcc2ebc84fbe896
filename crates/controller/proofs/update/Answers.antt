-- `controller::update`, where questions 7 to 10 say yes.
use Rattle.std.proofs.Common.{arith}
use Rattle.lockpage.proofs.GeometryLaw.{present_proper as σ}
use Rattle.controller.proofs.CommandLaw.{update_made}
use Rattle.controller.proofs.update.Goals as goal

pub returns : goal.returns
returns c =
    let x = c.args in
    update_made σ x.u x.memory.now x.disk.now x.block x.time x.content.now x.proof.now x.answer.now c.requires (grind arith) _ _ _ c.change.ensures
