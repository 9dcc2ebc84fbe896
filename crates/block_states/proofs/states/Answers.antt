-- `block_states::states`, where the questions say yes: the last time is set and the answer filled.
use Rattle.std.proofs.Common.{arith}
use Rattle.lockpage.proofs.GeometryLaw.{present_proper as σ}
use Rattle.block_states.proofs.OutcomeLaw as outcome
use Rattle.block_states.proofs.states.Goals as goal

pub set_last_time-requires : goal.set_last_time-requires
set_last_time-requires c =
    let x = c.args in
    outcome.size σ x.memory.now x.disk.now x.blocks.now x.time x.answer.now (grind arith)

pub fill-requires : goal.fill-requires
fill-requires c =
    let x = c.args in
    outcome.fill_ready σ x.memory.now x.disk.now x.blocks.now x.time x.answer.now (grind arith) _ c.set_last_time.ensures

pub returns : goal.returns
returns c =
    let x = c.args in
    outcome.accepted σ x.memory.now x.disk.now x.blocks.now x.time x.answer.now (grind arith) _ c.set_last_time.ensures _ _
    c.fill.ensures.0 c.fill.ensures.1
