-- `controller::carry_out`, kind by kind: each effect gets what the questions have seen to.
use Rattle.std.proofs.Common.{refl}
use Rattle.lockpage.proofs.GeometryLaw.{present_proper as σ}
use Rattle.machine.specs.declared.Kind.TheVariants.{Read, Entry, Page, Sync, Restart, Identify, Unknown}
use Rattle.machine.specs.Command.{box_of, command_of}
use Rattle.machine.specs.Question.{first_no}
use Rattle.machine.specs.Effect.{effect}
use Rattle.machine.proofs.PassedLaw.{passed}
use Rattle.controller.proofs.CommandLaw.{asked, told_made, read_ready, entry_ready, page_ready, upkeep_ready, restart_ready, unknown_refused}
use Rattle.controller.proofs.carry_out.Goals as goal

pub read-requires : goal.read-requires
unfolding first_no
read-requires c =
    let x = c.args in
    read_ready σ (box_of x.memory.now x.disk.now) (command_of 0 x.block x.time 0 x.content.now x.proof.now x.answer.now)
    (asked σ x.k Read x.memory.now x.disk.now x.block x.time x.content.now x.proof.now x.answer.now c.requires c.in-Read.is refl)

pub returns-in-Read : goal.returns-in-Read
unfolding first_no effect
returns-in-Read c =
    let x = c.args in
    told_made σ x.k Read x.memory.now x.disk.now x.block x.time x.content.now x.proof.now x.answer.now c.requires c.in-Read.is refl _ _ _ c.read.ensures

pub show_entry-requires : goal.show_entry-requires
unfolding first_no
show_entry-requires c =
    let x = c.args in
    entry_ready σ (box_of x.memory.now x.disk.now) (command_of 0 x.block x.time 0 x.content.now x.proof.now x.answer.now)
    (asked σ x.k Entry x.memory.now x.disk.now x.block x.time x.content.now x.proof.now x.answer.now c.requires c.in-Entry.is refl)

pub returns-in-Entry : goal.returns-in-Entry
unfolding first_no effect
returns-in-Entry c =
    let x = c.args in
    told_made σ x.k Entry x.memory.now x.disk.now x.block x.time x.content.now x.proof.now x.answer.now c.requires c.in-Entry.is refl _ _ _ c.show_entry.ensures

pub show_page-requires : goal.show_page-requires
unfolding first_no
show_page-requires c =
    let x = c.args in
    page_ready σ (box_of x.memory.now x.disk.now) (command_of 0 x.block x.time 0 x.content.now x.proof.now x.answer.now)
    (asked σ x.k Page x.memory.now x.disk.now x.block x.time x.content.now x.proof.now x.answer.now c.requires c.in-Page.is refl)

pub returns-in-Page : goal.returns-in-Page
unfolding first_no effect
returns-in-Page c =
    let x = c.args in
    told_made σ x.k Page x.memory.now x.disk.now x.block x.time x.content.now x.proof.now x.answer.now c.requires c.in-Page.is refl _ _ _ c.show_page.ensures

pub sync-requires : goal.sync-requires
unfolding first_no
sync-requires c =
    let x = c.args in
    upkeep_ready σ Sync (box_of x.memory.now x.disk.now) (command_of 0 x.block x.time 0 x.content.now x.proof.now x.answer.now)
    (asked σ x.k Sync x.memory.now x.disk.now x.block x.time x.content.now x.proof.now x.answer.now c.requires c.in-Sync.is refl)

pub returns-in-Sync : goal.returns-in-Sync
unfolding first_no effect
returns-in-Sync c =
    let x = c.args in
    told_made σ x.k Sync x.memory.now x.disk.now x.block x.time x.content.now x.proof.now x.answer.now c.requires c.in-Sync.is refl _ _ _ c.sync.ensures

pub restart-requires : goal.restart-requires
unfolding first_no
restart-requires c =
    let x = c.args in
    restart_ready σ (box_of x.memory.now x.disk.now) (command_of 0 x.block x.time 0 x.content.now x.proof.now x.answer.now)
    (asked σ x.k Restart x.memory.now x.disk.now x.block x.time x.content.now x.proof.now x.answer.now c.requires c.in-Restart.is refl)

pub returns-in-Restart : goal.returns-in-Restart
unfolding first_no effect
returns-in-Restart c =
    let x = c.args in
    told_made σ x.k Restart x.memory.now x.disk.now x.block x.time x.content.now x.proof.now x.answer.now
    c.requires c.in-Restart.is refl _ _ _ (c.restart.ensures x.disk.now)

pub identify-requires : goal.identify-requires
unfolding first_no
identify-requires c =
    let x = c.args in
    let yes = passed σ Identify (box_of x.memory.now x.disk.now) (command_of 0 x.block x.time 0 x.content.now x.proof.now x.answer.now)
    (asked σ x.k Identify x.memory.now x.disk.now x.block x.time x.content.now x.proof.now x.answer.now c.requires c.in-Identify.is refl) in
    (yes.memory.size, yes.answer)

pub returns-in-Identify : goal.returns-in-Identify
unfolding first_no effect
returns-in-Identify c =
    let x = c.args in
    told_made σ x.k Identify x.memory.now x.disk.now x.block x.time x.content.now x.proof.now x.answer.now
    c.requires c.in-Identify.is refl _ _ _ (c.identify.ensures x.disk.now)

pub returns-in-Unknown : goal.returns-in-Unknown
unfolding first_no
returns-in-Unknown c =
    let x = c.args in
    absurd (unknown_refused σ (box_of x.memory.now x.disk.now) (command_of 0 x.block x.time 0 x.content.now x.proof.now x.answer.now)
    (asked σ x.k Unknown x.memory.now x.disk.now x.block x.time x.content.now x.proof.now x.answer.now c.requires c.in-Unknown.is refl))
