-- `effects::upkeep::sync` meets its contract, by those of the steps. Assumes nothing.
use borrow.Author.Rules.{rules}
use Rattle.lockpage.proofs.GeometryLaw.{present_proper as σ}
use Rattle.validity.proofs.ValidLaw.{facts}
use Rattle.effects.proofs.TimedLaw.{timed_box}
use Rattle.effects.proofs.UpkeepLaw.{synced}
use Rattle.effects.proofs.upkeep.sync.Statement.{statement}
use Rattle.effects.proofs.upkeep.sync.Tie as tie

sound : tie.Need-put_held-requires
sound c κs =
    let known = c.requires in
    timed_box σ _ _ _ c.set_last_time.ensures known.time c.args.disk.now known.box

none-requires : tie.Need-hold_none-requires
none-requires c κs =
    let size = (facts σ _ c.requires.box.memory).size in
    search rules

returns : tie.Need-returns
returns c =
    synced σ _ _ _ c.set_last_time.ensures _ _ c.requires.answer_size_is c.zero_tail.ensures _ _ _ c.put_held.ensures
    c.hold_none.ensures

pub sync_spec : {M : Type 1} → statement M
sync_spec =
    tie.close
    (tie.spec (λ c κs. (facts σ _ c.requires.box.memory).size) sound none-requires (λ c κs. search rules)
    (λ c. search rules) (λ c. search rules) (λ c. search rules) returns)
