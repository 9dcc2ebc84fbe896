-- `effects::upkeep::restart` meets its contract, by those of the steps. Assumes nothing.
use borrow.Author.Rules.{rules}
use Rattle.lockpage.proofs.GeometryLaw.{present_proper as σ}
use Rattle.validity.proofs.ValidLaw.{facts}
use Rattle.effects.proofs.TimedLaw.{timed_valid}
use Rattle.effects.proofs.UpkeepLaw.{lost}
use Rattle.effects.proofs.upkeep.restart.Statement.{statement}
use Rattle.effects.proofs.upkeep.restart.Tie as tie

sound : tie.Need-lose_held-requires
sound c κs =
    let known = c.requires in
    timed_valid σ _ _ _ c.set_last_time.ensures known.time known.memory

returns : tie.Need-returns
returns c =
    lost σ _ _ _ c.set_last_time.ensures _ _ c.requires.answer_size_is c.zero_tail.ensures _ c.lose_held.ensures

pub restart_spec : {M : Type 1} → statement M
restart_spec =
    tie.close
    (tie.spec (λ c κs. (facts σ _ c.requires.memory).size) sound (λ c κs. search rules) (λ c. search rules)
    (λ c. search rules) returns)
