-- `effects::upkeep::new_salt` meets its contract: a sync, then the counts cleared and the salt set. Assumes nothing.
use borrow.Author.Rules.{rules}
use mathlib.Core.Path.{◌≡◌, ◌∙◌}
use lib.ListN.{length}
use Rattle.lockpage.specs.Geometry.{present}
use Rattle.lockpage.proofs.GeometryLaw.{present_proper as σ}
use Rattle.memory.specs.Layout.{memory_size}
use Rattle.validity.proofs.ValidLaw.{facts}
use Rattle.effects.proofs.UpkeepLaw.{renewed}
use Rattle.effects.proofs.upkeep.new_salt.Statement.{statement}
use Rattle.effects.proofs.upkeep.new_salt.Tie as tie

-- where it starts, once the sync is done
abbrev start : tie.After-memory-1 → tie.Start
start c = c.before.before.before.before.before.before.before.before.before

-- the memory is as long as at entry
size : (c : tie.After-memory-1) → length (start c).args.memory.now ≡ memory_size present
size c = (facts σ _ c.requires.0.box.memory).size

clear-counts-requires : tie.Need-clear_counts-requires
clear-counts-requires c κs =
    c.memory-1.given ∙ size c.before.before.before.before.before.before

set-salt-requires : tie.Need-set_salt-requires
set-salt-requires c κs =
    (c.memory-2-1.given ∙ c.memory-1.given ∙ size c.before.before.before.before.before.before.before.before.before.before, c.requires.1)

returns : tie.Need-returns
returns c =
    renewed σ _ _ _ _ _ _ _ _ _ c.sync.ensures c.clear_counts.ensures c.set_salt.ensures

pub new_salt_spec : {M : Type 1} → statement M
new_salt_spec =
    tie.close
    (tie.spec (λ c κs. search rules) clear-counts-requires set-salt-requires (λ c. search rules) (λ c. search rules) (λ c. search rules) returns)
