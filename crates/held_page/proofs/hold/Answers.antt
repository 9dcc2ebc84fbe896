use borrow.Author.Rules.{rules}
use Rattle.memory.specs.Memory.{with_held, with_update_count, with_held_page, holding}
use Rattle.held_page.proofs.hold.Goals as goal

pub returns : goal.returns
unfolding holding with_held with_update_count with_held_page
returns c = search rules
