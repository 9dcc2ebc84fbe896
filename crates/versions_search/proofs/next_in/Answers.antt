-- `versions_search::next_in` meets its contract: `find` goes through the blocks in their order. Assumes nothing.
use Rattle.std.proofs.Common.{rules, tests, refl}
use Rattle.std.proofs.lemmas.Iterator.{YieldsList-from_range}
use Rattle.std.proofs.lemmas.Iterator.Search.{find_from_yields_List}
use Rattle.lockpage.specs.Geometry.{present}
use Rattle.machine.specs.Call.{box_at}
use Rattle.versions_machine.specs.Allocation.{is_available}
use Rattle.versions_search.proofs.IntervalLaw.{searched, below_end}
use Rattle.versions_search.proofs.next_in.Goals as goal

pub returns : goal.returns
returns c =
    let test = is_available present (box_at c.args.memory.now c.args.disk.now) c.args.time c.args.reserve in
    let found = searched test c.args.from c.args.end c.find.result
    (find_from_yields_List test _ _ _ c.find.ensures.ran
    (YieldsList-from_range c.args.from c.args.end _ refl refl) (λ x b q k. search (rules, tests))) in
    record { found = found; below = below_end test c.args.from c.args.end _ c.requires.ordered found }
