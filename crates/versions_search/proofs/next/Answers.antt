-- `versions_search::next` meets its contract: of the two intervals, the first that has an available block. Assumes nothing.
use Rattle.std.proofs.Common.{rules, ◌∙◌}
use Rattle.lockpage.specs.Geometry.{present}
use Rattle.versions_search.proofs.RoundLaw.{next_looked}
use Rattle.versions_search.proofs.next.Goals as goal

pub returns : goal.returns
returns c =
    c.unwrap_or.ensures
    ∙ next_looked present _ _ _ _ _ _ c.end_of-end.ensures c.behind-start.ensures _ c.or_else-found.result
    c.next_in-later.ensures.found (search rules)
