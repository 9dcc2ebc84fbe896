-- `versions_search::two` meets its contract: the first available block, where the search behind it comes to another. Assumes nothing.
use Rattle.std.proofs.Common.{◌≡◌, ℕ, rules, ap, sym, ◌∙◌}
use Rattle.std.specs.Prelude.{Option, None}
use Rattle.std.specs.Option.{ok_or}
use Rattle.lockpage.specs.Geometry.{present}
use Rattle.versions_search.proofs.RoundLaw.{two_late, two_early, two_none}
use Rattle.versions_search.proofs.two.Goals as goal

pub returns-in-Some : goal.returns-in-Some
returns-in-Some c =
    c.ok_or.ensures.value
    ∙ ap (λ (o : Option ℕ). ok_or o c.in-Some.later) c.and.ensures
    ∙ two_late present _ _ _ _ _ _ c.end_of-end.ensures c.behind-start.ensures _ _ c.or_else.result
    (sym c.next_in.ensures.found ∙ c.in-Some.is) c.next_in-in-Some.ensures.found (search rules)

pub returns-in_default-next_in : goal.returns-in_default-next_in
returns-in_default-next_in c =
    let no_later : c.next_in.result ≡ None = search rules in
    let no_earlier : c.next_in-2.result ≡ None = search rules in
    two_none present _ _ _ _ _ _ c.end_of-end.ensures c.behind-start.ensures (sym c.next_in.ensures.found ∙ no_later)
    (sym c.next_in-2.ensures.found ∙ no_earlier)

pub returns : goal.returns
returns c =
    let no_later : c.next_in.result ≡ None = search rules in
    c.ok_or-2.ensures.value
    ∙ ap (λ (o : Option ℕ). ok_or o c.in-Some-next_in.earlier) c.and-2.ensures
    ∙ two_early present _ _ _ _ _ _ c.end_of-end.ensures c.behind-start.ensures _ _ (sym c.next_in.ensures.found ∙ no_later)
    (sym c.next_in-2.ensures.found ∙ c.in-Some-next_in.is) c.next_in-3.ensures.found
