-- `versions_forecast::count_before_log` meets its contract: one more where the unfreeze is of the same group. Assumes nothing.
use Rattle.std.proofs.Common.{◌≡◌, ℕ, ap, sym, ◌∙◌, rules}
use Rattle.std.specs.Prelude.{Option, None, List}
use Rattle.lockpage.specs.Geometry.{present}
use Rattle.addressing.specs.Map.{group_of}
use Rattle.memory.specs.Memory.{count}
use Rattle.versions_forecast.specs.Stages.{raised, raised_for}
use Rattle.versions_forecast.proofs.StageLaw.{count_same, count_other}
use Rattle.versions_forecast.proofs.count_before_log.Goals as goal

-- the count of a's group after a command on a block, or on none, from counts
abbrev counted : List ℕ → ℕ → ℕ → Option ℕ → ℕ
counted m block a o = raised_for present (raised present (count m) block) o (group_of present a)

pub returns-in_default : goal.returns-in_default
unfolding raised_for
returns-in_default c =
    let x = c.args in
    let none : x.replaced ≡ None = search rules in
    c.count_after-written.ensures.0 ∙ ap (counted x.memory.now x.block x.a) (sym none)

pub returns-then-group_of : goal.returns-then-group_of
unfolding raised_for
returns-then-group_of c =
    let x = c.args in
    let counts = raised present (count x.memory.now) x.block in
    count_same present counts c.in-Some.replaced x.a _ _ _ c.group_of-2.ensures c.group_of.ensures
    (c.count_after-written.ensures.0 ∙ ap counts (sym c.group_of-2.ensures)) c.if-group_of.true
    ∙ ap (counted x.memory.now x.block x.a) (sym c.in-Some.is)

pub returns : goal.returns
unfolding raised_for
returns c =
    let x = c.args in
    let counts = raised present (count x.memory.now) x.block in
    count_other present counts c.in-Some.replaced x.a _ _ _ c.group_of-2.ensures c.group_of.ensures
    (c.count_after-written.ensures.0 ∙ ap counts (sym c.group_of-2.ensures)) c.if-group_of.false
    ∙ ap (counted x.memory.now x.block x.a) (sym c.in-Some.is)
