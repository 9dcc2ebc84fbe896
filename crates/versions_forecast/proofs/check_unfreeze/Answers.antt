-- `versions_forecast::check_unfreeze` meets its contract: without a version replaced nothing, else the first no, in order. Assumes
-- nothing.
use Rattle.std.proofs.Common.{◌≡◌, ℕ, refl, ap, sym, ◌∙◌, rules, ltb-true}
use Rattle.std.specs.Prelude.{Option, None, [], ◌∷◌}
use Rattle.lockpage.specs.Geometry.{present}
use Rattle.lockpage.proofs.GeometryLaw.{present_proper as σ}
use Rattle.disk.proofs.DiskLaw.{has_group_of}
use Rattle.memory.specs.Memory.{count, groups}
use Rattle.validity.proofs.ValidLaw.{facts}
use Rattle.machine.specs.Command.{Box, box_of}
use Rattle.machine.specs.Tag.{current_entry}
use Rattle.versions_machine.specs.Plan.{writing, unfreezing, unfreezes}
use Rattle.versions_machine.specs.Foresight.{foreseen}
use Rattle.versions_forecast.specs.Stages.{entries_for, entries_past, counts_past}
use Rattle.versions_forecast.proofs.WriteLaw.{lock_within}
use Rattle.versions_forecast.proofs.OrderLaw.{outside, inside, unfreeze_none, unfreeze_some}
use Rattle.versions_forecast.proofs.RangeLaw.{has_count}
use Rattle.versions_forecast.proofs.check_unfreeze.Goals as goal

-- the number of the unfreeze of a version, or of none, after the write of a block
abbrev number : Box → ℕ → ℕ → ℕ → Option ℕ → ℕ
number s block now lock replaced =
    foreseen present (groups present s.memory) (counts_past present (count s.memory) (writing block now lock [] ∷ []))
    (entries_past (current_entry present s) (writing block now lock [] ∷ [])) (unfreezes replaced now)

pub returns-in_default : goal.returns-in_default
returns-in_default c =
    let x = c.args in
    let s = box_of x.memory.now x.disk.now in
    let none : x.replaced ≡ None = search rules in
    unfreeze_none present _ _ _ x.time ∙ ap (number s x.block x.time x.lock) (sym none)

pub is_inside-requires : goal.is_inside-requires
is_inside-requires c = (facts σ _ c.requires.valid.memory).size

pub returns-then-not-is_inside : goal.returns-then-not-is_inside
returns-then-not-is_inside c =
    let x = c.args in
    let s = box_of x.memory.now x.disk.now in
    unfreeze_some present _ _ _ c.in-Some.replaced x.time _
    (outside present _ _ _ (unfreezing c.in-Some.replaced x.time) refl _ c.is_inside.ensures c.if-not-is_inside.true)
    ∙ ap (number s x.block x.time x.lock) (sym c.in-Some.is)

pub count_after-count-requires : goal.count_after-count-requires
count_after-count-requires c =
    has_count σ _ _ c.requires.valid.memory (ltb-true _ _ (sym c.is_inside.ensures ∙ c.if-not-is_inside.false))

pub entry_after-e-requires : goal.entry_after-e-requires
entry_after-e-requires c =
    record {
      memory_size_is = (facts σ _ c.requires.valid.memory).size;
      group = has_group_of σ _ _ _ c.requires.valid.disk (ltb-true _ _ (sym c.is_inside.ensures ∙ c.if-not-is_inside.false));
      early = c.requires.early;
      within = λ e. lock_within c.args.lock c.args.time _ c.requires.lock_fits;
    }

pub returns : goal.returns
unfolding entries_for
returns c =
    let x = c.args in
    let s = box_of x.memory.now x.disk.now in
    unfreeze_some present _ _ _ c.in-Some.replaced x.time _
    (inside present _ _ _ (unfreezing c.in-Some.replaced x.time) refl _ c.is_inside.ensures c.if-not-is_inside.false _ _ _
    c.count_after-count.ensures.0 c.entry_after-e.ensures c.check_order.ensures)
    ∙ ap (number s x.block x.time x.lock) (sym c.in-Some.is)
