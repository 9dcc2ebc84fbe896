-- `versions_forecast::check_log` meets its contract: the first no, in order, with the count and the entry after both commands. Assumes
-- nothing.
use Rattle.std.proofs.Common.{ℕ, ap, sym, ◌∙◌, ltb-true}
use Rattle.octets.specs.Part.{repeated}
use Rattle.octets.proofs.RepeatedLaw.{repeated_length}
use Rattle.lockpage.specs.Geometry.{present}
use Rattle.lockpage.specs.Size.{block_size}
use Rattle.lockpage.proofs.GeometryLaw.{present_proper as σ}
use Rattle.addressing.specs.Map.{group_of}
use Rattle.disk.proofs.DiskLaw.{has_group_of}
use Rattle.memory.specs.Memory.{count}
use Rattle.validity.proofs.ValidLaw.{facts}
use Rattle.machine.specs.Command.{box_of}
use Rattle.machine.specs.Tag.{current_entry}
use Rattle.versions_machine.specs.Plan.{writing}
use Rattle.versions_forecast.specs.Orders.{log_order}
use Rattle.versions_forecast.proofs.OrderLaw.{outside, inside, counts_before_log, entry_before_log}
use Rattle.versions_forecast.proofs.RangeLaw.{has_count}
use Rattle.versions_forecast.proofs.check_log.Goals as goal

pub is_inside-requires : goal.is_inside-requires
is_inside-requires c = (facts σ _ c.requires.valid.memory).size

pub returns-then-not-is_inside : goal.returns-then-not-is_inside
unfolding log_order
returns-then-not-is_inside c =
    let x = c.args in
    outside present _ _ _ (writing x.reserve x.time x.lock (repeated (block_size present) 0)) (repeated_length (block_size present) 0) _
    c.is_inside.ensures c.if-not-is_inside.true

pub count_before_log-count-requires : goal.count_before_log-count-requires
count_before_log-count-requires c =
    has_count σ _ _ c.requires.valid.memory (ltb-true _ _ (sym c.is_inside.ensures ∙ c.if-not-is_inside.false))

pub entry_after-e-requires : goal.entry_after-e-requires
entry_after-e-requires c =
    record {
      memory_size_is = (facts σ _ c.requires.valid.memory).size;
      group = has_group_of σ _ _ _ c.requires.valid.disk (ltb-true _ _ (sym c.is_inside.ensures ∙ c.if-not-is_inside.false));
      early = c.requires.early;
      within = c.requires.within;
    }

pub returns : goal.returns
unfolding log_order
returns c =
    let x = c.args in
    inside present _ _ _ (writing x.reserve x.time x.lock (repeated (block_size present) 0)) (repeated_length (block_size present) 0) _
    c.is_inside.ensures c.if-not-is_inside.false _ _ _
    (c.count_before_log-count.ensures
    ∙ ap (λ (k : ℕ → ℕ). k (group_of present x.reserve))
    (counts_before_log present (count x.memory.now) x.block x.time x.lock x.replaced))
    (c.entry_after-e.ensures
    ∙ entry_before_log (current_entry present (box_of x.memory.now x.disk.now)) x.block x.time x.lock x.replaced x.reserve c.requires.other)
    c.check_order.ensures
