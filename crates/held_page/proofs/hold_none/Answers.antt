-- None held, no updates, and a page of zeros, stored one after the other. Assumes nothing.
use Rattle.std.proofs.Common.{◌≡◌, ℕ, List, ap, ◌∙◌}
use Rattle.octets.specs.Part.{replaced, repeated}
use Rattle.octets.specs.Number.{with_number}
use Rattle.lockpage.specs.Geometry.{present}
use Rattle.lockpage.specs.Size.{page_size}
use Rattle.memory.specs.Layout.{held_start, update_count_start, byte_size, page_start}
use Rattle.memory.specs.Memory.{none, with_held, with_update_count, with_held_page, holding, holding_none}
use Rattle.held_page.proofs.hold_none.Goals as goal

cleared : (m n o r : List ℕ) → n ≡ with_number m (held_start present) byte_size none → o ≡ with_number n (update_count_start present) byte_size 0
    → r ≡ replaced o (page_start present) (repeated (page_size present) 0) → r ≡ holding_none present m
unfolding holding_none holding with_held with_update_count with_held_page
cleared m n o r en eo er =
    er
    ∙ ap (λ (x : List ℕ). replaced x (page_start present) (repeated (page_size present) 0))
    (eo ∙ ap (λ (x : List ℕ). with_number x (update_count_start present) byte_size 0) en)

pub returns : goal.returns
unfolding repeated
returns c = cleared _ _ _ _ c.store_u8.ensures c.store_u8-2.ensures c.store_bytes.ensures
