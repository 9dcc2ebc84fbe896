-- Which page is the current one, by the test of the held group, and a block's entry on it; and that a valid box has it. Assumes nothing.
use mathlib.Core.Path.{◌≡◌, refl, ap, ap₂, sym, ◌∙◌}
use mathlib.Core.Bool.{Bool, true, false}
use mathlib.Core.List.{List}
use Prim.Native.Nat.{ℕ, ◌<◌}
use borrow.Author.Tests.{eqb-true, eqb-false}
use lib.Dec.{eqb}
use lib.ListN.{length}
use Rattle.lockpage.specs.Geometry.{Geometry, Proper}
use Rattle.lockpage.specs.Size.{page_size}
use Rattle.lockpage.specs.declared.Entry.{Entry}
use Rattle.lockpage.specs.Page.{entry_at}
use Rattle.addressing.specs.Map.{group_of, place_of, page_block}
use Rattle.disk.specs.Disk.{block}
use Rattle.disk.proofs.DiskLaw.{has_group}
use Rattle.memory.specs.Memory.{groups, held, held_page}
use Rattle.validity.proofs.ValidLaw.{facts}
use Rattle.machine.specs.Command.{Box, box_of}
use Rattle.machine.specs.Tag.{current_page, current_entry}
use Rattle.machine.specs.Claims.{ValidBox}
use Rattle.machine.proofs.TagLaw.{current_held, current_other}
use Rattle.current_page.specs.Ready.{CurrentReady}

-- γ is any proper geometry; b says whether group g is the held one
module _ {γ : Geometry} (σ : Proper γ) (m disk : List ℕ) (g : ℕ) (b : Bool) (eb : b ≡ eqb (held γ m) g) where
  pub page_held : (r : List ℕ) → b ≡ true → r ≡ held_page γ m → r ≡ current_page γ (box_of m disk) g
  page_held r e er = er ∙ sym (current_held σ (box_of m disk) g (eqb-true (held γ m) g (sym eb ∙ e)))

  pub page_other : (r : List ℕ) → b ≡ false → r ≡ block γ disk (page_block γ g) → r ≡ current_page γ (box_of m disk) g
  page_other r e er = er ∙ sym (current_other σ (box_of m disk) g (eqb-false (held γ m) g (sym eb ∙ e)))

  -- the entry of block a on its group's current page; the group and the place were computed
  module _ (a i : ℕ) (eg : g ≡ group_of γ a) (ei : i ≡ place_of γ a) (r : Entry) where
    computed : entry_at (current_page γ (box_of m disk) g) i ≡ current_entry γ (box_of m disk) a
    computed = ap₂ (λ (k j : ℕ). entry_at (current_page γ (box_of m disk) k) j) eg ei

    pub entry_held : b ≡ true → r ≡ entry_at (held_page γ m) i → r ≡ current_entry γ (box_of m disk) a
    entry_held e er = er ∙ ap (λ (p : List ℕ). entry_at p i) (page_held (held_page γ m) e refl) ∙ computed

    pub entry_other : b ≡ false → r ≡ entry_at (block γ disk (page_block γ g)) i → r ≡ current_entry γ (box_of m disk) a
    entry_other e er = er ∙ ap (λ (p : List ℕ). entry_at p i) (page_other (block γ disk (page_block γ g)) e refl) ∙ computed

-- a group of a valid box can be fetched
pub current_ready : {γ : Geometry} (σ : Proper γ) (s : Box) (g : ℕ) (out : List ℕ) → ValidBox γ s → g < groups γ s.memory
    → length out ≡ page_size γ → CurrentReady γ s g out
current_ready σ s g out v h l =
    record { memory_size_is = (facts σ s.memory v.memory).size; group = has_group σ _ _ _ v.disk h; page_size_is = l }
