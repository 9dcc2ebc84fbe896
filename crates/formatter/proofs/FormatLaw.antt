-- The blank pages as the code stores them, group after group. Assumes nothing.
use mathlib.Core.Path.{◌≡◌, refl, ap, sym, ◌∙◌}
use mathlib.Core.List.{List, [], ◌∷◌}
use Prim.Native.Nat.{ℕ, ◌+◌}
use native.Mathlib.Numerals.{add-one}
use Rattle.lockpage.specs.Geometry.{Geometry, Proper}
use Rattle.lockpage.specs.Page.{blank_page}
use Rattle.addressing.specs.Map.{page_block}
use Rattle.disk.specs.Disk.{with_block}
use Rattle.machine.specs.Effect.{store, stored}
use Rattle.machine.specs.Format.{blank_pages}
use Rattle.machine.proofs.FormatLaw.{formattable, formatting_accepted, formatting_refused}
use Rattle.machine.proofs.EffectLaw.{stored_append}

-- γ is any proper geometry
module _ {γ : Geometry} (σ : Proper γ) where
  pub pages_start : (disk : List ℕ) → disk ≡ stored γ disk (blank_pages γ 0)
  unfolding stored blank_pages
  pages_start disk = refl

  pub pages_step : (disk d page r : List ℕ) (g : ℕ) → page ≡ blank_page γ → d ≡ stored γ disk (blank_pages γ g) → r ≡ with_block γ d (page_block γ g) page
      → r ≡ stored γ disk (blank_pages γ (g + 1))
  unfolding stored blank_pages
  pages_step disk d page r g ep ed er =
      er
      ∙ ap (with_block γ d (page_block γ g)) ep
      ∙ ap (λ (x : List ℕ). with_block γ x (page_block γ g) (blank_page γ)) ed
      ∙ sym (stored_append σ disk (blank_pages γ g) (store (page_block γ g) (blank_page γ) ∷ []))
      ∙ ap (λ (n : ℕ). stored γ disk (blank_pages γ n)) (sym (add-one g))

  pub pages_end : (disk d : List ℕ) (g groups : ℕ) → g ≡ groups → d ≡ stored γ disk (blank_pages γ g) → d ≡ stored γ disk (blank_pages γ groups)
  pages_end disk d g groups e ed = ed ∙ ap (λ (n : ℕ). stored γ disk (blank_pages γ n)) e

-- what `format` cites
pub ruleset format_steps = (formattable, formatting_accepted, formatting_refused)
