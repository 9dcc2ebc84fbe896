-- A count and an entry after a command. Assumes nothing.
use mathlib.Core.Path.{◌≡◌, refl, ap, sym, ◌∙◌}
use mathlib.Core.Bool.{Bool, true, false}
use Rattle.std.specs.Prelude.{Option, Some, None}
use Prim.Native.Nat.{ℕ, ◌+◌}
use borrow.Author.Tests.{eq-eqb, ne_eqb}
use Rattle.lockpage.specs.Geometry.{Geometry}
use Rattle.lockpage.specs.declared.Entry.{Entry}
use Rattle.lockpage.specs.declared.Update.{Update}
use Rattle.lockpage.specs.Update.{updated}
use Rattle.addressing.specs.Map.{group_of}
use Rattle.versions_forecast.specs.Stages.{entries_for, raised}

-- ---- the count of block a's group after a command on another block, or on a: g and h are the two groups, n is the count that was read

module _ (γ : Geometry) (counts : ℕ → ℕ) (block a g h n : ℕ) (eg : g ≡ group_of γ a) (eh : h ≡ group_of γ block) (en : n ≡ counts g) where
  pub count_same : h ≡ g → n + 1 ≡ raised γ counts block (group_of γ a)
  count_same e =
      ap (λ (i : ℕ). i + 1) (en ∙ ap counts (sym e ∙ eh))
      ∙ sym (ap (λ (b : Bool). elim b [ true ↦ counts (group_of γ block) + 1 | false ↦ counts (group_of γ a) ]) (eq-eqb _ _ (sym eg ∙ sym e ∙ eh)))

  pub count_other : (h ≡ g → ⊥) → n ≡ raised γ counts block (group_of γ a)
  count_other d =
      en
      ∙ ap counts eg
      ∙ sym (ap (λ (b : Bool). elim b [ true ↦ counts (group_of γ block) + 1 | false ↦ counts (group_of γ a) ]) (ne_eqb _ _ (λ e. d (eh ∙ sym e ∙ sym eg))))

-- ---- its entry, after a command on a block or on none

module _ (entries : ℕ → Entry) (u : Update) (now a : ℕ) where
  pub entry_own : (block : Option ℕ) → block ≡ Some a → entries_for entries u block now a ≡ updated u now (entries a)
  unfolding entries_for
  entry_own block e =
      ap (λ (o : Option ℕ). entries_for entries u o now a) e
      ∙ ap (λ (b : Bool). elim b [ true ↦ updated u now (entries a) | false ↦ entries a ]) (eq-eqb a a refl)

  pub entry_kept : (block : Option ℕ) → (block ≡ Some a → ⊥) → entries_for entries u block now a ≡ entries a
  unfolding entries_for
  entry_kept None d = refl
  entry_kept (Some b) d = ap (λ (x : Bool). elim x [ true ↦ updated u now (entries a) | false ↦ entries a ]) (ne_eqb a b (λ e. d (ap Some (sym e))))
