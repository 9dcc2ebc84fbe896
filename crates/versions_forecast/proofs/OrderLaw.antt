-- The number of one command, from what the code asks together; and the version replaced, if there is one. Assumes nothing.
use mathlib.Core.Path.{◌≡◌, refl, ap, ap₂, sym, ◌∙◌}
use mathlib.Core.Bool.{Bool, true, false, not}
use mathlib.Core.List.{List, [], ◌∷◌}
use Rattle.std.specs.Prelude.{Option, Some, None}
use Prim.Native.Nat.{ℕ}
use borrow.Author.Tests.{eq-eqb, ne_eqb}
use lib.ListN.{length}
use lib.Dec.{eqb, ltb}
use Rattle.lockpage.specs.Geometry.{Geometry}
use Rattle.lockpage.specs.declared.Entry.{Entry}
use Rattle.lockpage.specs.declared.Update.TheVariants.{Unfreeze}
use Rattle.lockpage.specs.Update.{updated}
use Rattle.addressing.specs.Map.{data_blocks, group_of}
use Rattle.machine.specs.declared.Kind.TheVariants.{Change}
use Rattle.machine.specs.Question.{Question, Put, first_no, content_length}
use Rattle.machine.proofs.CaseLaw.{same_or_not}
use Rattle.machine.proofs.QuestionLaw.{says_no, goes_on}
use Rattle.versions_machine.specs.Plan.{Order, writing, unfreezing, unfreezes}
use Rattle.versions_machine.specs.Foresight.{questions_left, entries_after, foreseen}
use Rattle.versions_machine.proofs.ForesightLaw.{foreseen_on, foreseen_stops}
use Rattle.versions_forecast.specs.Stages.{last_questions, entries_for, entries_past, raised, raised_for, counts_past}

-- ---- a command by itself, in a box with so many groups, these counts and these entries

module _ (γ : Geometry) (G : ℕ) (counts : ℕ → ℕ) (entries : ℕ → Entry) where
  pub foreseen_one : (o : Order)
      → foreseen γ G counts entries (o ∷ []) ≡ first_no (questions_left γ G (counts (group_of γ o.block)) (entries o.block) o)
  unfolding foreseen
  foreseen_one o =
      same_or_not (first_no (questions_left γ G (counts (group_of γ o.block)) (entries o.block) o)) 0
      (λ e. foreseen_on γ G counts entries o [] e ∙ sym e) (λ d. foreseen_stops γ G counts entries o [] d)

  -- its content has its kind's length; b is whether its block is in the box
  module _ (o : Order) (sized : length o.content ≡ content_length γ (Change o.update)) (b : Bool) (eb : b ≡ ltb o.block (data_blocks γ G)) where
    -- the last three questions, with the count and the entry
    abbrev last : ℕ → Entry → List Question
    last n e = last_questions n o.update o.now e

    abbrev from_6 : List Question
    from_6 = Put 6 (eqb (length o.content) (content_length γ (Change o.update))) ∷ last (counts (group_of γ o.block)) (entries o.block)

    pub outside : b ≡ false → 5 ≡ foreseen γ G counts entries (o ∷ [])
    outside x = says_no 5 (Put 5 (ltb o.block (data_blocks γ G))) from_6 b refl eb (ap not x) ∙ sym (foreseen_one o)

    pub inside : b ≡ true → (n : ℕ) (e : Entry) (r : ℕ) → n ≡ counts (group_of γ o.block) → e ≡ entries o.block → r ≡ first_no (last n e)
        → r ≡ foreseen γ G counts entries (o ∷ [])
    inside x n e r en ee er =
        er
        ∙ ap₂ (λ (k : ℕ) (i : Entry). first_no (last k i)) en ee
        ∙ goes_on (Put 6 (eqb (length o.content) (content_length γ (Change o.update)))) (last (counts (group_of γ o.block)) (entries o.block)) true
        (sym (eq-eqb _ _ sized)) refl
        ∙ goes_on (Put 5 (ltb o.block (data_blocks γ G))) from_6 b eb (ap not x)
        ∙ sym (foreseen_one o)

  -- ---- the unfreeze of the version replaced, if there is one

  pub unfreeze_none : (now : ℕ) → 0 ≡ foreseen γ G counts entries (unfreezes None now)
  unfolding foreseen unfreezes
  unfreeze_none now = refl

  pub unfreeze_some : (block now r : ℕ) → r ≡ foreseen γ G counts entries (unfreezing block now ∷ [])
      → r ≡ foreseen γ G counts entries (unfreezes (Some block) now)
  unfolding unfreezes
  unfreeze_some block now r e = e

-- ---- the counts and the entries after both

module _ (γ : Geometry) (counts : ℕ → ℕ) (block now lock : ℕ) where
  pub counts_before_log : (replaced : Option ℕ)
      → raised_for γ (raised γ counts block) replaced ≡ counts_past γ counts (writing block now lock [] ∷ unfreezes replaced now)
  unfolding raised_for unfreezes
  counts_before_log None = refl
  counts_before_log (Some a) = refl

module _ (entries : ℕ → Entry) (block now lock : ℕ) where
  -- a block that is not the one written has the entry that it had
  pub entry_unwritten : (a : ℕ) → (block ≡ a → ⊥) → entries_after entries (writing block now lock []) a ≡ entries a
  entry_unwritten a d =
      ap (λ (b : Bool). elim b [ true ↦ updated (writing block now lock []).update now (entries a) | false ↦ entries a ]) (ne_eqb a block (λ e. d (sym e)))

  pub entry_before_log : (replaced : Option ℕ) (a : ℕ) → (block ≡ a → ⊥)
      → entries_for entries Unfreeze replaced now a ≡ entries_past entries (writing block now lock [] ∷ unfreezes replaced now) a
  unfolding entries_for unfreezes
  entry_before_log None a d = sym (entry_unwritten a d)
  entry_before_log (Some old) a d = ap (λ (i : Entry). elim (eqb a old) [ true ↦ updated Unfreeze now i | false ↦ i ]) (sym (entry_unwritten a d))
