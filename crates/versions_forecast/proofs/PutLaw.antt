-- The number of a put's commands, from the numbers of its three parts. Assumes nothing.
use mathlib.Core.Path.{◌≡◌, refl, ap, sym, subst, ◌∙◌}
use mathlib.Core.Bool.{Bool, true, false}
use mathlib.Core.List.{List, [], ◌∷◌, ◌++◌}
use Rattle.std.specs.Prelude.{Option, Some}
use Prim.Native.Nat.{ℕ}
use Rattle.lockpage.specs.Geometry.{Geometry}
use Rattle.lockpage.specs.declared.Entry.{Entry}
use Rattle.lockpage.specs.declared.Update.TheVariants.{Unfreeze}
use Rattle.lockpage.specs.Update.{updated, within_limit}
use Rattle.addressing.specs.Map.{group_of}
use Rattle.machine.specs.Question.{first_no}
use Rattle.machine.proofs.CaseLaw.{same_or_not}
use Rattle.machine.proofs.QuestionLaw.{numbered_to, accepted_yes}
use Rattle.versions_machine.specs.Plan.{Order, writing, unfreezing, unfreezes}
use Rattle.versions_machine.specs.Foresight.{questions_left, counts_after, entries_after, foreseen}
use Rattle.versions_machine.proofs.ForesightLaw.{foreseen_on, foreseen_stops}
use Rattle.versions_forecast.specs.Orders.{log_order, put_orders}
use Rattle.versions_forecast.specs.Stages.{entries_past, counts_past}
use Rattle.versions_forecast.proofs.OrderLaw.{foreseen_one, entry_unwritten}

module _ (γ : Geometry) (G : ℕ) where
  -- ---- some commands, and then others

  module _ (later : List Order) where
    -- where the first are all accepted, the others' number counts
    pub foreseen_then : (counts : ℕ → ℕ) (entries : ℕ → Entry) (os : List Order) → foreseen γ G counts entries os ≡ 0
        → foreseen γ G counts entries (os ++ later) ≡ foreseen γ G (counts_past γ counts os) (entries_past entries os) later
    foreseen_then counts entries [] z = refl
    foreseen_then counts entries (o ∷ os) z =
        same_or_not (first_no (questions_left γ G (counts (group_of γ o.block)) (entries o.block) o)) 0
        (λ e.
        foreseen_on γ G counts entries o (os ++ later) e
        ∙ foreseen_then (counts_after γ counts o) (entries_after entries o) os (sym (foreseen_on γ G counts entries o os e) ∙ z))
        (λ d. absurd (d (sym (foreseen_stops γ G counts entries o os d) ∙ z)))

    -- else theirs does
    pub foreseen_early : (counts : ℕ → ℕ) (entries : ℕ → Entry) (os : List Order) → (foreseen γ G counts entries os ≡ 0 → ⊥)
        → foreseen γ G counts entries (os ++ later) ≡ foreseen γ G counts entries os
    unfolding foreseen
    foreseen_early counts entries [] z = absurd (z refl)
    foreseen_early counts entries (o ∷ os) z =
        same_or_not (first_no (questions_left γ G (counts (group_of γ o.block)) (entries o.block) o)) 0
        (λ e.
        foreseen_on γ G counts entries o (os ++ later) e
        ∙ foreseen_early (counts_after γ counts o) (entries_after entries o) os (λ x. z (foreseen_on γ G counts entries o os e ∙ x))
        ∙ sym (foreseen_on γ G counts entries o os e))
        (λ d. foreseen_stops γ G counts entries o (os ++ later) d ∙ sym (foreseen_stops γ G counts entries o os d))

  -- ---- the three parts of a put

  module _ (counts : ℕ → ℕ) (entries : ℕ → Entry) (block now lock : ℕ) (content : List ℕ) (replaced : Option ℕ) (due : Bool) (reserve : ℕ) where
    -- the counts and the entries after the first command
    abbrev counts_1 : ℕ → ℕ
    counts_1 = counts_past γ counts (writing block now lock [] ∷ [])

    abbrev entries_1 : ℕ → Entry
    entries_1 = entries_past entries (writing block now lock [] ∷ [])

    -- the log block's number after both, if it is due or not
    abbrev number : Bool → ℕ
    number b =
        foreseen γ G (counts_past γ counts_1 (unfreezes replaced now)) (entries_past entries_1 (unfreezes replaced now)) (log_order γ b reserve now lock)

    -- the commands after the first, and all of them
    abbrev others : List Order
    others = unfreezes replaced now ++ log_order γ due reserve now lock

    abbrev all : List Order
    all = put_orders γ block now lock content replaced due reserve

    -- the first's number
    module _ (n : ℕ) (en : n ≡ first_no (questions_left γ G (counts (group_of γ block)) (entries block) (writing block now lock content))) where
      pub first_refused : (n ≡ 0 → ⊥) → n ≡ foreseen γ G counts entries all
      unfolding put_orders
      first_refused d = en ∙ sym (foreseen_stops γ G counts entries (writing block now lock content) others (λ z. d (en ∙ z)))

      first_passed : n ≡ 0 → foreseen γ G counts_1 entries_1 others ≡ foreseen γ G counts entries all
      unfolding put_orders
      first_passed z = sym (foreseen_on γ G counts entries (writing block now lock content) others (sym en ∙ z))

      -- the second's
      module _ (z : n ≡ 0) (k : ℕ) (ek : k ≡ foreseen γ G counts_1 entries_1 (unfreezes replaced now)) where
        pub second_refused : (k ≡ 0 → ⊥) → k ≡ foreseen γ G counts entries all
        second_refused d =
            ek
            ∙ sym (foreseen_early (log_order γ due reserve now lock) counts_1 entries_1 (unfreezes replaced now) (λ x. d (ek ∙ x)))
            ∙ first_passed z

        second_passed : k ≡ 0 → number due ≡ foreseen γ G counts entries all
        second_passed y =
            sym (foreseen_then (log_order γ due reserve now lock) counts_1 entries_1 (unfreezes replaced now) (sym ek ∙ y)) ∙ first_passed z

        -- the log block's
        pub log_not_due : k ≡ 0 → due ≡ false → 0 ≡ foreseen γ G counts entries all
        unfolding foreseen log_order
        log_not_due y d = ap number (sym d) ∙ second_passed y

        pub log_due : k ≡ 0 → due ≡ true → (r : ℕ) → r ≡ number true → r ≡ foreseen γ G counts entries all
        log_due y d r er = er ∙ ap number (sym d) ∙ second_passed y

        -- a reserve that was unfrozen has an expiry within its limit
        pub unfrozen_within : k ≡ 0 → (block ≡ reserve → ⊥) → replaced ≡ Some reserve → within_limit (updated Unfreeze now (entries reserve)) ≡ true
        unfolding unfreezes numbered_to
        unfrozen_within y d e =
            let alone = ap (λ (x : Option ℕ). foreseen γ G counts_1 entries_1 (unfreezes x now)) (sym e) in
            let left = questions_left γ G (counts_1 (group_of γ reserve)) (entries_1 reserve) (unfreezing reserve now) in
            let yes = accepted_yes 10 left refl (sym (foreseen_one γ G counts_1 entries_1 (unfreezing reserve now)) ∙ alone ∙ sym ek ∙ y) in
            subst (λ (i : Entry). within_limit (updated Unfreeze now i) ≡ true) (entry_unwritten entries block now lock reserve d) yes.1.1.1.1.0
