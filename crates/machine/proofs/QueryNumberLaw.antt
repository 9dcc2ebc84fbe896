-- Which number a query answers that questions 1, 2 and 4 let pass. Assumes nothing.
use mathlib.Core.Path.{◌≡◌, refl, ap, sym, ◌∙◌}
use mathlib.Core.Bool.{true, false, not}
use mathlib.Mathlib.Data.Bool.Basic.{and_intro, eq-false_of_not-eq-true}
use mathlib.Core.List.{[], ◌∷◌, all}
use Prim.Native.Nat.{ℕ, ◌*◌, ◌≤◌, ◌<◌}
use native.Mathlib.Omega.{arith}
use borrow.Author.Tests.{eq-eqb, ne_eqb, le-leb, lt-ltb, le-ltb}
use lib.Dec.{eqb, ltb}
use lib.ListN.{length}
use Rattle.lockpage.specs.Geometry.{Geometry, Proper}
use Rattle.lockpage.specs.Update.{latest_time}
use Rattle.addressing.specs.Map.{disk_size, data_blocks}
use Rattle.memory.specs.Memory.{last_time, groups}
use Rattle.machine.specs.Command.{Box}
use Rattle.machine.specs.Question.{passes, first_no}
use Rattle.machine.specs.Query.{Query, number_count, block_number, numbers, shown_size, question12, list_question5, list_question6, query_step}
use Rattle.machine.specs.Claims.{ValidBox}
use Rattle.machine.specs.QueryClaims.{IsList, NumberAnswered}
use Rattle.machine.proofs.QuestionLaw.{says_no, goes_on}
use Rattle.machine.proofs.ListedLaw.{all_listed, not_all_listed}
use Rattle.machine.proofs.QueryLaw.{list_yes, list_counted, list_passes, from_sixth, from_fifth, from_twelfth, query_number}

-- γ is any proper geometry; box s is valid and the query in time
module _ {γ : Geometry} (σ : Proper γ) (s : Box) (q : Query) (v : ValidBox γ s) (later : last_time γ s.memory ≤ q.now) (early : q.now ≤ latest_time) where
  abbrev limit : ℕ
  limit = data_blocks γ (groups γ s.memory)

  twelfth : (query_step γ s q).number ≡ first_no (question12 q.blocks ∷ from_fifth γ s q)
  twelfth =
      query_number σ s q
      ∙ from_twelfth σ s q (
        v.memory,
        (
          eq-eqb (length s.disk) (disk_size γ (groups γ s.memory)) v.disk,
          (and_intro (le-leb (last_time γ s.memory) q.now later) (le-leb q.now latest_time early), tt),
        ),
      )

  fifth : (n : ℕ) → IsList q.blocks n → (query_step γ s q).number ≡ first_no (from_fifth γ s q)
  fifth n h =
      twelfth
      ∙ sym (goes_on (question12 q.blocks) (from_fifth γ s q) (passes (question12 q.blocks)) refl (ap not (list_passes q.blocks n h)))

  sixth : (n : ℕ) → IsList q.blocks n → ((i : ℕ) → i < n → block_number q.blocks i < limit) → (query_step γ s q).number ≡ first_no (from_sixth q)
  sixth n h below =
      let yes : all (numbers q.blocks) (λ a. ltb a limit) ≡ true =
      all_listed (block_number q.blocks) (λ a. ltb a limit) 0 (number_count q.blocks)
      (λ i a b. lt-ltb (block_number q.blocks i) limit (below i (omega (arith, list_counted q.blocks n h)))) in
      fifth n h ∙ sym (goes_on (list_question5 γ (groups γ s.memory) (numbers q.blocks)) (from_sixth q) _ refl (ap not yes))

  pub number_answered : NumberAnswered γ s q
  unfolding first_no
  number_answered =
      record {
        no_list =
            λ none.
            let no : passes (question12 q.blocks) ≡ false =
            eq-false_of_not-eq-true (λ y. none (number_count q.blocks) (list_yes q.blocks y)) in
            twelfth ∙ sym (says_no 12 (question12 q.blocks) (from_fifth γ s q) (passes (question12 q.blocks)) refl refl (ap not no));
        out_of_range =
            λ n h i b above.
            let no : all (numbers q.blocks) (λ a. ltb a limit) ≡ false =
            not_all_listed (block_number q.blocks) (λ a. ltb a limit) 0 (number_count q.blocks) i (omega arith)
            (omega (arith, list_counted q.blocks n h)) (le-ltb (block_number q.blocks i) limit above) in
            fifth n h ∙ sym (says_no 5 (list_question5 γ (groups γ s.memory) (numbers q.blocks)) (from_sixth q) _ refl refl (ap not no));
        other_length =
            λ n h below other.
            let no : eqb (length q.answer) (shown_size * number_count q.blocks) ≡ false =
            ne_eqb (length q.answer) (shown_size * number_count q.blocks)
            (λ e. other (e ∙ ap (λ (k : ℕ). shown_size * k) (list_counted q.blocks n h))) in
            sixth n h below ∙ sym (says_no 6 (list_question6 q.blocks q.answer) [] _ refl refl (ap not no));
        passes =
            λ n h below size.
            let yes : eqb (length q.answer) (shown_size * number_count q.blocks) ≡ true =
            eq-eqb (length q.answer) (shown_size * number_count q.blocks)
            (size ∙ ap (λ (k : ℕ). shown_size * k) (sym (list_counted q.blocks n h))) in
            sixth n h below ∙ sym (goes_on (list_question6 q.blocks q.answer) [] _ refl (ap not yes));
      }
